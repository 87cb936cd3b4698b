-- The parts that a split hands on are what document 01 says of them (`split_components`).
use mathlib.Core.Logic.{⊎_elim}
use mathlib.Core.List.{List}
use Prim.Native.Nat.{ℕ, ◌^◌, ◌<◌}
use Rattle.taxa.specs.Sets.{◌∈◌, Disjoint, Positive, count}
use Rattle.taxa.proofs.Members.{in∖, in_pos}
use Rattle.method.specs.Split.{Column, side, after, split_parts}
use Rattle.method.specs.Tree.{Components, Line, end, and}
use Rattle.method.proofs.Parts.{Part, Parts, done, next, inside_R, cover, is_part, one_side, part_side}
use Rattle.method.proofs.Links.{linked_in, in_linked}
use Rattle.method.proofs.Splits.{part_of, split_parts_lem}
use Rattle.method.proofs.Order.{split_two}

module _ (k : ℕ) (μ : ℕ → ℕ) (m : ℕ) (cols : ℕ → Column) (S : ℕ) where
  -- A part is the part of each of its taxa.
  part_of_any : {i j P : ℕ} → Part k μ m cols S i P → j ∈ P → Part k μ m cols S j P
  part_of_any {i} {j} {P} p h = record { inside = p.inside; member = h; shut = p.shut; smallest = λ {Q} s q a. ⊎_elim (λ t. t) (λ t. absurd (((in∖ S Q).0 (t.sub h)).1 q)) (one_side k μ m cols S p s a) }

  apart_parts : {R : ℕ} {Ps : List ℕ} → Parts k μ m cols S R Ps → Line Disjoint Ps
  apart_parts done = end
  apart_parts (next {R} {P} s p ps) = and (λ Q l. record { off = λ i j. ((in∖ R P).0 ((inside_R k μ m cols S ps l).sub j)).1 i }) (apart_parts ps)

pub split_components : (k : ℕ) (μ : ℕ → ℕ) (m : ℕ) → Positive μ → (cols : ℕ → Column) (S : ℕ) → S < 2 ^ k → 1 < count k S → Components k m (after k μ m cols S) S (side k μ m cols S) (split_parts k μ m cols S)
split_components k μ m pos cols S fits two = record {
  linked = λ l i.
      let p = part_of_any k μ m (after k μ m cols S) S (is_part k μ m (after k μ m cols S) S ps l).1 i in
      (in_linked k μ m (after k μ m cols S) S pos fits p, linked_in k μ m (after k μ m cols S) S pos fits p);
  some = λ l. in_pos (is_part k μ m (after k μ m cols S) S ps l).1.member;
  disjoint = apart_parts k μ m (after k μ m cols S) S ps;
  inside = λ l. (is_part k μ m (after k μ m cols S) S ps l).1.inside;
  cover = cover k μ m (after k μ m cols S) S ps;
  two = split_two k μ m cols S fits two;
  sides = λ l. part_side k μ m cols S (side k μ m cols S) (part_of k μ m cols S fits two) (is_part k μ m (after k μ m cols S) S ps l).1;
}
  where
    ps : Parts k μ m (after k μ m cols S) S S (split_parts k μ m cols S)
    ps = split_parts_lem k μ m cols S fits two
