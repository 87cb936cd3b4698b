-- The method before C-14, where a, b and z count taxa: kept only to state that a matrix without multiplicities has the answer it had
-- (proofs/Counted.antt). Each definition is the one of Split, Tree or Flow of the same name, with counts in place of masses.
use Rattle.std.specs.Prelude.{Bool, true, false, ◌&&◌, cond, List, [], ◌∷◌, ℕ, zero, suc, ◌+◌, ◌*◌, ◌^◌, min, leb, ltb, eqb, length}
use Rattle.taxa.specs.Sum.{sum, inside}
use Rattle.taxa.specs.Sets.{has, ◌∩◌, ◌∖◌, within, count, low, all}
use Rattle.method.specs.Split.{Column, raise, lower, least, division, parted}
use Rattle.method.specs.Tree.{Walk, leaf, walked, ordered, Flips, flip_list, total, Answer, column}
use Rattle.method.specs.Flow.{joined}

module _ (k : ℕ) where
  unfoldable pub share : ℕ → ℕ → Column → ℕ
  share S A c = min (min (count k (c.ones ∩ A)) (count k (c.ones ∩ (S ∖ A)))) (count k (c.zeros ∩ S))

  unfoldable pub flip : ℕ → ℕ → Column → Column
  flip S A c =
      let a = count k (c.ones ∩ A) in
      let b = count k (c.ones ∩ (S ∖ A)) in
      let z = count k (c.zeros ∩ S) in
      cond (leb z (min a b)) (raise S c) (cond (leb a b) (lower A c) (lower (S ∖ A) c))

  unfoldable pub cap : ℕ → Column → ℕ → ℕ
  cap S c = inside (has (joined k S c)) (λ i. c.weight)

  unfoldable pub through : ℕ → Column → ℕ
  through S c = c.weight * count k (c.zeros ∩ S)

  unfoldable pub weighed_flips : (ℕ → Column) → List Flips → ℕ
  weighed_flips cols [] = 0
  weighed_flips cols (f ∷ fs) = (cols f.column).weight * (count k f.raised + count k f.lowered) + weighed_flips cols fs

  module _ (m : ℕ) (cols : ℕ → Column) (S : ℕ) where
    unfoldable pub division_cost : ℕ → ℕ
    division_cost A = sum m (λ c. (cols c).weight * share S A (cols c))

    unfoldable pub key : ℕ → ℕ
    key A = (division_cost A * suc k + parted k S A) * suc k + count k A

    unfoldable pub side : ℕ
    side = least (division k S) key (2 ^ low k S) S

    unfoldable pub after : ℕ → Column
    after c = flip S side (cols c)

    unfoldable pub apart : ℕ → Bool
    apart A = eqb (sum m (λ c. share S A (cols c))) 0

    unfoldable pub part : ℕ → ℕ
    part i = least (λ A. within A S && has A i && apart A) (λ A. A) S S

    unfoldable pub parts_of : ℕ → ℕ → List ℕ
    parts_of zero R = []
    parts_of (suc f) R = elim R [ zero ↦ [] | suc r ↦ let P = part (low k (suc r)) in P ∷ parts_of f (suc r ∖ P) ]

  module _ (m : ℕ) where
    unfoldable pub node : ((ℕ → Column) → ℕ → Walk) → (ℕ → Column) → ℕ → Walk
    node g cols S =
        let below = walked g (after m cols S) (parts_of m (after m cols S) S k S) in
        record { columns = below.columns; groups = record { taxa = S; cost = division_cost m cols S (side m cols S) } ∷ below.groups }

    unfoldable pub grown : ℕ → (ℕ → Column) → ℕ → Walk
    grown zero cols S = leaf cols
    grown (suc f) cols S = elim (ltb 1 (count k S)) [ false ↦ leaf cols | true ↦ node (grown f) cols S ]

unfoldable pub answer : ℕ → List Column → Answer
answer n cs =
    let walk = grown 64 (length cs) (count 64 (all n)) (column cs) (all n) in
    let groups = ordered 64 n walk.groups in
    record { groups = groups; flips = flip_list (length cs) (column cs) walk.columns; total = total groups }
