-- The split of a group: its side, its columns after, and its parts, which are smaller.
use mathlib.Core.Path.{◌≡◌}
use mathlib.Core.List.{List, Memᴰ}
use Prim.Native.Nat.{ℕ, ◌^◌, ◌<◌}
use native.Mathlib.Omega.{arith}
use Rattle.taxa.specs.Sets.{◌⊆◌, Positive, count}
use Rattle.taxa.proofs.Members.{⊆-≤, below}
use Rattle.taxa.proofs.Counts.{count_in}
use Rattle.method.specs.Split.{Column, Same, flipped, side, split_cost, after, split_parts}
use Rattle.method.proofs.Flips.{Proper}
use Rattle.method.proofs.Parts.{Parts, is_part, parts_are, part_smaller}
use Rattle.method.proofs.Listing.{side_best}
use Rattle.method.proofs.Entries.{known, flip_known, flip_weight, flip_proper, flip_free, Heavy, cost_free}

module _ (k : ℕ) (μ : ℕ → ℕ) (m : ℕ) (cols : ℕ → Column) (S : ℕ) (fits : S < 2 ^ k) (two : 1 < count k S) where
  abbrev A : ℕ
  A = side k μ m cols S

  abbrev next_cols : ℕ → Column
  next_cols = after k μ m cols S

  abbrev Ps : List ℕ
  Ps = split_parts k μ m cols S

  pub part_of : A ⊆ S
  part_of = (side_best k μ m cols S fits two).is_division.inside

  pub split_parts_lem : Parts k μ m next_cols S S Ps
  split_parts_lem = parts_are k μ m next_cols S fits

  pub after_weight : (c : ℕ) → (next_cols c).weight ≡ (cols c).weight
  unfolding flipped
  after_weight c = flip_weight k μ S A (cols c)

  pub after_known : (c : ℕ) → known (next_cols c) ≡ known (cols c)
  unfolding flipped
  after_known c = flip_known k μ S A part_of (cols c)

  pub after_proper : ((c : ℕ) → Proper (cols c)) → (c : ℕ) → Proper (next_cols c)
  unfolding flipped
  after_proper q c = flip_proper k μ S A part_of (cols c) (q c)

  -- A split that costs nothing changes nothing.
  pub after_same : Positive μ → Heavy m cols → split_cost k μ m cols S ≡ 0 → (c i : ℕ) → c < m → Same (cols c) (next_cols c) i
  unfolding flipped
  after_same pos h e c i b = flip_free k μ S A part_of (cols c) pos fits (cost_free k μ m cols S A h e c b) i

  -- A part is a smaller set, and not empty.
  pub part_in : {P : ℕ} → Memᴰ P Ps → (P < 2 ^ k) × (0 < count k P) × (count k P < count k S)
  part_in l =
      let p = (is_part k μ m next_cols S split_parts_lem l).1 in
      (omega (arith, ⊆-≤ p.inside), count_in k (below k fits (p.inside.sub p.member)) p.member, part_smaller k μ m cols S A part_of fits (side_best k μ m cols S fits two).is_division p)
