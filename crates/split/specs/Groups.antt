-- What the split of a group comes to, in the method's words, with sets of 64 taxa.
use Rattle.std.specs.Prelude.{◌≡◌, ℕ}
use Rattle.method.specs.Split.{Column, side, split_cost, parted}

-- The cost, the side A and the taxon t are those of the method's split of S.
pub record IsSplit (μ : ℕ → ℕ) (m : ℕ) (cols : ℕ → Column) (S cost A t : ℕ) : Type 0 where
  pub is_cost : cost ≡ split_cost 64 μ m cols S
  pub is_side : A ≡ side 64 μ m cols S
  pub is_parted : t ≡ parted 64 S (side 64 μ m cols S)
