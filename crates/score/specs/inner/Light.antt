-- What keeps the sums of a score within their numbers.
use Rattle.std.specs.Prelude.{ℕ, ◌≤◌}
use Rattle.taxa.specs.Sets.{mass}
use Rattle.matrix.specs.declared.Column.{Column}

-- The specimens that the 0s of a column stand for, and those that its 1s do: "the sum is [not] above 127".
pub record Light (μ : ℕ → ℕ) (c : Column) : Type 0 where
  pub ones_few : mass 64 μ c.ones ≤ 127
  pub zeros_few : mass 64 μ c.zeros ≤ 127

-- The most that a column raises, or lowers: 127 flips of a weight of 65,535.
abbrev pub column_most : ℕ
column_most = 8322945
