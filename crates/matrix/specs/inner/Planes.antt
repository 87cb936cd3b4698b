-- What is asked where the planes of a file's multiplicities are made.
use Rattle.std.specs.Prelude.{List, ℕ, ◌+◌, ◌≤◌, length}
use Rattle.taxa.specs.Sets.{Multiplicities}
use Rattle.matrix.specs.Matrix.{multiplicity_count, multiplicities_in}

-- What is asked of a file whose multiplicities are read; the check sees to it.
pub record Multiplied (file : List ℕ) : Type 0 where
  pub long : 12 + multiplicity_count file ≤ length file
  pub fit : Multiplicities (multiplicities_in file)
