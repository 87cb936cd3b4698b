-- The columns of a file that the check takes are light (`taken_light`): their 0s stand for at most 127 specimens, and so do their 1s, since all taxa
-- together do.
use mathlib.Core.Path.{◌≡◌}
use mathlib.Core.List.{List}
use Prim.Native.Nat.{ℕ, ◌≤◌, ◌<◌}
use native.Mathlib.Omega.{arith}
use Rattle.std.specs.Prelude.{Ok}
use Rattle.taxa.specs.Sum.{sum}
use Rattle.taxa.specs.Sets.{◌⊆◌, mass, all}
use Rattle.taxa.proofs.Masses.{mass_⊆, mass_all}
use Rattle.record.specs.Bytes.{File}
use Rattle.matrix.specs.declared.Column.{Column}
use Rattle.matrix.specs.Matrix.{LegalColumn, column_in, matrix_of}
use Rattle.matrix.specs.Check.{checked, shape}
use Rattle.matrix.proofs.Taken.{taken_legal, taken_column}
use Rattle.matrix.proofs.Multiplying.{legal_merged}
use Rattle.score.specs.inner.Light.{Light}
use Rattle.score.specs.Operation.{stand_for}

-- A legal column is light where all n taxa are.
legal_light : {μ : ℕ → ℕ} {n : ℕ} {c : Column} → n ≤ 64 → sum n μ ≤ 127 → LegalColumn n c → Light μ c
legal_light {μ} {n} few merged l =
    let most : (x : ℕ) → x ⊆ all n → mass 64 μ x ≤ 127 = λ x s. omega (arith, mass_⊆ 64 μ s, mass_all μ few) in
    record { ones_few = most _ l.ones_known; zeros_few = most _ l.zeros_known }

module _ {file : List ℕ} (f : File file) {n m : ℕ} (taken : Ok (shape n m) ≡ checked file) where
  pub taken_light : (j : ℕ) → j < m → Light (stand_for file) (column_in file j)
  unfolding matrix_of
  taken_light j b = legal_light (taken_legal f taken).taxa_fit (legal_merged (taken_legal f taken)) (taken_column f taken j b)
