-- `flipcut::matrices::flipcut_flips` meets its contract: what the operation answers fits its bits.
use native.Mathlib.Omega.{arith}
use Rattle.flipcut.proofs.Fitting.{flips_fit}
use Rattle.flipcut.proofs.matrices.flipcut_flips.Goals as goal

pub build-requires : goal.build-requires
build-requires c =
    rw c.flips.ensures.answers (flips_fit (record { byte = λ i. omega (arith, c.type_inv.matrix i) }) _ _ _)
