-- `flipcut::matrices::flipcut_build` meets its contract: what the operation answers fits its bits.
use native.Mathlib.Omega.{arith}
use Rattle.flipcut.proofs.Fitting.{build_fits}
use Rattle.flipcut.proofs.matrices.flipcut_build.Goals as goal

pub build-requires-2 : goal.build-requires-2
build-requires-2 c =
    rw c.build.ensures.answers (build_fits (record { byte = λ i. omega (arith, c.type_inv.matrix i) }) _ _)
