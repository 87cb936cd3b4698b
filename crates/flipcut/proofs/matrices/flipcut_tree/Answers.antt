-- `flipcut::matrices::flipcut_tree` meets its contract: what the operation answers fits its bits.
use native.Mathlib.Omega.{arith}
use Rattle.flipcut.proofs.Fitting.{tree_fits}
use Rattle.flipcut.proofs.matrices.flipcut_tree.Goals as goal

pub build-requires : goal.build-requires
build-requires c =
    rw c.tree.ensures.answers (tree_fits (record { byte = λ i. omega (arith, c.type_inv.matrix i) }) _ _)
