-- `flipcut::trees::flipcut_write_newick` meets its contract: what the operation answers fits its bits.
use native.Mathlib.Omega.{arith}
use Rattle.flipcut.proofs.Fitting.{text_fits}
use Rattle.flipcut.proofs.trees.flipcut_write_newick.Goals as goal

pub write_newick-requires : goal.write_newick-requires
write_newick-requires c =
    rw c.write.ensures.answers (text_fits (record { byte = λ i. omega (arith, c.type_inv.answer i) }) _ _)
