-- `flipcut::trees::flipcut_read_newick` meets its contract: what the operation answers fits its bits.
use Rattle.flipcut.proofs.Fitting.{trees_fit}
use Rattle.flipcut.proofs.trees.flipcut_read_newick.Goals as goal

pub read_newick-requires : goal.read_newick-requires
read_newick-requires c = rw c.read.ensures.answers (trees_fit _ _ _)
