-- `flipcut::matrices::flipcut_split` meets its contract: what the operation answers fits its bits.
use Rattle.flipcut.proofs.Fitting.{split_fits}
use Rattle.flipcut.proofs.matrices.flipcut_split.Goals as goal

pub split-requires-2 : goal.split-requires-2
split-requires-2 c = rw c.split.ensures.answers (split_fits _ _ _)
