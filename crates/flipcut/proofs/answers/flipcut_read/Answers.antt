-- `flipcut::answers::flipcut_read` meets its contract: what the operation answers fits its bits.
use Rattle.flipcut.proofs.Fitting.{read_fits}
use Rattle.flipcut.proofs.answers.flipcut_read.Goals as goal

pub read-requires : goal.read-requires
read-requires c = rw c.read_answer.ensures.answers (read_fits _ _)
