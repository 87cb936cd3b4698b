-- `flipcut::answers::flipcut_write` meets its contract: what the operation answers fits its bits.
use Rattle.flipcut.proofs.Fitting.{write_fits}
use Rattle.flipcut.proofs.answers.flipcut_write.Goals as goal

pub write-requires : goal.write-requires
write-requires c = rw c.write_answer.ensures.answers (write_fits _ _ _)
