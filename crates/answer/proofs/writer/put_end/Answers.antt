-- `answer::writer::put_end` meets its contract: the record has no payload.
use Rattle.answer.proofs.Pieces.{end_flat}
use Rattle.answer.proofs.writer.put_end.Goals as goal

pub returns : goal.returns
returns c = rw (end_flat, ← c.of.ensures) c.put_opening.ensures
