-- `matrix::writer::put_end` meets its contract: the record has no payload.
use Rattle.record.proofs.Files.{opening_only}
use Rattle.matrix.proofs.writer.put_end.Goals as goal

pub returns : goal.returns
returns c = rw (opening_only, ← c.of.ensures) c.put_opening.ensures
