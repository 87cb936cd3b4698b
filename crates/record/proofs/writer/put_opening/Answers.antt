-- `record::writer::put_opening` meets its contract: two numbers, one after the other.
use native.Mathlib.Omega.{arith}
use Rattle.record.specs.Records.{opening_of}
use Rattle.record.proofs.Numbers.{length_bytes}
use Rattle.record.proofs.Over.{next}
use Rattle.record.proofs.writer.put_opening.Goals as goal

pub returns : goal.returns
unfolding opening_of
returns c =
    next _ _ _ _ _ c.put16.ensures c.put16-2.ensures (omega arith) (simp length_bytes)
