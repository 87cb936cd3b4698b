-- `record::writer::put32` meets its contract: two numbers of half the width, one after the other.
use native.Mathlib.Omega.{arith}
use Rattle.record.proofs.Numbers.{bytes_add, length_bytes}
use Rattle.record.proofs.Over.{next}
use Rattle.record.proofs.writer.put32.Goals as goal

pub returns : goal.returns
returns c =
    rw (bytes_add 2 2) (next _ _ _ _ _ c.put16.ensures c.put16-2.ensures (omega arith) (simp length_bytes))
