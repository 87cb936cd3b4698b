-- `record::writer::put64` meets its contract: two numbers of half the width, one after the other.
use native.Mathlib.Omega.{arith}
use Rattle.record.proofs.Numbers.{bytes_add, length_bytes}
use Rattle.record.proofs.Over.{next}
use Rattle.record.proofs.writer.put64.Goals as goal

pub returns : goal.returns
returns c =
    rw (bytes_add 4 4) (next _ _ _ _ _ c.put32.ensures c.put32-2.ensures (omega arith) (simp length_bytes))
