-- `matrix::writer::put_column` meets its contract: the opening and three numbers, one after the other.
use native.Mathlib.Omega.{arith}
use lib.ListN.{length-append}
use Rattle.record.proofs.Numbers.{length_bytes}
use Rattle.record.proofs.Files.{length_opening}
use Rattle.record.proofs.Over.{next}
use Rattle.matrix.proofs.Writing.{column_flat}
use Rattle.matrix.proofs.writer.put_column.Goals as goal

pub returns : goal.returns
returns c =
    let opened = rw c.of.ensures at c.put_opening.ensures in
    let one = next _ _ _ _ _ opened c.put16.ensures (omega arith) (simp length_opening) in
    let two = next _ _ _ _ _ one c.put64.ensures (omega arith) (simp (length-append, length_opening, length_bytes)) in
    rw (column_flat _) (next _ _ _ _ _ two c.put64-2.ensures (omega arith) (simp (length-append, length_opening, length_bytes)))
