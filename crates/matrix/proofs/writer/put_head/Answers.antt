-- `matrix::writer::put_head` meets its contract: the opening and two numbers, one after the other.
use native.Mathlib.Omega.{arith}
use lib.ListN.{length-append}
use Rattle.record.proofs.Numbers.{length_bytes}
use Rattle.record.proofs.Files.{length_opening}
use Rattle.record.proofs.Over.{next}
use Rattle.matrix.proofs.Writing.{head_flat}
use Rattle.matrix.proofs.writer.put_head.Goals as goal

pub returns : goal.returns
returns c =
    let opened = rw c.of.ensures at c.put_opening.ensures in
    let one = next _ _ _ _ _ opened c.put16.ensures (omega arith) (simp length_opening) in
    rw (head_flat _ _) (next _ _ _ _ _ one c.put16-2.ensures (omega arith) (simp (length-append, length_opening, length_bytes)))
