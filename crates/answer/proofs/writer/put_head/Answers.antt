-- `answer::writer::put_head` meets its contract: the opening and five numbers, one after the other.
use lib.ListN.{length-append}
use Rattle.record.proofs.Numbers.{length_bytes}
use Rattle.record.proofs.Files.{length_opening}
use Rattle.record.proofs.Over.{next}
use Rattle.answer.proofs.Pieces.{head_flat}
use native.Mathlib.Omega.{arith}
use Rattle.answer.proofs.writer.put_head.Goals as goal

pub returns : goal.returns
returns c =
    rw (head_flat _ _ _ _ _) (next _ _ _ _ _ (next _ _ _ _ _ (next _ _ _ _ _ (next _ _ _ _ _ (next _ _ _ _ _ (rw c.of.ensures at c.put_opening.ensures) c.put16.ensures (omega arith) (simp (length-append, length_opening, length_bytes))) c.put16-2.ensures (omega arith) (simp (length-append, length_opening, length_bytes))) c.put16-3.ensures (omega arith) (simp (length-append, length_opening, length_bytes))) c.put16-4.ensures (omega arith) (simp (length-append, length_opening, length_bytes))) c.put32.ensures (omega arith) (simp (length-append, length_opening, length_bytes)))
