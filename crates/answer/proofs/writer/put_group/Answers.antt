-- `answer::writer::put_group` meets its contract: the opening and two numbers, one after the other.
use lib.ListN.{length-append}
use Rattle.record.proofs.Numbers.{length_bytes}
use Rattle.record.proofs.Files.{length_opening}
use Rattle.record.proofs.Over.{next}
use Rattle.answer.proofs.Pieces.{group_flat}
use native.Mathlib.Omega.{arith}
use Rattle.answer.proofs.writer.put_group.Goals as goal

pub returns : goal.returns
returns c =
    rw (group_flat _ _) (next _ _ _ _ _ (next _ _ _ _ _ (rw c.of.ensures at c.put_opening.ensures) c.put64.ensures (omega arith) (simp (length-append, length_opening, length_bytes))) c.put32.ensures (omega arith) (simp (length-append, length_opening, length_bytes)))
