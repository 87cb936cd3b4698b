-- `answer::writer::put_entry` meets its contract: the opening and three numbers, one after the other.
use lib.ListN.{length-append}
use Rattle.record.proofs.Numbers.{length_bytes}
use Rattle.record.proofs.Files.{length_opening}
use Rattle.record.proofs.Over.{next}
use Rattle.answer.proofs.Pieces.{flips_flat}
use native.Mathlib.Omega.{arith}
use Rattle.answer.proofs.writer.put_entry.Goals as goal

pub returns : goal.returns
returns c =
    rw (flips_flat _ _ _) (next _ _ _ _ _ (next _ _ _ _ _ (next _ _ _ _ _ (rw c.of.ensures at c.put_opening.ensures) c.put16.ensures (omega arith) (simp (length-append, length_opening, length_bytes))) c.put64.ensures (omega arith) (simp (length-append, length_opening, length_bytes))) c.put64-2.ensures (omega arith) (simp (length-append, length_opening, length_bytes)))
