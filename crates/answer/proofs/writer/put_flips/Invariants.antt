-- `answer::writer::put_flips` meets its contract. The invariant: the records written so far stand at the front.
use mathlib.Core.Path.{◌≡◌}
use lib.ListN.{length}
use Rattle.record.specs.Bytes.{over}
use Rattle.answer.specs.Content.{run, flips_record}
use Rattle.answer.proofs.writer.put_flips.Given as goal

abbrev pub invariant-loop-j : goal.invariant-loop-j
invariant-loop-j l = (length l.out ≡ length l.initial.out) × (l.out ≡ over (run (flips_record l.columns l.raised l.lowered) l.j) 0 l.initial.out)
