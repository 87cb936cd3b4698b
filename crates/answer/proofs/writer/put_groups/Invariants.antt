-- `answer::writer::put_groups` meets its contract. The invariant: the records written so far stand at the front.
use mathlib.Core.Path.{◌≡◌}
use lib.ListN.{length}
use Rattle.record.specs.Bytes.{over}
use Rattle.answer.specs.Content.{run, group_record}
use Rattle.answer.proofs.writer.put_groups.Given as goal

abbrev pub invariant-loop-i : goal.invariant-loop-i
invariant-loop-i l = (length l.out ≡ length l.initial.out) × (l.out ≡ over (run (group_record l.taxa l.costs) l.i) 0 l.initial.out)
