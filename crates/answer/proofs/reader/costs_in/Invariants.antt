-- `answer::reader::costs_in` meets its contract. The invariant: those read so far stand in front.
use mathlib.Core.Path.{◌≡◌}
use lib.ListN.{length}
use Rattle.record.specs.Bytes.{over}
use Rattle.answer.specs.Content.{costs_in}
use Rattle.answer.proofs.reader.costs_in.Given as goal

abbrev pub invariant-loop-i : goal.invariant-loop-i
invariant-loop-i l = (length l.initial.costs ≡ 63) × (l.costs ≡ over (costs_in l.file l.i) 0 l.initial.costs)
