-- `answer::reader::taxa_in` meets its contract. The invariant: those read so far stand in front.
use mathlib.Core.Path.{◌≡◌}
use lib.ListN.{length}
use Rattle.record.specs.Bytes.{over}
use Rattle.answer.specs.Content.{taxa_in}
use Rattle.answer.proofs.reader.taxa_in.Given as goal

abbrev pub invariant-loop-i : goal.invariant-loop-i
invariant-loop-i l = (length l.initial.taxa ≡ 63) × (l.taxa ≡ over (taxa_in l.file l.i) 0 l.initial.taxa)
