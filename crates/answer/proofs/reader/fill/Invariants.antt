-- `answer::reader::fill` meets its contract. The invariant: the entries filled so far stand in front of each part.
use mathlib.Core.Path.{◌≡◌}
use lib.ListN.{length}
use Rattle.record.specs.Bytes.{over}
use Rattle.answer.specs.Content.{columns_from, raised_from, lowered_from}
use Rattle.answer.proofs.reader.fill.Given as goal

abbrev pub invariant-loop-j : goal.invariant-loop-j
invariant-loop-j l =
    (length l.columns ≡ length l.initial.columns)
    × (length l.raised ≡ length l.initial.raised)
    × (length l.lowered ≡ length l.initial.lowered)
    × (l.columns ≡ over (columns_from l.file l.first l.j) 0 l.initial.columns)
    × (l.raised ≡ over (raised_from l.file l.first l.j) 0 l.initial.raised)
    × (l.lowered ≡ over (lowered_from l.file l.first l.j) 0 l.initial.lowered)
