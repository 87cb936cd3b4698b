-- `newick::Book::read_text` meets its contract. The invariant: the reader stands between tokens, past the blanks, and all that was read is in its lists.
use mathlib.Core.Path.{◌≡◌}
use mathlib.Core.Bool.{false}
use Prim.Native.Nat.{◌-◌, ◌≤◌, ◌<◌}
use lib.ListN.{length, get_or}
use Rattle.grammar.specs.Bytes.{is_blank}
use Rattle.newick.specs.inner.Book.{Holds}
use Rattle.newick.proofs.Book.read_text.Given as goal

abbrev pub invariant-loop-here : goal.invariant-loop-here
invariant-loop-here l =
    Holds l.text l.self l.here × (l.here.at ≤ length l.text) × (l.here.at < length l.text → is_blank (get_or l.text l.here.at 0) ≡ false)

abbrev pub decreases-loop-here : goal.decreases-loop-here
decreases-loop-here l =
    length l.text - l.here.at
