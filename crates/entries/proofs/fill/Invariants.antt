-- `entries::fill` meets its contract. The invariant: the entries filled so far stand first.
use Rattle.std.proofs.Common.{◌≡◌, length}
use Rattle.entries.specs.Entries.{zipped}
use Rattle.entries.specs.inner.Parts.{with_first}
use Rattle.entries.proofs.fill.Given as goal

abbrev pub invariant-loop-k : goal.invariant-loop-k
invariant-loop-k l =
    (length l.list ≡ length l.initial.list) × (l.list ≡ with_first l.k (zipped l.columns l.raised l.lowered) l.initial.list)
