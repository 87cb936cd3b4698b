-- `entries::take_apart` meets its contract. The invariant: the entries taken so far stand first in each part.
use Rattle.std.proofs.Common.{◌≡◌, length}
use Rattle.entries.specs.Entries.{entry_columns, entry_raised, entry_lowered}
use Rattle.entries.specs.inner.Parts.{with_first}
use Rattle.entries.proofs.take_apart.Given as goal

abbrev pub invariant-loop-k : goal.invariant-loop-k
invariant-loop-k l =
    (length l.columns ≡ length l.initial.columns)
    × (length l.raised ≡ length l.initial.raised)
    × (length l.lowered ≡ length l.initial.lowered)
    × (l.columns ≡ with_first l.k (entry_columns l.list) l.initial.columns)
    × (l.raised ≡ with_first l.k (entry_raised l.list) l.initial.raised)
    × (l.lowered ≡ with_first l.k (entry_lowered l.list) l.initial.lowered)
