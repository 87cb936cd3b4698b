-- `names::is_repeat` meets its contract. The invariant: the names that are left to meet come to what all come to, and lead to the place.
use mathlib.Core.Path.{◌≡◌}
use Prim.Native.Nat.{◌-◌}
use Rattle.grammar.specs.Limits.{is_in}
use Rattle.names.specs.Names.{name_at}
use Rattle.names.specs.inner.Places.{names_from, place_from}
use Rattle.names.proofs.is_repeat.Given as goal

abbrev pub invariant-loop : goal.invariant-loop
invariant-loop l =
    (l.place ≡ place_from l.file (l.count - l.counter) l.at) × (is_in (name_at l.file l.place) (names_from l.file l.count 0) ≡ is_in (name_at l.file l.place) (names_from l.file (l.count - l.counter) l.at))
