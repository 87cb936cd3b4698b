-- `names::name_at` meets its contract. The invariant: the records that are left to pass lead to the record of the name.
use mathlib.Core.Path.{◌≡◌}
use Prim.Native.Nat.{◌-◌}
use Rattle.names.specs.inner.Places.{place_from}
use Rattle.names.proofs.name_at.Given as goal

abbrev pub invariant-loop : goal.invariant-loop
invariant-loop l = place_from l.file l.index 0 ≡ place_from l.file (l.index - l.counter) l.at
