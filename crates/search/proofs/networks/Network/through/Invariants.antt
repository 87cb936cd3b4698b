-- `Network::through` meets its contract. The invariant: the taxa left are those that the column joins and that are not met, and the way to i is as it was.
use mathlib.Core.Path.{◌≡◌}
use mathlib.Core.Bool.{true, false}
use Prim.Native.Nat.{ℕ, ◌+◌}
use Rattle.taxa.specs.Sets.{has}
use Rattle.search.specs.Search.{nth}
use Rattle.search.specs.inner.Reaching.{turn_of, width_of}
use Rattle.search.specs.inner.On as on
use Rattle.search.proofs.networks.Network.through.Given as goal

abbrev pub invariant-loop-left : goal.invariant-loop-left
invariant-loop-left l =
    ((x : ℕ) → has l.left x ≡ true → (has (nth l.self.joined.now l.c) x ≡ true) × (has l.all x ≡ false))
    × on.Passed l.self l.ws l.sources l.met l.all l.tree l.i l.c (turn_of l.initial.tree l.i + 1) l.left
    × (width_of l.tree l.i ≡ width_of l.initial.tree l.i)

abbrev pub decreases-loop-left : goal.decreases-loop-left
decreases-loop-left l = l.left
