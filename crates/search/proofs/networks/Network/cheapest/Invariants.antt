-- `Network::cheapest` meets its contract. The invariant: the taxa below u have been tried.
use Prim.Native.Nat.{◌<◌, ◌≤◌, ◌-◌}
use Rattle.taxa.specs.Sets.{low}
use Rattle.search.specs.inner.On as on
use Rattle.search.proofs.networks.Network.cheapest.Given as goal

abbrev pub invariant-loop-u : goal.invariant-loop-u
invariant-loop-u l =
    (low l.self.n l.group < l.u)
    × (l.u ≤ l.self.n)
    × on.Trying l.self l.group l.bound l.u l.best.cost l.best.other
    × on.Kept l.self l.initial.ws l.ws

abbrev pub decreases-loop-u : goal.decreases-loop-u
decreases-loop-u l = l.self.n - l.u
