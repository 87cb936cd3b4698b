-- `Network::direct_hops` meets its contract. The invariant: a flow of the size stands in the workspace.
use Prim.Native.Nat.{◌-◌}
use Rattle.search.specs.inner.On as on
use Rattle.search.proofs.networks.Network.direct_hops.Given as goal

abbrev pub invariant-loop-c : goal.invariant-loop-c
invariant-loop-c l = on.Flowing l.self l.ws l.used l.sources l.t l.size × on.Kept l.self l.initial.ws l.ws

abbrev pub decreases-loop-c : goal.decreases-loop-c
decreases-loop-c l = l.self.m - l.c
