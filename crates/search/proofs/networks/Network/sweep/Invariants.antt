-- `Network::sweep` meets its contract. The invariant: the hops of the taxa met before, through the columns passed, lead into the tree.
use Prim.Native.Nat.{◌-◌}
use Rattle.search.proofs.Reaching.{Over}
use Rattle.search.proofs.networks.Network.sweep.Given as goal

abbrev pub invariant-loop-c : goal.invariant-loop-c
invariant-loop-c l = Over l.self.weights.now l.self.planes.now l.self.joined.now l.self.limits.now l.self.n l.self.m l.ws l.sources l.met l.all l.tree l.first l.c

abbrev pub decreases-loop-c : goal.decreases-loop-c
decreases-loop-c l = l.self.m - l.c
