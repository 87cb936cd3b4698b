-- `Network::advance` meets its contract. The invariant: the path from t back to j has been pushed.
use Rattle.search.specs.inner.Reaching.{turn_of}
use Rattle.search.proofs.Flows.{Under}
use Rattle.search.proofs.networks.Network.advance.Given as goal

abbrev pub invariant-loop-j : goal.invariant-loop-j
invariant-loop-j l =
    Under l.self.weights.now l.self.planes.now l.self.joined.now l.self.limits.now l.self.offsets.now l.self.n l.self.m l.initial.ws l.initial.used l.sources l.t l.size l.met l.tree l.d l.ws l.used l.j

abbrev pub decreases-loop-j : goal.decreases-loop-j
decreases-loop-j l = turn_of l.tree l.j
