-- `Network::sender` meets its contract. The invariant: of the taxa looked at none leads everywhere, and the one found sends.
use Rattle.search.proofs.Reaching.{Seeks}
use Rattle.search.proofs.networks.Network.sender.Given as goal

abbrev pub invariant-loop-left : goal.invariant-loop-left
invariant-loop-left l = Seeks l.self.weights.now l.self.planes.now l.self.joined.now l.self.limits.now l.self.n l.ws l.c l.x l.left l.found

abbrev pub decreases-loop-left : goal.decreases-loop-left
decreases-loop-left l = l.left
