-- `Network::bound_of` meets its contract. The invariant: to part one taxon alone costs less than the bound.
use Rattle.search.proofs.Bonds.{Binding}
use Rattle.search.proofs.networks.Network.bound_of.Given as goal

abbrev pub invariant-loop-left : goal.invariant-loop-left
invariant-loop-left l = Binding l.self.planes.now l.self.limits.now l.own l.group l.left l.bound

abbrev pub decreases-loop-left : goal.decreases-loop-left
decreases-loop-left l = l.left
