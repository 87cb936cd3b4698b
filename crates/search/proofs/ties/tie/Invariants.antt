-- `ties::tie` meets its contract. The invariant: the taxa passed are tied.
use Rattle.taxa.specs.Sets.{◌⊆◌}
use Rattle.search.proofs.Bonds.{AddedBut}
use Rattle.search.proofs.ties.tie.Given as goal

abbrev pub invariant-loop-left : goal.invariant-loop-left
invariant-loop-left l = (l.left ⊆ l.x) × AddedBut l.x l.left l.weight l.initial.limits l.limits

abbrev pub decreases-loop-left : goal.decreases-loop-left
decreases-loop-left l = l.left
