-- `reach::plant` meets its contract. The invariant: all sources but those left are planted.
use Rattle.search.specs.inner.Reaching.{Planted}
use Rattle.search.proofs.reach.plant.Given as goal

abbrev pub invariant-loop-left : goal.invariant-loop-left
invariant-loop-left l = Planted l.tree l.sources l.left

abbrev pub decreases-loop-left : goal.decreases-loop-left
decreases-loop-left l = l.left
