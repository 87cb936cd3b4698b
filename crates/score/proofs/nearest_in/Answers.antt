-- `score::nearest_in` meets its contract. The invariant: `best` counts among those that came.
use mathlib.Core.Path.{refl}
use Rattle.score.specs.Score.{nearest_in}
use Rattle.score.proofs.Nearest.{one_joined}
use Rattle.score.proofs.nearest_in.Goals as goal

pub loop-node-init : goal.loop-node-init
unfolding nearest_in
loop-node-init g c = refl

pub loop-node-preserved : goal.loop-node-preserved
loop-node-preserved g c = rw (one_joined, ← c.loop-node.invariant) c.nearest_of-best.ensures
