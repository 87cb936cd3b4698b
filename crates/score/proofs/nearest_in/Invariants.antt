-- `score::nearest_in` meets its contract. The invariant: `best` counts among those that came.
use mathlib.Core.Path.{◌≡◌}
use lib.ListN.{length, get_or}
use Rattle.taxa.specs.Sets.{multiplicity_in}
use Rattle.score.specs.Score.{nearest_in}
use Rattle.score.proofs.nearest_in.Given as goal

abbrev pub invariant-loop-node : goal.invariant-loop-node
invariant-loop-node g l = l.best ≡ nearest_in (multiplicity_in l.planes) l.it (λ i. get_or l.yielded i 0) (length l.yielded) l.fn.first
