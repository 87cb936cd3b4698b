-- `columns::flip_columns` meets its contract. The invariant: the first c columns are flipped, and the others as they were.
use Prim.Native.Nat.{◌≤◌, ◌-◌}
use lib.ListN.{length}
use Rattle.taxa.specs.Sets.{multiplicity_in}
use Rattle.split.proofs.Flipping.{Flipping}
use Rattle.split.proofs.columns.flip_columns.Given as goal

abbrev pub invariant-loop-c : goal.invariant-loop-c
invariant-loop-c l = (l.c ≤ length l.weights) × Flipping (multiplicity_in l.planes) l.weights l.initial.ones l.initial.zeros l.group l.side l.ones l.zeros l.c

abbrev pub decreases-loop-c : goal.decreases-loop-c
decreases-loop-c l = length l.weights - l.c
