-- `parts::sweep` meets its contract. The invariant: the first c columns are swept.
use mathlib.Core.Path.{◌≡◌}
use Prim.Native.Nat.{◌≤◌, ◌-◌}
use lib.ListN.{length}
use Rattle.split.specs.inner.Parts.{swept}
use Rattle.split.proofs.parts.sweep.Given as goal

abbrev pub invariant-loop-c : goal.invariant-loop-c
invariant-loop-c l = (l.c ≤ length l.ones) × (l.all ≡ swept l.ones l.zeros l.group l.c l.met)

abbrev pub decreases-loop-c : goal.decreases-loop-c
decreases-loop-c l = length l.ones - l.c
