-- `parts::part` meets its contract. The invariant: the taxa met are of the part, and `next` is what a sweep makes of them. They grow while the sweep
-- adds some, and stay within the group.
use mathlib.Core.Path.{◌≡◌}
use Prim.Native.Nat.{◌-◌}
use lib.ListN.{length}
use Rattle.split.specs.inner.Parts.{swept}
use Rattle.split.proofs.Growing.{Grown}
use Rattle.split.proofs.parts.part.Given as goal

abbrev pub invariant-loop-met : goal.invariant-loop-met
invariant-loop-met l = Grown l.ones l.zeros l.group l.i l.met × (l.next ≡ swept l.ones l.zeros l.group (length l.ones) l.met)

abbrev pub decreases-loop-met : goal.decreases-loop-met
decreases-loop-met l = l.group - l.met
