-- `taxa::plane_of` meets its contract: of the taxa passed, the set has those that it should (`one_more`).
use mathlib.Core.Path.{◌≡◌}
use mathlib.Core.Bool.{false, cond}
use Prim.Native.Nat.{ℕ, ◌≤◌, ◌-◌}
use lib.Dec.{ltb}
use lib.ListN.{length, get_or}
use Rattle.taxa.specs.Sets.{has, plane_has}
use Rattle.taxa.proofs.plane_of.Given as goal

abbrev pub invariant-loop-i : goal.invariant-loop-i
invariant-loop-i l =
    (l.i ≤ length l.multiplicities) × (l.i-end ≡ length l.multiplicities) × ((x : ℕ) → has l.plane x ≡ cond (ltb x l.i) (plane_has (get_or l.multiplicities x 0) l.j) false)

abbrev pub decreases-loop-i : goal.decreases-loop-i
decreases-loop-i l = length l.multiplicities - l.i
