-- `taxa::put_planes` meets its contract: each place that was filled has what it should.
use mathlib.Core.Path.{◌≡◌}
use Prim.Native.Nat.{ℕ, ◌≤◌, ◌<◌, ◌-◌}
use lib.ListN.{length, get_or}
use Rattle.taxa.specs.inner.Planes.{Placed}
use Rattle.taxa.proofs.put_planes.Given as goal

abbrev pub invariant-loop-p : goal.invariant-loop-p
invariant-loop-p l = (l.p ≤ 72) × (length l.planes ≡ 72) × ((x : ℕ) → x < l.p → Placed l.multiplicities x (get_or l.planes x 0))

abbrev pub decreases-loop-p : goal.decreases-loop-p
decreases-loop-p l = 72 - l.p
