-- `record::same_few` meets its contract. The invariant: what is left to compare comes to what all comes to.
use mathlib.Core.Path.{◌≡◌}
use Prim.Native.Nat.{◌-◌, ◌≤◌}
use lib.ListN.{length, drop}
use Rattle.record.specs.Bytes.{equal}
use Rattle.record.proofs.same_few.Given as goal

abbrev pub invariant-loop-i : goal.invariant-loop-i
invariant-loop-i l = (l.i ≤ length l.one) × (equal l.one l.other ≡ equal (drop l.i l.one) (drop l.i l.other))

abbrev pub decreases-loop-i : goal.decreases-loop-i
decreases-loop-i l = length l.one - l.i
