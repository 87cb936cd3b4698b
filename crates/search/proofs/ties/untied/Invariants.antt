-- `ties::untied` meets its contract. The invariant: the numbers passed are 0.
use Prim.Native.Nat.{◌≤◌, ◌-◌}
use Rattle.search.proofs.Bonds.{Blank}
use Rattle.search.proofs.ties.untied.Given as goal

abbrev pub invariant-loop-p : goal.invariant-loop-p
invariant-loop-p l = (256 ≤ l.p) × (l.p ≤ 320) × Blank l.initial.limits l.limits l.p

abbrev pub decreases-loop-p : goal.decreases-loop-p
decreases-loop-p l = 320 - l.p
