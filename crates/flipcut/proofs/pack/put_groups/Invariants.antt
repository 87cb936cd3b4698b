-- `flipcut::pack::put_groups` meets its contract: after i turns the first i groups and costs are in place.
use mathlib.Core.Path.{◌≡◌}
use Prim.Native.Nat.{◌-◌, ◌≤◌}
use Rattle.flipcut.specs.Packed.{with_groups}
use Rattle.flipcut.proofs.pack.put_groups.Given as goal

abbrev pub invariant-loop-i : goal.invariant-loop-i
invariant-loop-i l = (l.i ≤ 63) × (l.res ≡ with_groups l.i l.answer.taxa l.answer.costs l.initial.res)

abbrev pub decreases-loop-i : goal.decreases-loop-i
decreases-loop-i l = 63 - l.i
