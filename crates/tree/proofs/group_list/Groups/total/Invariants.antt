-- `Groups::total` meets its contract. The invariant: the total is that of the groups passed.
use mathlib.Core.Path.{◌≡◌}
use Prim.Native.Nat.{◌-◌, ◌≤◌}
use lib.ListN.{get_or}
use Rattle.taxa.specs.Sum.{sum}
use Rattle.tree.proofs.group_list.Groups.total.Given as goal

abbrev pub invariant-loop-i : goal.invariant-loop-i
invariant-loop-i l = (l.i ≤ l.self.count) × (l.total ≡ sum l.i (λ j. get_or l.self.costs j 0))

abbrev pub decreases-loop-i : goal.decreases-loop-i
decreases-loop-i l = l.self.count - l.i
