-- `Groups::in_order` meets its contract. The invariant: what stands are the groups whose lowest taxon is below i, in file order.
use mathlib.Core.Path.{◌≡◌}
use Prim.Native.Nat.{◌-◌, ◌≤◌}
use lib.ListN.{length}
use Rattle.method.specs.Tree.{ordered}
use Rattle.tree.specs.Lists.{listed}
use Rattle.tree.proofs.group_list.Groups.in_order.Given as goal

abbrev pub invariant-loop-i : goal.invariant-loop-i
invariant-loop-i l = (l.i ≤ l.n) × (l.rising.count ≡ length (ordered 64 l.i (listed l.self))) × (listed l.rising ≡ ordered 64 l.i (listed l.self))

abbrev pub decreases-loop-i : goal.decreases-loop-i
decreases-loop-i l = l.n - l.i
