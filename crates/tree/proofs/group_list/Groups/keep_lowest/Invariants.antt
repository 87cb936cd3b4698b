-- `Groups::keep_lowest` meets its contract. The invariant: what stands is what stood, and what is kept of the groups passed.
use mathlib.Core.Path.{◌≡◌}
use mathlib.Core.List.{◌++◌}
use Prim.Native.Nat.{◌+◌, ◌-◌, ◌≤◌}
use lib.ListN.{length}
use Rattle.method.specs.Tree.{kept}
use Rattle.tree.specs.Lists.{listed, first_groups}
use Rattle.tree.specs.inner.Lists.{starts_at}
use Rattle.tree.proofs.group_list.Groups.keep_lowest.Given as goal

abbrev pub invariant-loop-g : goal.invariant-loop-g
invariant-loop-g l =
    (l.g ≤ l.walked.count)
    × (l.self.count ≡ l.initial.self.count + length (kept (starts_at l.i) (first_groups l.walked.taxa l.walked.costs l.g)))
    × (listed l.self ≡ listed l.initial.self ++ kept (starts_at l.i) (first_groups l.walked.taxa l.walked.costs l.g))

abbrev pub decreases-loop-g : goal.decreases-loop-g
decreases-loop-g l = l.walked.count - l.g
