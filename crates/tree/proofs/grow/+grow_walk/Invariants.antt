-- The measures of the cycle of calls {grow, walk}: a group has more taxa than each of its parts, so 2k + 1 falls for a group of k, and 2k for the walk over
-- the parts of one. The walk's invariant: what is left to walk comes to what all comes to, and the workspace is enough for it.
use Prim.Native.Nat.{◌+◌, ◌-◌, ◌*◌, ◌≤◌}
use mathlib.Core.Path.{◌≡◌}
use lib.ListN.{length, take, drop}
use Rattle.taxa.specs.Sets.{count}
use Rattle.method.specs.Tree.{build}
use Rattle.search.specs.Search.{cols_of}
use Rattle.split.specs.inner.On.{weights, entries, columns, multiplicities, Parallel, Kept}
use Rattle.tree.specs.Lists.{listed}
use Rattle.tree.specs.inner.Grow.{TurnsClear}
use Rattle.tree.proofs.Walking.{Going}
use Rattle.tree.proofs.grow.+grow_walk.Given as goal

abbrev pub decreases-grow : goal.decreases-grow
decreases-grow l = 2 * count 64 l.group + 1

abbrev pub decreases-walk : goal.decreases-walk
decreases-walk l = 2 * l.bound

abbrev pub invariant-walk-loop-i : goal.invariant-walk-loop-i
invariant-walk-loop-i l =
    let x = l.initial.matrix in
    (l.i ≤ l.k) × Parallel x l.matrix × (l.ws ≡ l.initial.ws) × (length l.list ≡ length l.initial.list)
    × (take l.k l.list ≡ take l.k l.initial.list)
    × Going (build 64 (multiplicities x) (length (weights x))) (take l.k l.initial.list) (columns x)
    (cols_of (weights x) (entries x l.matrix.ones) (entries x l.matrix.zeros)) (listed l.initial.groups) (listed l.groups)
    l.initial.groups.count l.groups.count l.i
    × TurnsClear (weights x) x.planes (entries x l.matrix.ones) (entries x l.matrix.zeros) (drop l.i (take l.k l.initial.list)) l.initial.ws
    × Kept x l.matrix

abbrev pub decreases-walk-loop-i : goal.decreases-walk-loop-i
decreases-walk-loop-i l = l.k - l.i
