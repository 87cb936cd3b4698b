-- `tree::order::list_flips` meets its contract. The invariant: what stands are the flips of the columns passed, and the columns ahead are as they were.
use mathlib.Core.Path.{◌≡◌}
use Prim.Native.Nat.{◌-◌, ◌≤◌}
use lib.ListN.{length}
use Rattle.method.specs.Tree.{column, flip_list}
use Rattle.split.specs.Columns.{matrix_in}
use Rattle.tree.specs.Lists.{first_flips}
use Rattle.tree.specs.inner.Lists.{SameFrom, unweighed}
use Rattle.tree.proofs.order.list_flips.Given as goal

abbrev pub invariant-loop-c : goal.invariant-loop-c
invariant-loop-c l =
    (l.c ≤ l.m) × (l.end ≡ length (flip_list l.c (column (matrix_in l.file).columns) (unweighed l.initial.ones l.initial.zeros)))
    × (length l.columns ≡ length l.initial.columns) × (length l.ones ≡ length l.initial.ones) × (length l.zeros ≡ length l.initial.zeros)
    × (first_flips l.columns l.ones l.zeros l.end ≡ flip_list l.c (column (matrix_in l.file).columns) (unweighed l.initial.ones l.initial.zeros))
    × SameFrom l.c l.initial.ones l.ones × SameFrom l.c l.initial.zeros l.zeros

abbrev pub decreases-loop-c : goal.decreases-loop-c
decreases-loop-c l = l.m - l.c
