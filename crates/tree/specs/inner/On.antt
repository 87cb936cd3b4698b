-- What the files beside this one say of lists, said of a `Loaded` matrix and of `Groups`.
use Rattle.std.specs.Prelude.{List, ℕ, ℤ}
use Rattle.method.specs.Tree.{Walk}
use Rattle.split.specs.declared.loaded.Loaded.{Loaded}
use Rattle.split.specs.inner.On.{weights, entries, Kept}
use Rattle.tree.specs.declared.group_list.Groups.{Groups}
use Rattle.tree.specs.Lists.{listed}
use Rattle.tree.specs.inner.Grow as grow

-- Its columns stand in front, and no multiplicity is 0.
abbrev pub Sound : Loaded → Type 0
Sound x = grow.Loaded (weights x) x.planes (entries x x.ones) (entries x x.zeros) x.n

-- And a group of its taxa, and a workspace that is clear for it.
abbrev pub Ready : Loaded → ℕ → List ℤ → Type 0
Ready x S space = grow.Ready (weights x) x.planes (entries x x.ones) (entries x x.zeros) S x.n space

-- In a walk over sets the workspace is clear at every turn.
abbrev pub TurnsClear : Loaded → List ℕ → List ℤ → Type 0
TurnsClear x Ps space = grow.TurnsClear (weights x) x.planes (entries x x.ones) (entries x x.zeros) Ps space

-- The walk from a group, and that over sets.
abbrev pub walk_from : Loaded → ℕ → Walk
walk_from x S = grow.walk_from (weights x) x.planes (entries x x.ones) (entries x x.zeros) S

abbrev pub walk_over : Loaded → List ℕ → Walk
walk_over x Ps = grow.walk_over (weights x) x.planes (entries x x.ones) (entries x x.zeros) Ps

-- A walk was made: the columns of x became those of y, and nothing else of it changed.
abbrev pub Grown : Loaded → Loaded → List ℤ → List ℤ → Walk → Groups → Groups → Type 0
Grown x y before after walk old new =
    grow.Grown (weights x) (entries x y.ones) (entries x y.zeros) before after walk (listed old) (listed new) old.count new.count × Kept x y
