-- What the functions of a split hand to each other, and to the build.
use Rattle.std.specs.Prelude.{◌≡◌, List, ◌++◌, ℕ, ◌≤◌, length, drop, Ok}
use Rattle.taxa.specs.Sets.{◌⊆◌, count, all, multiplicity_in}
use Rattle.matrix.specs.Check.{checked}
use Rattle.method.specs.Split.{split_cost, after, split_parts}
use Rattle.method.specs.Tree.{one_entries}
use Rattle.search.specs.Search.{cols_of}
use Rattle.split.specs.Columns.{matrix_in}
use Rattle.matrix.specs.Check.{shape}

-- What has been tested where nothing is refused.
pub record Splittable (file : List ℕ) (S n m room : ℕ) : Type 0 where
  pub taken : Ok (shape n m) ≡ checked file
  pub two : 2 ≤ count 64 S
  pub known : S ⊆ all n
  pub long : one_entries (matrix_in file) ≤ room

-- In code the columns are three lists, an entry a column: weights, 1-sets and 0-sets (crate search's `cols_of`). They have the same length;
-- past it a column has no weight, no 1 and no 0.
pub record Parallel (ws os zs : List ℕ) : Type 0 where
  pub ones : length os ≡ length ws
  pub zeros : length zs ≡ length ws

-- The columns (ws, os, zs) of taxa with the multiplicities in P become those after the split of S, and the first places of a list its parts, which are `number`.
pub record HandsOn (ws P os zs os' zs' : List ℕ) (S : ℕ) (list list' : List ℕ) (cost number : ℕ) : Type 0 where
  pub is_cost : cost ≡ split_cost 64 (multiplicity_in P) (length ws) (cols_of ws os zs) S
  pub columns : cols_of ws os' zs' ≡ after 64 (multiplicity_in P) (length ws) (cols_of ws os zs) S
  pub parallel : Parallel ws os' zs'
  pub many : number ≡ length (split_parts 64 (multiplicity_in P) (length ws) (cols_of ws os zs) S)
  pub parts : list' ≡ split_parts 64 (multiplicity_in P) (length ws) (cols_of ws os zs) S ++ drop number list
