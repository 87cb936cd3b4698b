-- A matrix file and a tree file: what the operation "tree" leaves, and what the operation "flips" compares (document 02, C-18).
use Rattle.std.specs.Prelude.{◌≡◌, List, ℕ, ◌≤◌, ℤ, take, Result}
use Rattle.method.specs.Tree.{one_entries}
use Rattle.split.specs.Columns.{matrix_in}
use Rattle.tree.specs.Build.{room_for, returned}
use Rattle.tree.specs.Tree.{GivesTree}
use Rattle.promises.specs.Pairs.{AcceptedPair}
use Rattle.record.specs.declared.refusal.Refusal.{Refusal}
use Rattle.tree.specs.declared.Built.{Built}

-- The operation "tree" took a matrix file, "success returns 0", and these bytes are what it wrote: as many of its output as the length that it returned.
pub record LeavesTree (file tree : List ℕ) : Type 0 where
  pub ws : List ℤ
  pub out : List ℕ
  pub r : Result Built Refusal
  pub ws' : List ℤ
  pub out' : List ℕ
  pub gives : GivesTree file ws out r ws' out'
  pub success : (returned r).number ≡ 0
  pub bytes : tree ≡ take (returned r).size out'

-- Nothing is left to refuse a matrix file and a tree file but that they do not belong together: the check takes the one, reading the other, they have the
-- same n and m, and there is enough of what is lent.
pub record Comparable (file tree : List ℕ) (space room : ℕ) : Type 0 where
  pub pair : AcceptedPair file tree
  pub long : one_entries (matrix_in file) ≤ space
  pub fits : room_for pair.n pair.m ≤ room
