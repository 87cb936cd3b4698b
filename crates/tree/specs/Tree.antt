-- The operation "tree": the groups and costs of a matrix file, "as an answer file without flips" (document 02, C-18).
use Rattle.std.specs.Prelude.{◌≡◌, List, ℕ, ℤ, length, Result, Ok, Err}
use Rattle.matrix.specs.Check.{checked}
use Rattle.split.specs.Columns.{matrix_in}
use Rattle.tree.specs.Build.{tree_for, tree_room, written, if_enough, holding, workspace_after, Returned, returned}
use Rattle.record.specs.declared.refusal.Refusal.{Refusal}
use Rattle.matrix.specs.declared.Shape.{Shape}
use Rattle.tree.specs.declared.Built.{Built}

-- The file's refusals, then "both keep 9 and 10, the first with room 20 + 16(n-1)".
unfoldable pub tree_answered : Result Shape Refusal → List ℕ → ℕ → ℕ → Result Built Refusal
tree_answered (Err why) file space room = Err why
tree_answered (Ok it) file space room = if_enough file space (tree_room it.n) room (written (tree_for (matrix_in file)))

-- What the tree of a file answers: length written and total.
unfoldable pub tree_given : List ℕ → ℕ → ℕ → Result Built Refusal
tree_given file space room = tree_answered (checked file) file space room

-- These as numbers.
abbrev pub tree_numbers : List ℕ → ℕ → ℕ → Returned
tree_numbers file space room = returned (tree_given file space room)

-- What the output holds at the end.
unfoldable pub tree_output : List ℕ → Result Built Refusal → List ℕ → List ℕ
tree_output file r out = holding (tree_for (matrix_in file)) r out

-- What the tree of a file promises of its answer, and of the output and the workspace at the end; this is left as the build leaves it.
pub record GivesTree (file : List ℕ) (ws : List ℤ) (out : List ℕ) (r : Result Built Refusal) (ws' : List ℤ) (out' : List ℕ) : Type 0 where
  pub answers : r ≡ tree_given file (length ws) (length out)
  pub numbers : returned r ≡ tree_numbers file (length ws) (length out)
  pub output : out' ≡ tree_output file r out
  pub workspace : ws' ≡ workspace_after file r ws
