-- The operation "flips": "the matrix and those groups, as an answer file without flips", to the whole answer (document 02, C-18).
use Rattle.std.specs.Prelude.{◌≡◌, ◌&&◌, cond, List, ℕ, eqb, ℤ, length, Result, Ok, Err}
use Rattle.record.specs.Bytes.{equal}
use Rattle.record.specs.Records.{Passed}
use Rattle.matrix.specs.Check.{checked}
use Rattle.answer.specs.Content.{content_in, file_of}
use Rattle.answer.specs.Reading.{file_tests}
use Rattle.method.specs.Tree.{one_entries}
use Rattle.search.specs.Workspace.{cleared}
use Rattle.split.specs.Columns.{matrix_in}
use Rattle.tree.specs.Build.{tree_for, tree_room, room_for, taken_of, if_enough, output_after, Returned, returned}
use Rattle.tree.specs.Tree.{tree_given}
use Rattle.record.specs.declared.refusal.Refusal.{Refusal}
use Rattle.record.specs.declared.refusal.Reason.TheVariants as reason
use Rattle.record.specs.Refusals.{refused, refusal_number}
use Rattle.matrix.specs.declared.Shape.{Shape}
use Rattle.tree.specs.declared.Built.{Built}

-- The file that the operation "tree" writes for a matrix file.
abbrev pub tree_file : List ℕ → List ℕ
tree_file file = file_of (tree_for (matrix_in file))

-- "26 where that file is not the first's", byte for byte.
abbrev pub if_firsts : List ℕ → List ℕ → Result Built Refusal → Result Built Refusal
if_firsts file tree r = cond (equal tree (tree_file file)) r (Err (refused reason.OtherTree 0))

-- "15, 9, 10, then 26", and else what the build answers.
unfoldable pub agreed : List ℕ → List ℕ → ℕ → ℕ → ℕ → ℕ → Result Built Refusal
agreed file tree n m space room =
    cond (eqb (content_in tree).n n && eqb (content_in tree).m m)
    (if_enough file space (room_for n m) room (if_firsts file tree (taken_of file)))
    (Err (refused reason.Differ 0))

-- The tree file's own refusals come before these, at their places in it,
abbrev pub after_tree : List ℕ → List ℕ → ℕ → ℕ → ℕ → ℕ → Passed → Result Built Refusal
after_tree file tree n m space room (Ok here) = agreed file tree n m space room
after_tree file tree n m space room (Err why) = Err why

-- and the matrix file's before all.
unfoldable pub flips_answered : Result Shape Refusal → List ℕ → List ℕ → ℕ → ℕ → Result Built Refusal
flips_answered (Err why) file tree space room = Err why
flips_answered (Ok it) file tree space room = after_tree file tree it.n it.m space room (file_tests tree)

-- What the flips of a matrix file and a tree file answer: length written and total.
unfoldable pub flips_given : List ℕ → List ℕ → ℕ → ℕ → Result Built Refusal
flips_given file tree space room = flips_answered (checked file) file tree space room

-- These as numbers.
abbrev pub flips_numbers : List ℕ → List ℕ → ℕ → ℕ → Returned
flips_numbers file tree space room = returned (flips_given file tree space room)

-- "On 26 alone [..] the workspace is left as after success."
unfoldable pub flips_workspace : List ℕ → Result Built Refusal → List ℤ → List ℤ
flips_workspace file (Ok it) ws = cleared (one_entries (matrix_in file)) ws
flips_workspace file (Err why) ws = cond (eqb (refusal_number why.reason) 26) (cleared (one_entries (matrix_in file)) ws) ws

-- What the flips of two files promise of their answer, and of the output and the workspace at the end; the output is left as the build leaves it.
pub record GivesFlips (file tree : List ℕ) (ws : List ℤ) (out : List ℕ) (r : Result Built Refusal) (ws' : List ℤ) (out' : List ℕ) : Type 0 where
  pub answers : r ≡ flips_given file tree (length ws) (length out)
  pub numbers : returned r ≡ flips_numbers file tree (length ws) (length out)
  pub output : out' ≡ output_after file r out
  pub workspace : ws' ≡ flips_workspace file r ws

-- "The old build becomes one after the other": the tree, with room for the most groups there can be, and then the flips of its file.
abbrev pub then_flips : List ℕ → ℕ → ℕ → Result Built Refusal → Result Built Refusal
then_flips file space room (Ok it) = flips_given file (tree_file file) space room
then_flips file space room (Err why) = Err why

unfoldable pub one_after_the_other : List ℕ → ℕ → ℕ → Result Built Refusal
one_after_the_other file space room = then_flips file space room (tree_given file space (tree_room 64))
