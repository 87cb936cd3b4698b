-- The operation "build": a matrix file, a lent workspace and a lent output (document 01, "Operations and refusals").
use Rattle.std.specs.Prelude.{◌≡◌, cond, List, [], map, ℕ, ◌+◌, ◌-◌, ◌*◌, ltb, ℤ, length, Result, Ok, Err}
use Rattle.record.specs.Bytes.{over}
use Rattle.matrix.specs.Check.{checked}
use Rattle.answer.specs.Content.{Content, file_of, length_of}
use Rattle.method.specs.Tree.{Group, Flips, Matrix, one_entries, answer, total}
use Rattle.search.specs.Workspace.{cleared}
use Rattle.split.specs.Columns.{matrix_in}
use Rattle.record.specs.declared.refusal.Refusal.{Refusal}
use Rattle.record.specs.declared.refusal.Reason.TheVariants as reason
use Rattle.record.specs.Refusals.{refused, refusal_number}
use Rattle.matrix.specs.declared.Shape.{Shape}
use Rattle.tree.specs.declared.Built.{Built}

-- Groups and costs as an answer file without flips holds them; "total is the sum of the split costs".
abbrev pub tree_with : ℕ → ℕ → List Group → Content
tree_with n m gs =
    record {
      n = n;
      m = m;
      groups = length gs;
      flips = 0;
      total = total gs;
      taxa = map (λ (g : Group). g.taxa) gs;
      costs = map (λ (g : Group). g.cost) gs;
      columns = [];
      raised = [];
      lowered = [];
    }

-- A tree, and then its flips.
abbrev pub with_flips : Content → List Flips → Content
with_flips tree fs =
    record {
      n = tree.n;
      m = tree.m;
      groups = tree.groups;
      flips = length fs;
      total = tree.total;
      taxa = tree.taxa;
      costs = tree.costs;
      columns = map (λ (f : Flips). f.column) fs;
      raised = map (λ (f : Flips). f.raised) fs;
      lowered = map (λ (f : Flips). f.lowered) fs;
    }

-- Groups and flips as an answer file holds them: "one after the other" (document 02, C-18).
abbrev pub content_with : ℕ → ℕ → List Group → List Flips → Content
content_with n m gs fs = with_flips (tree_with n m gs) fs

-- The groups and costs of the method's answer to a matrix, "as an answer file without flips".
unfoldable pub tree_for : Matrix → Content
tree_for M = tree_with M.taxa (length M.columns) (answer M).groups

-- The method's answer to a matrix, as its answer file holds it.
unfoldable pub content_for : Matrix → Content
content_for M = content_with M.taxa (length M.columns) (answer M).groups (answer M).flips

-- What the groups of n taxa take at most: "the first with room 20 + 16(n-1)".
abbrev pub tree_room : ℕ → ℕ
tree_room n = 20 + 16 * (n - 1)

-- "build, output below 20 + 16(n-1) + 22m bytes".
abbrev pub room_for : ℕ → ℕ → ℕ
room_for n m = tree_room n + 22 * m

-- "Length written and total."
abbrev pub written : Content → Result Built Refusal
written c = Ok (record { size = length_of c; total = c.total })

abbrev pub taken_of : List ℕ → Result Built Refusal
taken_of file = written (content_for (matrix_in file))

-- "9, 10", both at 0, or else what is answered; "9 now means shorter than the count of 1-entries" (document 02, C-13). `space` and `room` are the lengths
-- of the workspace and of the output, which is to have `wanted` bytes.
abbrev pub if_enough : List ℕ → ℕ → ℕ → ℕ → Result Built Refusal → Result Built Refusal
if_enough file space wanted room r =
    cond (ltb space (one_entries (matrix_in file))) (Err (refused reason.Workspace 0))
    (cond (ltb room wanted) (Err (refused reason.Room 0))
    r)

-- "The file's refusals come first, then [..] 9, 10".
unfoldable pub answered : Result Shape Refusal → List ℕ → ℕ → ℕ → Result Built Refusal
answered (Err why) file space room = Err why
answered (Ok it) file space room = if_enough file space (room_for it.n it.m) room (taken_of file)

-- What the build of a file answers: "length written and total".
unfoldable pub built : List ℕ → ℕ → ℕ → Result Built Refusal
built file space room = answered (checked file) file space room

-- "A refusal [..] changes no lent memory." "Output past the written length stays as it was."
abbrev pub holding : Content → Result Built Refusal → List ℕ → List ℕ
holding c (Err why) out = out
holding c (Ok it) out = over (file_of c) 0 out

unfoldable pub output_after : List ℕ → Result Built Refusal → List ℕ → List ℕ
output_after file r out = holding (content_for (matrix_in file)) r out

-- Document 02, C-13: one number for each 1 in the matrix; "every workspace number past that count is proved unchanged. After success that many are 0."
unfoldable pub workspace_after : List ℕ → Result Built Refusal → List ℤ → List ℤ
workspace_after file (Err why) ws = ws
workspace_after file (Ok it) ws = cleared (one_entries (matrix_in file)) ws

-- Document 01's numbers for each case: "a refusal returns its number and place, 0 for every other number"; "success returns 0, place 0 and, for
-- [..] build, length written and total".
pub record Returned : Type 0 where
  pub number : ℕ
  pub place : ℕ
  pub size : ℕ
  pub sum : ℕ

-- These numbers, by the case.
abbrev pub returned : Result Built Refusal → Returned
returned (Ok it) = record { number = 0; place = 0; size = it.size; sum = it.total }
returned (Err why) = record { number = refusal_number why.reason; place = why.place; size = 0; sum = 0 }

-- The numbers that the build of a file returns.
abbrev pub build_numbers : List ℕ → ℕ → ℕ → Returned
build_numbers file space room = returned (built file space room)

-- What the build of a file promises of its answer, and of the output and the workspace at the end.
pub record Builds (file : List ℕ) (ws : List ℤ) (out : List ℕ) (r : Result Built Refusal) (ws' : List ℤ) (out' : List ℕ) : Type 0 where
  pub answers : r ≡ built file (length ws) (length out)
  pub numbers : returned r ≡ build_numbers file (length ws) (length out)
  pub output : out' ≡ output_after file r out
  pub workspace : ws' ≡ workspace_after file r ws
