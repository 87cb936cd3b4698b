-- The operation "split" (document 01): "a matrix, unflipped, and a group: cost, side A and t".
use Rattle.std.specs.Prelude.{◌≡◌, Bool, ◌||◌, not, cond, List, ℕ, ltb, ℤ, length, Result, Ok, Err}
use Rattle.taxa.specs.Sets.{within, multiplicity, count, all}
use Rattle.matrix.specs.Check.{checked}
use Rattle.method.specs.Split.{side, split_cost, parted}
use Rattle.method.specs.Tree.{Matrix, column, one_entries}
use Rattle.search.specs.Workspace.{cleared}
use Rattle.split.specs.Columns.{matrix_in}
use Rattle.record.specs.declared.refusal.Refusal.{Refusal}
use Rattle.record.specs.declared.refusal.Reason.TheVariants as reason
use Rattle.record.specs.Refusals.{refused, refusal_number}
use Rattle.matrix.specs.declared.Shape.{Shape}
use Rattle.search.specs.declared.Split.{Split}

-- The method's split of a group of a matrix, "unflipped": its cost, its side A, and t.
unfoldable pub split_of : Matrix → ℕ → Result Split Refusal
split_of M S =
    let μ = multiplicity M.multiplicities in
    let m = length M.columns in
    let cols = column M.columns in
    Ok (record { cost = split_cost 64 μ m cols S; side = side 64 μ m cols S; other = parted 64 S (side 64 μ m cols S) })

-- "split: fewer than two taxa, or one that is n or above".
abbrev pub no_group : ℕ → ℕ → Bool
no_group n S = ltb (count 64 S) 2 || not (within S (all n))

-- "The file's refusals come first, then 11, 9", the last two at 0; `room` is the workspace's length: "9 now means shorter than the count of 1-entries, in
-- its old place" (document 02, C-13), and that is of the whole matrix as read.
unfoldable pub answered : Result Shape Refusal → List ℕ → ℕ → ℕ → Result Split Refusal
answered (Err why) file S room = Err why
answered (Ok it) file S room =
    cond (no_group it.n S) (Err (refused reason.GroupToSplit 0))
    (cond (ltb room (one_entries (matrix_in file))) (Err (refused reason.Workspace 0))
    (split_of (matrix_in file) S))

-- What the split of a file answers.
unfoldable pub divided : List ℕ → ℕ → ℕ → Result Split Refusal
divided file S room = answered (checked file) file S room

-- "A refusal [..] changes no lent memory." After success there are zeros to the count of 1-entries, and "every workspace number past that count is proved
-- unchanged" (document 02, C-13).
unfoldable pub workspace_after : List ℕ → Result Split Refusal → List ℤ → List ℤ
workspace_after file (Err why) ws = ws
workspace_after file (Ok it) ws = cleared (one_entries (matrix_in file)) ws

-- Document 01's numbers for each case: "a refusal returns its number and place, 0 for every other number"; "success returns 0, place 0 and, for
-- [..] split, cost, A and t".
pub record Returned : Type 0 where
  pub number : ℕ
  pub place : ℕ
  pub cost : ℕ
  pub side : ℕ
  pub t : ℕ

-- These numbers, by the case.
abbrev pub returned : Result Split Refusal → Returned
returned (Ok it) = record { number = 0; place = 0; cost = it.cost; side = it.side; t = it.other }
returned (Err why) = record { number = refusal_number why.reason; place = why.place; cost = 0; side = 0; t = 0 }

-- The numbers that the split of a file returns.
abbrev pub split_numbers : List ℕ → ℕ → ℕ → Returned
split_numbers file S room = returned (divided file S room)

-- What the split of a group of a file promises of its answer and of the workspace at the end.
pub record Splits (file : List ℕ) (S : ℕ) (ws : List ℤ) (r : Result Split Refusal) (ws' : List ℤ) : Type 0 where
  pub answers : r ≡ divided file S (length ws)
  pub numbers : returned r ≡ split_numbers file S (length ws)
  pub workspace : ws' ≡ workspace_after file r ws
