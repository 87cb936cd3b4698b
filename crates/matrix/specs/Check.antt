-- The operation "check a matrix": refusals 1 to 8 in document 01's order, "within a record by number", and 21 "after 4 and before any column".
use Rattle.std.specs.Prelude.{◌≡◌, Bool, true, not, ◌||◌, ◌&&◌, cond, List, [], ◌∷◌, ℕ, zero, suc, ◌+◌, ltb, eqb, length, take, drop, Result, Ok, Err}
use Rattle.taxa.specs.Sum.{sum}
use Rattle.taxa.specs.Sets.{◌∩◌, within, multiplicity, all}
use Rattle.record.specs.Bytes.{number_at}
use Rattle.record.specs.Records as records
use Rattle.record.specs.Records.{record_of, multiplicity_record, step, judged, onward, nothing_after, Passed}
use Rattle.record.specs.Refusals.{refused, refusal_number}
use Rattle.record.specs.declared.Cursor.{Cursor}
use Rattle.record.specs.declared.refusal.Refusal.{Refusal}
use Rattle.record.specs.declared.refusal.Reason.TheVariants as reason
use Rattle.matrix.specs.declared.Column.{Column}
use Rattle.matrix.specs.declared.Shape.{Shape}
use Rattle.matrix.specs.Matrix.{column_at, has_multiplicities}

-- "n is 0 or above 64" (3), "m above 256" (4), at the head.
unfoldable pub head_judged : ℕ → ℕ → Cursor → Passed
head_judged n m next =
    cond (eqb n 0 || ltb 64 n) (Err (refused reason.TaxonCount 0))
    (cond (ltb 256 m) (Err (refused reason.ColumnCount 0))
    (Ok next))

-- The head: read, then judged.
unfoldable pub head_passed : List ℕ → Passed
head_passed file =
    judged (step file 0 (record_of records.matrix_head)) (λ at next.
    head_judged (number_at 2 file at) (number_at 2 file (at + 2)) next)

-- Whether a test holds of each number of a list.
unfoldable pub every : (ℕ → Bool) → List ℕ → Bool
every test [] = true
every test (a ∷ ms) = test a && every test ms

-- "A multiplicity is 0, the sum is above 127, or all are 1".
abbrev pub wrong : List ℕ → Bool
wrong ms = not (every (λ a. ltb 0 a) ms) || (ltb 127 (sum (length ms) (multiplicity ms)) || every (λ a. eqb a 1) ms)

-- "Refusals: 21 [..]; at the kind 5 record".
unfoldable pub multiplicities_judged : List ℕ → ℕ → Cursor → Passed
multiplicities_judged ms place next = cond (wrong ms) (Err (refused reason.Multiplicities place)) (Ok next)

-- The record of n multiplicities, where it is there: read, then judged.
unfoldable pub multiplicities_passed : List ℕ → ℕ → Cursor → Passed
multiplicities_passed file n here =
    cond (has_multiplicities file)
    (judged (step file here.at (multiplicity_record n)) (λ at next. multiplicities_judged (take n (drop at file)) here.at next))
    (Ok here)

-- "Weight 0" (5), "a taxon n or above in a set" (6), "a taxon in both 1-set and 0-set" (7), at the column; `known` are the n taxa.
unfoldable pub column_judged : ℕ → ℕ → Column → Cursor → Passed
column_judged known place c next =
    cond (eqb c.weight 0) (Err (refused reason.Weightless place))
    (cond (within c.ones known && within c.zeros known)
    (cond (eqb (c.ones ∩ c.zeros) 0) (Ok next) (Err (refused reason.BothSets place)))
    (Err (refused reason.UnknownTaxon place)))

-- One column: read, then judged.
unfoldable pub column_passed : List ℕ → ℕ → Cursor → Passed
column_passed file known here =
    judged (step file here.at (record_of records.column)) (λ at next. column_judged known here.at (column_at file at) next)

-- m columns, one after the other.
unfoldable pub columns_passed : List ℕ → ℕ → ℕ → Cursor → Passed
columns_passed file known zero here = Ok here
columns_passed file known (suc m) here = onward (column_passed file known here) (columns_passed file known m)

-- The end record, and nothing after it.
unfoldable pub end_passed : List ℕ → Cursor → Passed
end_passed file here = judged (step file here.at (record_of records.matrix_end)) (λ at after. nothing_after file after)

-- What follows the multiplicities: m columns, end.
abbrev pub body_passed : List ℕ → Cursor → Passed
body_passed file first = onward (columns_passed file (all (number_at 2 file 4)) (number_at 2 file 6) first) (end_passed file)

-- The whole file: head, multiplicities, m columns, end.
unfoldable pub file_passed : List ℕ → Passed
file_passed file = onward (head_passed file) (λ second. onward (multiplicities_passed file (number_at 2 file 4) second) (body_passed file))

-- n and m, as the check answers them.
abbrev pub shape : ℕ → ℕ → Shape
shape n m = record { n = n; m = m }

-- n and m where the file passed, and else the refusal.
abbrev pub answered : ℕ → ℕ → Passed → Result Shape Refusal
answered n m (Ok here) = Ok (shape n m)
answered n m (Err why) = Err why

-- What the check answers: the n and m of the head, or the refusal.
unfoldable pub checked : List ℕ → Result Shape Refusal
checked file = answered (number_at 2 file 4) (number_at 2 file 6) (file_passed file)

-- Document 01's numbers for each case: "a refusal returns its number and place, 0 for every other number"; "success returns 0, place 0
-- and, for the check, n and m".
pub record Returned : Type 0 where
  pub number : ℕ
  pub place : ℕ
  pub n : ℕ
  pub m : ℕ

-- These numbers, by the case.
abbrev pub returned : Result Shape Refusal → Returned
returned (Ok it) = record { number = 0; place = 0; n = it.n; m = it.m }
returned (Err why) = record { number = refusal_number why.reason; place = why.place; n = 0; m = 0 }

-- The numbers that the check of a file returns.
abbrev pub check_numbers : List ℕ → Returned
check_numbers file = returned (checked file)

-- What the check promises of its answer.
pub record Checks (file : List ℕ) (r : Result Shape Refusal) : Type 0 where
  pub answers : r ≡ checked file
  pub numbers : returned r ≡ check_numbers file
