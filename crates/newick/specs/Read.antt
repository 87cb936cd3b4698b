-- The operation "read source trees" (document 02, C-11): a Newick text, and two lent outputs, for a matrix file and for a name list.
use Rattle.std.specs.Prelude.{◌≡◌, ◌||◌, cond, List, [], map, ℕ, ltb, eqb, length, Result, Ok, Err}
use Rattle.record.specs.Bytes.{over}
use Rattle.record.specs.declared.refusal.Refusal.{Refusal}
use Rattle.record.specs.declared.refusal.Reason.{Reason}
use Rattle.record.specs.declared.refusal.Reason.TheVariants as reason
use Rattle.record.specs.Refusals as refusals
use Rattle.record.specs.Refusals.{refusal_number}
use Rattle.grammar.specs.Columns.{Bytes, Column}
use Rattle.grammar.specs.Verdict.{Verdict, accepted, refused}
use Rattle.grammar.specs.Clerk.{Tally, outcome}
use Rattle.ledger.specs.Sets.{ones_of, zeros_of}
use Rattle.matrix.specs.Matrix.{Matrix, file_of}
use Rattle.names.specs.Names.{list_of}
use Rattle.newick.specs.declared.Derived.{Derived}

-- "Every inner vertex but the root gives a column of weight 1", as sets of taxa "numbered by first appearance".
abbrev pub matrix_for : List Bytes → List Column → Matrix
matrix_for taxa columns = record {
  taxa = length taxa;
  multiplicities = [];
  columns = map (λ (c : Column). record { weight = 1; ones = ones_of taxa c; zeros = zeros_of taxa c }) columns;
}

-- "Out come a matrix file and a name list": those of a text that is accepted.
abbrev pub matrix_file : Verdict Tally → List ℕ
matrix_file (accepted ts x) = file_of (matrix_for x.taxa x.columns)
matrix_file (refused number place) = []

abbrev pub name_list : Verdict Tally → List ℕ
name_list (accepted ts x) = list_of x.taxa
name_list (refused number place) = []

-- "16 not of this grammar, or no tree", "17 name too long", "18 name twice in one tree", "19 more than 64 names or 256 columns", "20 brackets nested above 64".
unfoldable pub reason_of : ℕ → Reason
reason_of number =
    cond (eqb number 17) reason.LongName
    (cond (eqb number 18) reason.Repeated
    (cond (eqb number 19) reason.TooMany
    (cond (eqb number 20) reason.TooDeep reason.Misfit)))

-- The text's refusals come first, then 10, "shorter than what goes into it"; `room` and `space` are the lengths of the outputs, for the matrix and
-- for the names.
unfoldable pub answered : Verdict Tally → ℕ → ℕ → Result Derived Refusal
answered (refused number place) room space = Err (refusals.refused (reason_of number) place)
answered (accepted ts x) room space =
    cond (ltb room (length (matrix_file (accepted ts x))) || ltb space (length (name_list (accepted ts x)))) (Err (refusals.refused reason.Room 0))
    (Ok (record { matrix = length (matrix_file (accepted ts x)); names = length (name_list (accepted ts x)) }))

-- What reading a text answers: the lengths of what is written.
unfoldable pub read : List ℕ → ℕ → ℕ → Result Derived Refusal
read text room space = answered (outcome text) room space

-- "A refusal [..] changes no lent memory." "Output past the written length stays as it was."
unfoldable pub output_after : List ℕ → Result Derived Refusal → List ℕ → List ℕ
output_after file (Err why) out = out
output_after file (Ok it) out = over file 0 out

-- Document 01's numbers for each case, with the length of each thing written.
pub record Returned : Type 0 where
  pub number : ℕ
  pub place : ℕ
  pub matrix : ℕ
  pub names : ℕ

-- These numbers, by the case.
abbrev pub returned : Result Derived Refusal → Returned
returned (Ok it) = record { number = 0; place = 0; matrix = it.matrix; names = it.names }
returned (Err why) = record { number = refusal_number why.reason; place = why.place; matrix = 0; names = 0 }

-- The numbers that reading a text returns.
abbrev pub read_numbers : List ℕ → ℕ → ℕ → Returned
read_numbers text room space = returned (read text room space)

-- What reading promises of its answer, and of both outputs at the end.
pub record Reads (text matrix names : List ℕ) (r : Result Derived Refusal) (matrix' names' : List ℕ) : Type 0 where
  pub answers : r ≡ read text (length matrix) (length names)
  pub numbers : returned r ≡ read_numbers text (length matrix) (length names)
  pub matrix_output : matrix' ≡ output_after (matrix_file (outcome text)) r matrix
  pub names_output : names' ≡ output_after (name_list (outcome text)) r names
