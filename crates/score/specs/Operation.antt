-- The operation "score": a matrix file and an answer file (document 01, "Operations and refusals").
use Rattle.std.specs.Prelude.{◌≡◌, ◌&&◌, cond, List, ℕ, eqb, Result, Ok, Err}
use Rattle.taxa.specs.Sets.{multiplicity}
use Rattle.record.specs.Records.{Passed}
use Rattle.record.specs.declared.Cursor.{Cursor}
use Rattle.record.specs.declared.refusal.Refusal.{Refusal}
use Rattle.record.specs.declared.refusal.Reason.TheVariants as reason
use Rattle.record.specs.Refusals.{refused, refusal_number}
use Rattle.matrix.specs.declared.Column.{Column}
use Rattle.matrix.specs.Matrix.{multiplicities_in, column_in}
use Rattle.matrix.specs.Check.{checked, shape}
use Rattle.matrix.specs.declared.Shape.{Shape}
use Rattle.answer.specs.Content.{content_in}
use Rattle.answer.specs.Reading.{file_tests}
use Rattle.score.specs.declared.Raises.{Raises}
use Rattle.score.specs.declared.Lowers.{Lowers}
use Rattle.score.specs.Score.{Node, node_for, raises_of, lowers_of}
use Rattle.score.specs.declared.Sums.{Sums}

-- The nodes of the tree in an answer file.
abbrev pub NodeIn : List ℕ → ℕ → Type 0
NodeIn answer = let a = content_in answer in Node a.n a.taxa a.groups

-- The one that counts for a column, under the multiplicities μ.
abbrev pub node_in : (ℕ → ℕ) → List ℕ → Column → ℕ
node_in μ answer = let a = content_in answer in node_for μ a.n a.taxa a.groups

-- How many specimens each taxon of a matrix file stands for.
abbrev pub stand_for : List ℕ → ℕ → ℕ
stand_for matrix = multiplicity (multiplicities_in matrix)

-- The raises of a matrix file's m columns: "raises and lowers, each times its weight".
abbrev pub raises_in : List ℕ → List ℕ → ℕ → Raises
raises_in matrix answer m = let μ = stand_for matrix in record { 0 = raises_of μ (column_in matrix) (node_in μ answer) m }

-- The lowers of a matrix file's m columns.
abbrev pub lowers_in : List ℕ → List ℕ → ℕ → Lowers
lowers_in matrix answer m = let μ = stand_for matrix in record { 0 = lowers_of μ (column_in matrix) (node_in μ answer) m }

-- "Matrix and answer differ in n or m" (15, at 0), or else the score.
unfoldable pub agreed : List ℕ → List ℕ → ℕ → ℕ → Result Sums Refusal
agreed matrix answer n m =
    cond (eqb (content_in answer).n n && eqb (content_in answer).m m)
    (Ok (record { raises = raises_in matrix answer m; lowers = lowers_in matrix answer m }))
    (Err (refused reason.Differ 0))

-- "Score reads the matrix, then the answer, then tests 15; a refused answer gives its place in the answer": once the answer was read.
abbrev pub after_answer : List ℕ → List ℕ → ℕ → ℕ → Passed → Result Sums Refusal
after_answer matrix answer n m (Ok here) = agreed matrix answer n m
after_answer matrix answer n m (Err why) = Err why

-- Once the matrix was read: the answer is.
abbrev pub after_matrix : List ℕ → List ℕ → Result Shape Refusal → Result Sums Refusal
after_matrix matrix answer (Ok it) = after_answer matrix answer it.n it.m (file_tests answer)
after_matrix matrix answer (Err why) = Err why

-- What the score of two files answers.
unfoldable pub scored : List ℕ → List ℕ → Result Sums Refusal
scored matrix answer = after_matrix matrix answer (checked matrix)

-- Document 01's numbers for each case: "success returns 0, place 0 and, for [..] score, raises and lowers, each times its weight".
pub record Returned : Type 0 where
  pub number : ℕ
  pub place : ℕ
  pub raises : ℕ
  pub lowers : ℕ

-- These numbers, by the case.
abbrev pub returned : Result Sums Refusal → Returned
returned (Ok it) = record { number = 0; place = 0; raises = it.raises.0; lowers = it.lowers.0 }
returned (Err why) = record { number = refusal_number why.reason; place = why.place; raises = 0; lowers = 0 }

-- The numbers that the score of two files returns.
abbrev pub score_numbers : List ℕ → List ℕ → Returned
score_numbers matrix answer = returned (scored matrix answer)

-- What the score of two files promises of its answer.
pub record Scores (matrix answer : List ℕ) (r : Result Sums Refusal) : Type 0 where
  pub answers : r ≡ scored matrix answer
  pub numbers : returned r ≡ score_numbers matrix answer

-- Both files were read.
pub record Readable (matrix answer : List ℕ) (n m : ℕ) : Type 0 where
  pub taken : Ok (shape n m) ≡ checked matrix
  pub here : Cursor
  pub passes : Ok here ≡ file_tests answer
