-- A matrix file and any answer file of the same n and m, not only one that was built (document 02, C-23).
use Rattle.std.specs.Prelude.{◌≡◌, List, ℕ, ◌+◌}
use Rattle.taxa.specs.Sum.{sum}
use Rattle.matrix.specs.Matrix.{column_in}
use Rattle.answer.specs.Content.{content_in}
use Rattle.method.specs.Tree.{Matrix, Clade}
use Rattle.method.specs.Choices.{LeastWeight}
use Rattle.split.specs.Columns.{matrix_in}
use Rattle.score.specs.Score.{ColumnScore, literal_score}
use Rattle.score.specs.Operation.{node_in, stand_for, Readable}
use Rattle.promises.specs.Held.{groups_in, many, columns_of, multiplicities_of, known}

-- The check takes the matrix, reading takes the answer, and they have the same n and m.
pub record AcceptedPair (matrix answer : List ℕ) : Type 0 where
  pub n : ℕ
  pub m : ℕ
  pub accepted : Readable matrix answer n m
  pub same_n : (content_in answer).n ≡ n
  pub same_m : (content_in answer).m ≡ m

-- The clades of the tree in an answer file, over the taxa of a matrix.
abbrev pub clades_in : List ℕ → Matrix → ℕ → Type 0
clades_in answer M = Clade (known M) (groups_in answer)

-- w is "the least weight of flips, over all choices of flips, that lets every column [of the matrix] be filled to a clade of that tree or to nothing".
abbrev pub LeastFlips : List ℕ → List ℕ → ℕ → Type 0
LeastFlips matrix answer = let M = matrix_in matrix in LeastWeight 64 (multiplicities_of M) (many M) (columns_of M) (clades_in answer M) (known M)

-- The score of a pair before C-12: each column "literally from equations 1 and 2", at the node that counts for it.
abbrev pub score_before : List ℕ → List ℕ → ℕ
score_before matrix answer =
    let μ = stand_for matrix in
    let of : ℕ → ColumnScore = λ j. literal_score μ (column_in matrix j) (node_in μ answer (column_in matrix j)) in
    sum (many (matrix_in matrix)) (λ j. (of j).raises + (of j).lowers)
