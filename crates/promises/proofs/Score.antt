-- The score of every accepted pair of files: for each column there is a node that counts (`column_node`), and raises and lowers are the sums over the
-- columns at such nodes, whichever of them are taken (`score_is`). There is a score of such pairs only (`scored_exactly`). How it was before
-- document 02's C-12: `score_before_lem`.
use mathlib.Core.Path.{◌≡◌, refl, sym, ap, ◌∙◌}
use mathlib.Core.Bool.{Bool, true, false, ◌&&◌, cond}
use mathlib.Core.List.{List}
use mathlib.Core.Logic.{◌↔◌}
use Prim.Native.Nat.{ℕ, ◌+◌, ◌<◌}
use native.Mathlib.Omega.{arith}
use lib.Dec.{eqb}
use lib.ListN.{length}
use borrow.Author.Tests.{eqb-true, eq-eqb}
use Rattle.taxa.specs.Sum.{sum, inside}
use Rattle.taxa.proofs.Sums.{sum_≡}
use Rattle.record.specs.Bytes.{File}
use Rattle.record.specs.Records.{Passed}
use Rattle.record.specs.Refusals.{refused}
use Rattle.matrix.specs.Matrix.{column_in, matrix_of}
use Rattle.matrix.specs.Check.{checked}
use Rattle.matrix.proofs.Taken.{taken_columns, taken_legal, taken_taxa}
use Rattle.answer.specs.Content.{content_in}
use Rattle.answer.specs.Reading.{file_tests}
use Rattle.method.specs.Split as method
use Rattle.split.specs.Columns.{matrix_in}
use Rattle.split.proofs.Loading.{file_column}
use Rattle.split.proofs.Soundness.{taken_count, taken_sound}
use Rattle.score.specs.Score.{ColumnScore, Counts, literal_score, column_score, raises_of, lowers_of}
use Rattle.score.specs.Operation.{NodeIn, node_in, stand_for, raises_in, lowers_in, agreed, after_answer, after_matrix, scored, returned, Scores, Readable}
use Rattle.score.proofs.Nearest.{node_counts}
use Rattle.score.proofs.Columns.{same_score, raises_before, lowers_before}
use Rattle.promises.specs.Pairs.{AcceptedPair}
use Rattle.promises.proofs.Numbers.{score_succeeds}
use Rattle.std.specs.Prelude.{Result, Ok, Err}
use Rattle.record.specs.declared.refusal.Refusal.{Refusal}
use Rattle.matrix.specs.Check.{shape}
use Rattle.record.specs.declared.refusal.Reason.TheVariants as reason
use Rattle.matrix.specs.declared.Shape.{Shape}
use Rattle.score.specs.declared.Sums.{Sums}

-- Two files of which a score is returned: an accepted pair.
record Agree (matrix answer : List ℕ) (r : Result Sums Refusal) : Type 0 where
  pair : AcceptedPair matrix answer
  is : r ≡ Ok (record { raises = raises_in matrix answer pair.m; lowers = lowers_in matrix answer pair.m })

module _ (matrix answer : List ℕ) (raises lowers : ℕ) where
  abbrev told : Result Sums Refusal
  told = Ok (record { raises = record { 0 = raises }; lowers = record { 0 = lowers } })

  tested : (n m : ℕ) → Readable matrix answer n m → (a b : Bool) → eqb (content_in answer).n n ≡ a → eqb (content_in answer).m m ≡ b
      → told ≡ cond (a && b) (Ok (record { raises = raises_in matrix answer m; lowers = lowers_in matrix answer m })) (Err (refused reason.Differ 0)) → Agree matrix answer told
  tested n m t true true p q e = record { pair = record { n = n; m = m; accepted = t; same_n = eqb-true _ _ p; same_m = eqb-true _ _ q }; is = e }
  tested n m t true false p q e = absurd (let z : ◌≡◌ {A = ℕ} 0 1 = cc in omega arith)
  tested n m t false b p q e = absurd (let z : ◌≡◌ {A = ℕ} 0 1 = cc in omega arith)

  read : (n m : ℕ) → Ok (shape n m) ≡ checked matrix → (p : Passed) → p ≡ file_tests answer → told ≡ after_answer matrix answer n m p → Agree matrix answer told
  unfolding agreed
  read n m t (Ok here) s e =
      tested n m (record { taken = t; here = here; passes = s }) (eqb (content_in answer).n n) (eqb (content_in answer).m m) refl refl e
  read n m t (Err why) s e = absurd (let z : ◌≡◌ {A = ℕ} 0 1 = cc in omega arith)

  checked_first : (k : Result Shape Refusal) → k ≡ checked matrix → told ≡ after_matrix matrix answer k → Agree matrix answer told
  checked_first (Ok it) t e = read it.n it.m t (file_tests answer) refl e
  checked_first (Err why) t e = absurd (let z : ◌≡◌ {A = ℕ} 0 1 = cc in omega arith)

  agree : told ≡ scored matrix answer → Agree matrix answer told
  unfolding scored
  agree = checked_first (checked matrix) refl

-- Of an accepted pair the score is returned.
pair_scored : {matrix answer : List ℕ} (p : AcceptedPair matrix answer)
    → Ok (record { raises = raises_in matrix answer p.m; lowers = lowers_in matrix answer p.m }) ≡ scored matrix answer
unfolding scored agreed
pair_scored {matrix} {answer} p =
    rw (← p.accepted.taken, ← p.accepted.passes, eq-eqb (content_in answer).n p.n p.same_n, eq-eqb (content_in answer).m p.m p.same_m)

module _ {matrix answer : List ℕ} {r : Result Sums Refusal} (x : Scores matrix answer r) where
  agreeing : (returned r).number ≡ 0 → Agree matrix answer r
  agreeing none = let (raises, lowers, e) = (score_succeeds x).0 none in rw e (agree matrix answer raises lowers (rw e at x.answers))

  -- A score is returned of an accepted matrix and an accepted answer of the same n and m, and of no others.
  pub scored_exactly : (returned r).number ≡ 0 ↔ AcceptedPair matrix answer
  scored_exactly = (λ none. (agreeing none).pair, λ p. ap (λ (s : Result Sums Refusal). (returned s).number) (x.answers ∙ sym (pair_scored p)))

module _ {matrix answer : List ℕ} (f : File matrix) {r : Result Sums Refusal} (x : Scores matrix answer r) (none : (returned r).number ≡ 0) where
  -- How many specimens each taxon of the matrix stands for.
  abbrev μ : ℕ → ℕ
  μ = stand_for matrix

  it : Agree matrix answer r
  it = agreeing x none

  abbrev pair : AcceptedPair matrix answer
  pair = it.pair

  taken : Ok (shape pair.n pair.m) ≡ checked matrix
  taken = pair.accepted.taken

  -- "The column's score is the least over all nodes; among equal ones the node with fewest raises counts": there is such a node, for any column.
  pub column_node : (j : ℕ) → Counts μ (column_in matrix j) (NodeIn answer) (node_in μ answer (column_in matrix j))
  column_node j =
      let a = content_in answer in
      let some : 0 < a.n = omega (arith, pair.same_n, taken_taxa f taken, (taken_legal f taken).some_taxa) in
      node_counts μ (column_in matrix j) some a.taxa a.groups

  -- A column of the file weighs something.
  weighs : {j : ℕ} → j < pair.m → 0 < (column_in matrix j).weight
  weighs {j} l =
      let in_method : j < length (matrix_in matrix).columns = omega (arith, taken_count f taken) in
      omega (arith, (taken_sound f taken).weighs j in_method, ap (λ (c : method.Column). c.weight) (file_column matrix in_method))

  -- How many columns the matrix has.
  abbrev all_columns_lem : ℕ
  all_columns_lem = length (matrix_of matrix).columns

  many : all_columns_lem ≡ pair.m
  many = taken_columns f taken

  -- At other nodes that count for the columns with a 1, every column's score is the same.
  module _ (node : ℕ → ℕ) (counts : (j : ℕ) → j < all_columns_lem → ((column_in matrix j).ones ≡ 0 → ⊥) → Counts μ (column_in matrix j) (NodeIn answer) (node j)) where
    same : {j : ℕ} → j < pair.m → column_score μ (column_in matrix j) (node_in μ answer (column_in matrix j)) ≡ column_score μ (column_in matrix j) (node j)
    same {j} l = same_score μ (column_in matrix j) (weighs l) (λ some. (column_node j, counts j (omega (arith, many)) some))

    summed : (direction : ColumnScore → ℕ) → sum pair.m (λ j. direction (column_score μ (column_in matrix j) (node_in μ answer (column_in matrix j))))
        ≡ sum all_columns_lem (λ j. direction (column_score μ (column_in matrix j) (node j)))
    summed direction =
        sum_≡ pair.m (λ j l. ap direction (same l))
        ∙ ap (λ (k : ℕ). sum k (λ j. direction (column_score μ (column_in matrix j) (node j)))) (sym many)

    -- "Raises and lowers, each times its weight": the sums over the columns, each with a 1 at a node that counts for it.
    pub score_is : ((returned r).raises ≡ sum all_columns_lem (λ j. (column_score μ (column_in matrix j) (node j)).raises))
        × ((returned r).lowers ≡ sum all_columns_lem (λ j. (column_score μ (column_in matrix j) (node j)).lowers))
    unfolding raises_of lowers_of
    score_is = (
      ap (λ (s : Result Sums Refusal). (returned s).raises) it.is ∙ summed (λ s. s.raises),
      ap (λ (s : Result Sums Refusal). (returned s).lowers) it.is ∙ summed (λ s. s.lowers),
    )

    -- "No other column's score may change" (document 02, C-12): by the score as it was before, the lowers are those returned, and the raises those
    -- returned and what columns without a 1 were charged.
    pub score_before_lem : (sum all_columns_lem (λ j. (literal_score μ (column_in matrix j) (node j)).raises)
        ≡ (returned r).raises + sum all_columns_lem (inside (λ j. eqb (column_in matrix j).ones 0) (λ j. (literal_score μ (column_in matrix j) (node j)).raises)))
        × (sum all_columns_lem (λ j. (literal_score μ (column_in matrix j) (node j)).lowers) ≡ (returned r).lowers)
    score_before_lem = (rw score_is.0 (raises_before μ (column_in matrix) node all_columns_lem), rw score_is.1 (lowers_before μ (column_in matrix) node all_columns_lem))
