-- The operation by its rows: refused by the matrix, by the answer, or because they differ (15); else the score (`taken_row`).
use mathlib.Core.Path.{◌≡◌, ap, ◌∙◌}
use mathlib.Core.List.{List}
use Prim.Native.Nat.{ℕ, ◌≤◌}
use native.Mathlib.Omega.{arith}
use lib.ListN.{length, get_or, take, replicate}
use borrow.Author.Tests.{eq-eqb, ne_eqb}
use Rattle.std.specs.Prelude.{Result, Ok, Err}
use Rattle.std.proofs.lemmas.List.{get_or-take, length-take-le}
use Rattle.record.specs.Refusals.{refused}
use Rattle.record.specs.declared.Cursor.{Cursor}
use Rattle.record.specs.declared.refusal.Refusal.{Refusal}
use Rattle.record.specs.declared.refusal.Reason.TheVariants as reason
use Rattle.matrix.specs.declared.Column.{Column}
use Rattle.matrix.specs.Matrix.{column_in}
use Rattle.matrix.specs.Check.{checked, shape}
use Rattle.answer.specs.declared.Answer.{Answer}
use Rattle.answer.specs.Content.{content_in, group_count, taxa_in, padded, answer_of}
use Rattle.answer.specs.Reading.{file_tests}
use Rattle.answer.proofs.Runs.{at_front}
use Rattle.answer.proofs.Walks.{length_taxa}
use Rattle.score.specs.declared.Raises.{Raises}
use Rattle.score.specs.declared.Lowers.{Lowers}
use Rattle.score.specs.Score.{leaf, nearest_in, node_for, raises_of, lowers_of}
use Rattle.score.specs.Operation.{node_in, stand_for, agreed, scored, returned, Scores}
use Rattle.score.specs.declared.Sums.{Sums}
use Rattle.score.proofs.Nearest.{nearest_same}

-- ---- the groups in a value's places

-- The first k of the groups in the places are all groups of a slice that ends there.
pub first_groups : (μ : ℕ → ℕ) (n k : ℕ) (groups : List ℕ) → k ≤ length groups → node_for μ n (take k groups) (length (take k groups)) ≡ node_for μ n groups k
unfolding node_for
first_groups μ n k groups few i c =
    (ap (λ (l : ℕ). nearest_in μ c (λ j. get_or (take k groups) j 0) l (nearest_in μ c leaf n (leaf 0))) (length-take-le k groups few)
    ∙ nearest_same μ c (λ j. get_or (take k groups) j 0) (λ j. get_or groups j 0) k (nearest_in μ c leaf n (leaf 0)) (λ j l. get_or-take k groups j 0 l)) i

padded_node : (μ : ℕ → ℕ) (file : List ℕ) (n k : ℕ) → node_for μ n (padded (taxa_in file k)) k ≡ node_for μ n (taxa_in file k) k
unfolding node_for
padded_node μ file n k i c =
    nearest_same μ c (λ j. get_or (padded (taxa_in file k)) j 0) (λ j. get_or (taxa_in file k) j 0) k (nearest_in μ c leaf n (leaf 0)) (λ j l.
    at_front (taxa_in file k) (replicate 63 0) j (omega (arith, length_taxa file k))) i

same_node : (μ : ℕ → ℕ) (answer : List ℕ) (n : ℕ) {a : Answer} → a ≡ answer_of (content_in answer) → a.n ≡ n → node_for μ n a.taxa a.groups ≡ node_in μ answer
same_node μ answer n value e = rw (← e, value) (padded_node μ answer (content_in answer).n (group_count answer))

-- ---- two files that were read

module _ (matrix answer : List ℕ) (n m : ℕ) {a : Answer} (value : a ≡ answer_of (content_in answer)) where
  pub other_taxa : (a.n ≡ n → ⊥) → Err (refused reason.Differ 0) ≡ agreed matrix answer n m
  unfolding agreed
  other_taxa h = rw (ne_eqb (content_in answer).n n (rw value at h))

  pub other_columns : a.n ≡ n → (a.m ≡ m → ⊥) → Err (refused reason.Differ 0) ≡ agreed matrix answer n m
  unfolding agreed
  other_columns e h = rw (eq-eqb (content_in answer).n n (rw value at e), ne_eqb (content_in answer).m m (rw value at h))

  pub taken_row : {μ : ℕ → ℕ} {up : Raises} {down : Lowers} → μ ≡ stand_for matrix → a.n ≡ n → a.m ≡ m
      → up.0 ≡ raises_of μ (column_in matrix) (node_for μ n a.taxa a.groups) m → down.0 ≡ lowers_of μ (column_in matrix) (node_for μ n a.taxa a.groups) m
      → Ok (record { raises = up; lowers = down }) ≡ agreed matrix answer n m
  unfolding agreed
  taken_row {μ} stand e e' up_is down_is =
      let node = same_node μ answer n value e in
      let up' = up_is ∙ ap (λ (f : Column → ℕ). raises_of μ (column_in matrix) f m) node ∙ ap (λ (ν : ℕ → ℕ). raises_of ν (column_in matrix) (node_in ν answer) m) stand in
      let down' = down_is ∙ ap (λ (f : Column → ℕ). lowers_of μ (column_in matrix) f m) node ∙ ap (λ (ν : ℕ → ℕ). lowers_of ν (column_in matrix) (node_in ν answer) m) stand in
      rw (eq-eqb (content_in answer).n n (rw value at e), eq-eqb (content_in answer).m m (rw value at e')) (λ i. Ok (record { raises = record { 0 = up' i }; lowers = record { 0 = down' i } }))

-- ---- the operation

module _ (matrix answer : List ℕ) where
  numbered : {r : Result Sums Refusal} → r ≡ scored matrix answer → Scores matrix answer r
  numbered e = record { answers = e; numbers = ap returned e }

  pub matrix_refused : {why : Refusal} → Err why ≡ checked matrix → Scores matrix answer (Err why)
  unfolding scored
  matrix_refused e = numbered (rw (← e))

  module _ {n m : ℕ} (taken : Ok (shape n m) ≡ checked matrix) where
    pub answer_refused : {why : Refusal} → Err why ≡ file_tests answer → Scores matrix answer (Err why)
    unfolding scored
    answer_refused e = numbered (rw (← taken, ← e))

    pub both_read : {here : Cursor} {r : Result Sums Refusal} → Ok here ≡ file_tests answer → r ≡ agreed matrix answer n m → Scores matrix answer r
    unfolding scored
    both_read e s = numbered (rw (← taken, ← e) s)
