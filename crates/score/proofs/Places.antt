-- What the score answers fits the bits that C gets: a refusal's number and place, or raises and lowers below 2^31 (`score_small`).
use mathlib.Core.Path.{◌≡◌, refl}
use mathlib.Core.Bool.{◌&&◌}
use mathlib.Core.List.{List}
use Prim.Native.Nat.{ℕ, ◌^◌, ◌≤◌, ◌<◌}
use native.Mathlib.Omega.{arith}
use lib.Dec.{eqb, lit≤}
use Rattle.std.specs.Prelude.{Result, Ok, Err}
use Rattle.taxa.proofs.Sums.{sum_bound}
use Rattle.record.specs.Bytes.{File}
use Rattle.record.specs.declared.refusal.Refusal.{Refusal}
use Rattle.record.specs.Records.{Passed}
use Rattle.record.specs.Refusals.{refusal_number}
use Rattle.record.proofs.Steps.{either_way}
use Rattle.record.proofs.Places.{By}
use Rattle.matrix.specs.Matrix.{column_in}
use Rattle.matrix.specs.Check.{checked, shape}
use Rattle.matrix.specs.declared.Shape.{Shape}
use Rattle.matrix.proofs.Places.{refusal_small}
use Rattle.matrix.proofs.Taken.{taken_legal, taken_columns, taken_column}
use Rattle.answer.specs.Content.{content_in}
use Rattle.answer.specs.Reading.{file_tests}
use Rattle.answer.proofs.Places.{largest, Few, answer_by}
use Rattle.score.specs.Score.{column_score, raises_of, lowers_of}
use Rattle.score.specs.inner.Light.{column_most}
use Rattle.score.specs.Operation.{node_in, stand_for, agreed, after_answer, after_matrix, scored}
use Rattle.score.specs.declared.Sums.{Sums}
use Rattle.score.proofs.Columns.{column_small}
use Rattle.score.proofs.Light.{taken_light}

-- What fits the bits that C gets.
abbrev pub Small : Result Sums Refusal → Type 0
Small (Ok it) = (it.raises.0 < 2 ^ 31) × (it.lowers.0 < 2 ^ 31)
Small (Err why) = (why.place ≤ largest) × (refusal_number why.reason ≤ 21)

module _ {matrix : List ℕ} (f : File matrix) (answer : List ℕ) where
  taken_small : {n m : ℕ} → Ok (shape n m) ≡ checked matrix → Small (agreed matrix answer n m)
  unfolding agreed raises_of lowers_of
  taken_small {n} {m} taken =
      let μ = stand_for matrix in
      let few : m ≤ 256 = omega (arith, taken_columns f taken, (taken_legal f taken).columns_fit) in
      let Fits : ℕ → Type 0 = λ j. let s = column_score μ (column_in matrix j) (node_in μ answer (column_in matrix j)) in (s.raises ≤ column_most) × (s.lowers ≤ column_most) in
      let small : (j : ℕ) → j < m → Fits j = λ j l. column_small μ (column_in matrix j) (node_in μ answer (column_in matrix j)) (taken_column f taken j l).weight_fits (taken_light f taken j l) in
      let up = sum_bound m column_most (λ j l. (small j l).0) in
      let down = sum_bound m column_most (λ j l. (small j l).1) in
      either_way Small (eqb (content_in answer).n n && eqb (content_in answer).m m) (omega (arith, up), omega (arith, down)) (lit≤ tt, lit≤ tt)

  after : {n m : ℕ} → Ok (shape n m) ≡ checked matrix → (p : Passed) → By Few largest p → Small (after_answer matrix answer n m p)
  after taken (Ok here) b = taken_small taken
  after taken (Err why) (near, few) = (near, omega arith)

  pub score_small : Small (scored matrix answer)
  unfolding scored
  score_small = go (checked matrix) refl
    where
      go : (a : Result Shape Refusal) → a ≡ checked matrix → Small (after_matrix matrix answer a)
      go (Ok it) e = after e (file_tests answer) (answer_by answer)
      go (Err why) e = let (near, some, small, other) = refusal_small matrix e in (omega arith, small)
