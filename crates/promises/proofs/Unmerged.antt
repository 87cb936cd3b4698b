-- A matrix file without multiplicities ("where it's absent, all are 1") has the answer, the splits and the score that it had before document 02's C-14:
-- those of the definitions over counts of taxa (method/specs/Counted.antt).
use mathlib.Core.Path.{◌≡◌, refl, ap, ◌∙◌, fun_ext}
use mathlib.Core.Bool.{Bool, false, cond}
use mathlib.Core.List.{List, []}
use Prim.Native.Nat.{ℕ}
use lib.ListN.{take, drop}
use Rattle.taxa.specs.Sets.{◌∩◌, ◌∖◌, unit, multiplicity, count}
use Rattle.record.specs.Bytes.{File, number_at}
use Rattle.matrix.specs.declared.Column.{Column}
use Rattle.matrix.specs.Matrix.{has_multiplicities, multiplicity_count, multiplicities_in, matrix_of}
use Rattle.method.specs.Split.{side, split_cost, parted}
use Rattle.method.specs.Tree.{Answer, answer}
use Rattle.method.specs.Counted as counted
use Rattle.method.proofs.Counted.{side_before, cost_before, answer_before}
use Rattle.split.specs.Columns.{matrix_in}
use Rattle.split.specs.Operation.{split_of}
use Rattle.score.specs.Score.{raises_at, lowers_at}
use Rattle.score.specs.Operation.{stand_for}
use Rattle.score.proofs.Columns.{flips_absent}
use Rattle.promises.specs.Held.{Leaves, groups_in, flips_in, total_in, many, columns_of, multiplicities_of}
use Rattle.promises.proofs.Answers.{groups_are, flips_are, total_is}
use Rattle.std.specs.Prelude.{Ok}

module _ (file : List ℕ) (absent : has_multiplicities file ≡ false) where
  none_listed : multiplicities_in file ≡ []
  unfolding multiplicities_in multiplicity_count
  none_listed = ap (λ (p : Bool). take (cond p (number_at 2 file 4) 0) (drop 12 file)) absent

  all_one : multiplicities_of (matrix_in file) ≡ unit
  unfolding matrix_of multiplicity
  all_one = ap multiplicity none_listed ∙ fun_ext (λ i. refl)

  -- ---- the build

  abbrev before : Answer
  before = counted.answer (matrix_in file).taxa (matrix_in file).columns

  same_answer : answer (matrix_in file) ≡ before
  same_answer = answer_before (matrix_in file) (λ i. ap (λ (μ : ℕ → ℕ). μ i) all_one)

  pub answer_as_before : {answerFile : List ℕ} → File file → Leaves file answerFile
      → (groups_in answerFile ≡ before.groups) × (flips_in answerFile ≡ before.flips) × (total_in answerFile ≡ before.total)
  answer_as_before f b = (
    groups_are f b ∙ ap (λ (a : Answer). a.groups) same_answer,
    flips_are f b ∙ ap (λ (a : Answer). a.flips) same_answer,
    total_is f b ∙ ap (λ (a : Answer). a.total) same_answer,
  )

  -- ---- the split: what it answers of a group that it does not refuse

  pub split_as_before : (S : ℕ)
      → let M = matrix_in file in
      let A = counted.side 64 (many M) (columns_of M) S in
      split_of M S ≡ Ok (record { cost = counted.division_cost 64 (many M) (columns_of M) S A; side = A; other = parted 64 S A })
  unfolding split_of
  split_as_before S =
      let M = matrix_in file in
      let same = side_before 64 (many M) (columns_of M) S in
      let cost = cost_before 64 (many M) (columns_of M) S in
      ap
      (λ (μ : ℕ → ℕ). Ok (record { cost = split_cost 64 μ (many M) (columns_of M) S; side = side 64 μ (many M) (columns_of M) S; other = parted 64 S (side 64 μ (many M) (columns_of M) S) }))
      all_one
      ∙ (λ i. Ok (record { cost = cost i; side = same i; other = parted 64 S (same i) }))

  -- ---- the score: at any node, the flips of a column are its taxa again

  pub score_as_before : (c : Column) (X : ℕ) → (raises_at (stand_for file) c X ≡ count 64 (c.zeros ∩ X)) × (lowers_at (stand_for file) c X ≡ count 64 (c.ones ∖ X))
  score_as_before c X = rw none_listed (flips_absent c X)
