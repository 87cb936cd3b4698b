-- The score column by column. One without a 1 scores nothing (`without_ones`), any other what it scored before document 02's C-12 (`with_ones`). So over
-- a matrix the lowers are those of before, and the raises are less by just what columns without a 1 were charged (`lowers_before`, `raises_before`).
-- Without multiplicities the flips are counted (`flips_absent`).
use mathlib.Core.Path.{◌≡◌, refl, sym, ap, ◌∙◌}
use mathlib.Core.Bool.{cond}
use mathlib.Core.List.{[]}
use Prim.Native.Nat.{ℕ, ◌+◌, ◌*◌, ◌≤◌, ◌<◌}
use native.Mathlib.Nat.{mul-le-mul_left}
use native.Mathlib.Decide.{ℕ_discrete}
use native.Mathlib.Omega.{arith}
use lib.Dec.{eqb, lit≤}
use borrow.Author.Tests.{eq-eqb, ne_eqb}
use Rattle.taxa.specs.Sum.{sum, inside}
use Rattle.taxa.specs.Sets.{◌∩◌, ◌∖◌, mass, count, multiplicity}
use Rattle.taxa.proofs.Masses.{mass_none, mass_∖_∩}
use Rattle.taxa.proofs.Sums.{sum_next, sum_≡, sum_+}
use Rattle.record.proofs.Steps.{either_way}
use Rattle.matrix.specs.declared.Column.{Column}
use Rattle.score.specs.Score.{ColumnScore, raises_at, lowers_at, Counts, literal_score, column_score, raises_of, lowers_of}
use Rattle.score.specs.inner.Light.{Light, column_most}
use Rattle.score.proofs.Nearest.{same_flips}

-- ---- one column

module _ (μ : ℕ → ℕ) (c : Column) (X : ℕ) where
  pub without_ones : c.ones ≡ 0 → column_score μ c X ≡ record { raises = 0; lowers = 0 }
  unfolding column_score
  without_ones none = rw (eq-eqb c.ones 0 none)

  pub with_ones : (c.ones ≡ 0 → ⊥) → column_score μ c X ≡ literal_score μ c X
  unfolding column_score
  with_ones some = rw (ne_eqb c.ones 0 some)

  -- At most what its 0s, and its 1s, stand for.
  pub flips_few : Light μ c → (raises_at μ c X ≤ 127) × (lowers_at μ c X ≤ 127)
  flips_few few = (omega (arith, mass_∖_∩ 64 μ c.zeros X, few.zeros_few), omega (arith, mass_∖_∩ 64 μ c.ones X, few.ones_few))

  pub column_small : c.weight < 65536 → Light μ c → ((column_score μ c X).raises ≤ column_most) × ((column_score μ c X).lowers ≤ column_most)
  unfolding column_score
  column_small w few =
      let most : (x : ℕ) → x ≤ 127 → c.weight * x ≤ column_most = λ x l. omega (arith, mul-le-mul_left c.weight l) in
      let (raised, lowered) = flips_few few in
      either_way (λ (s : ColumnScore). (s.raises ≤ column_most) × (s.lowers ≤ column_most)) (eqb c.ones 0) (lit≤ tt, lit≤ tt) (most _ raised, most _ lowered)

  -- The raises of before: those of now and, without a 1, what was charged.
  charged_before : (literal_score μ c X).raises ≡ (column_score μ c X).raises + cond (eqb c.ones 0) (literal_score μ c X).raises 0
  charged_before =
      elim (ℕ_discrete c.ones 0) [
        | yes none ↦ rw (without_ones none, eq-eqb c.ones 0 none) (omega arith)
        | no some ↦ rw (with_ones some, ne_eqb c.ones 0 some) (omega arith)
      ]

  -- Where there is no 1, there is none to lower.
  same_lowers : (literal_score μ c X).lowers ≡ (column_score μ c X).lowers
  same_lowers =
      elim (ℕ_discrete c.ones 0) [
        | yes none ↦
            let nobody : lowers_at μ c X ≡ 0 = omega (arith, mass_∖_∩ 64 μ c.ones X, ap (mass 64 μ) none, mass_none 64 μ) in
            rw (without_ones none, nobody) (omega arith)
        | no some ↦ rw (with_ones some)
      ]

-- Without a record of multiplicities the flips are counted, as before document 02's C-14.
pub flips_absent : (c : Column) (X : ℕ) → (raises_at (multiplicity []) c X ≡ count 64 (c.zeros ∩ X)) × (lowers_at (multiplicity []) c X ≡ count 64 (c.ones ∖ X))
unfolding multiplicity count
flips_absent c X = (refl, refl)

-- Nodes that count give a column the same score; one without a 1 has the same at any two.
pub same_score : (μ : ℕ → ℕ) (c : Column) {Nodes : ℕ → Type 0} {X Y : ℕ} → 0 < c.weight → ((c.ones ≡ 0 → ⊥) → Counts μ c Nodes X × Counts μ c Nodes Y) → column_score μ c X ≡ column_score μ c Y
same_score μ c {X = X} {Y} w counts =
    elim (ℕ_discrete c.ones 0) [
      | yes none ↦ without_ones μ c X none ∙ sym (without_ones μ c Y none)
      | no some ↦
          let (up, down) = same_flips μ c w (counts some).0 (counts some).1 in
          rw (with_ones μ c X some, with_ones μ c Y some, up, down)
    ]

-- ---- the columns of a matrix

-- One column more.
module _ (μ : ℕ → ℕ) (column : ℕ → Column) (node : Column → ℕ) (m : ℕ) where
  pub raises_next : raises_of μ column node (m + 1) ≡ raises_of μ column node m + (column_score μ (column m) (node (column m))).raises
  unfolding raises_of
  raises_next = sum_next m _

  pub lowers_next : lowers_of μ column node (m + 1) ≡ lowers_of μ column node m + (column_score μ (column m) (node (column m))).lowers
  unfolding lowers_of
  lowers_next = sum_next m _

-- The sums of before, at any nodes.
module _ (μ : ℕ → ℕ) (column : ℕ → Column) (node : ℕ → ℕ) (m : ℕ) where
  pub raises_before : sum m (λ j. (literal_score μ (column j) (node j)).raises)
      ≡ sum m (λ j. (column_score μ (column j) (node j)).raises) + sum m (inside (λ j. eqb (column j).ones 0) (λ j. (literal_score μ (column j) (node j)).raises))
  raises_before = sum_≡ m (λ j l. charged_before μ (column j) (node j)) ∙ sum_+ m _ _

  pub lowers_before : sum m (λ j. (literal_score μ (column j) (node j)).lowers) ≡ sum m (λ j. (column_score μ (column j) (node j)).lowers)
  lowers_before = sum_≡ m (λ j l. same_lowers μ (column j) (node j))
