-- What a column scores is its distance to a node or to nothing (`score_distance`), and no node is nearer, nor is nothing (`none_nearer`): "to nothing costs
-- all of its 1s, which a leaf on one of them undercuts, and is free where there is none".
use mathlib.Core.Path.{◌≡◌, sym}
use mathlib.Core.Bool.{cond}
use mathlib.Core.Logic.{◌⊎◌, inl, inr}
use Prim.Native.Nat.{ℕ, ◌+◌, ◌*◌, ◌^◌, ◌≤◌, ◌<◌}
use native.Mathlib.Nat.{mul-add, mul-le-mul_left}
use native.Mathlib.Decide.{ℕ_discrete}
use native.Mathlib.Omega.{arith}
use lib.Dec.{eqb}
use borrow.Author.Tests.{eq-eqb, ne_eqb}
use Rattle.taxa.specs.Sets.{◌∈◌, ◌∩◌, ◌∖◌, Disjoint, low}
use Rattle.taxa.proofs.Members.{none, in∩, in∖, pow_in, low_in, empty}
use Rattle.taxa.proofs.Masses.{mass_none, mass_⊆}
use Rattle.matrix.specs.declared.Column.{Column}
use Rattle.score.specs.Score.{raises_at, lowers_at, distance, leaf, Counts, column_score}

module _ (μ : ℕ → ℕ) (c : Column) where
  -- What a column is brought to: a node, or nothing where it has no 1.
  abbrev pub goal : ℕ → ℕ
  goal X = cond (eqb c.ones 0) 0 X

  -- To nothing no 0 is raised, and without a 1 none is lowered.
  free : c.ones ≡ 0 → distance μ c 0 ≡ 0
  unfolding distance
  free no_one =
      let no_raise : c.zeros ∩ 0 ≡ 0 = empty (λ i h. none ((in∩ c.zeros 0).0 h).1) in
      let no_lower : c.ones ∖ 0 ≡ 0 = empty (λ i h. none (rw no_one at ((in∖ c.ones 0).0 h).0)) in
      rw (no_raise, no_lower, mass_none 64 μ) (omega arith)

  both : (X : ℕ) → c.weight * raises_at μ c X + c.weight * lowers_at μ c X ≡ distance μ c X
  unfolding distance
  both X = sym (mul-add c.weight (raises_at μ c X) (lowers_at μ c X))

  pub score_distance : (X : ℕ) → (column_score μ c X).raises + (column_score μ c X).lowers ≡ distance μ c (goal X)
  unfolding column_score
  score_distance X =
      elim (ℕ_discrete c.ones 0) [ yes no_one ↦ rw (eq-eqb c.ones 0 no_one) (sym (free no_one)) | no some ↦ rw (ne_eqb c.ones 0 some) (both X) ]

  -- A leaf on one of its 1s is no farther than nothing.
  leaf_nearer : Disjoint c.ones c.zeros → (i : ℕ) → i ∈ c.ones → distance μ c (leaf i) ≤ distance μ c 0
  unfolding distance
  leaf_nearer apart i one =
      let raises : raises_at μ c (leaf i) ≤ raises_at μ c 0 =
      mass_⊆ 64 μ (record { sub = λ h. let (z, at) = (in∩ c.zeros (leaf i)).0 h in absurd (apart.off one (rw (pow_in i at) at z)) }) in
      let lowers : lowers_at μ c (leaf i) ≤ lowers_at μ c 0 =
      mass_⊆ 64 μ (record { sub = λ h. (in∖ c.ones 0).1 (((in∖ c.ones (leaf i)).0 h).0, none) }) in
      mul-le-mul_left c.weight (omega arith)

  module _ {Node : ℕ → Type 0} {X : ℕ} (counts : Counts μ c Node X) (apart : Disjoint c.ones c.zeros) (fits : c.ones < 2 ^ 64)
      (leaves : (i : ℕ) → i ∈ c.ones → Node (leaf i)) where
    pub none_nearer : (F : ℕ) → F ≡ 0 ⊎ Node F → distance μ c (goal X) ≤ distance μ c F
    none_nearer F at =
        elim (ℕ_discrete c.ones 0) [
          | yes no_one ↦ rw (eq-eqb c.ones 0 no_one, free no_one) (omega arith)
          | no some ↦ rw (ne_eqb c.ones 0 some) (go some at)
        ]
      where
        go : (c.ones ≡ 0 → ⊥) → F ≡ 0 ⊎ Node F → distance μ c X ≤ distance μ c F
        go some (inl e) =
            let one : low 64 c.ones ∈ c.ones = low_in 64 (omega arith) fits in
            rw e (omega (arith, counts.least (leaf (low 64 c.ones)) (leaves (low 64 c.ones) one), leaf_nearer apart (low 64 c.ones) one))
        go some (inr node) = counts.least F node
