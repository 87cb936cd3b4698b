-- The mass of a set under multiplicities: its laws, once for all multiplicities. A count is a case (proofs/Counts.antt).
use mathlib.Core.Path.{◌≡◌, refl, sym, ap, ap₂, ◌∙◌, subst}
use mathlib.Core.Bool.{Bool, true, false, not, ◌&&◌, ◌||◌, cond}
use mathlib.Core.Logic.{◌≢◌}
use Prim.Native.Nat.{ℕ, suc, ◌+◌, ◌*◌, ◌^◌, ◌≤◌, ◌<◌}
use native.Mathlib.Nat.{mul-zero}
use native.Mathlib.Decide.{le_ind}
use native.Mathlib.Omega.{arith}
use borrow.Author.Tests.{ne_eqb}
use Rattle.taxa.specs.Sum.{sum, inside, outside}
use Rattle.taxa.specs.Sets.{has, ◌∈◌, ◌∉◌, ◌⊆◌, Disjoint, ◌∩◌, ◌∪◌, ◌∖◌, mass, Positive, all}
use Rattle.taxa.proofs.Sums.{sum_≡, sum_≤, sum_+, sum_*, sum_none, sum_but, sum_0}
use Rattle.taxa.proofs.Insides.{cond_≡, inside_term, inside_pos}
use Rattle.taxa.proofs.Digits.{without, has_∩, has_∪, has_∖, has_none, has_pow}
use Rattle.taxa.proofs.Members.{in?, out, in∖, in_all, all_<, below, empty, ext, ⊆-∩, disjoint_∩, in_pow, pow_in, pow_∩, ∩-comm, in_pos}

cond_∪ : (p q : Bool) (n : ℕ) → cond (p || q) n 0 + cond (p && q) n 0 ≡ cond p n 0 + cond q n 0
cond_∪ true q n = refl
cond_∪ false q n = omega arith

cond_∖ : (p q : Bool) (n : ℕ) → cond (without p q) n 0 + cond (p && q) n 0 ≡ cond p n 0
cond_∖ true true n = omega arith
cond_∖ true false n = omega arith
cond_∖ false q n = refl

cond_both : (a j : Bool) (n : ℕ) → cond a (cond j n 0) 0 ≡ cond (j && a) n 0
cond_both true true n = refl
cond_both true false n = refl
cond_both false true n = refl
cond_both false false n = refl

cond_at_most : (p : Bool) (n : ℕ) → cond p n 0 ≤ n
cond_at_most true n = omega arith
cond_at_most false n = omega arith

cond_times : (p : Bool) (w n : ℕ) → cond p (w * n) 0 ≡ w * cond p n 0
cond_times true w n = refl
cond_times false w n = sym (mul-zero w)

module _ (k : ℕ) (μ : ℕ → ℕ) where
  -- The term of i in two sums.
  abbrev two : ℕ → Bool → Bool → ℕ
  two i p q = cond p (μ i) 0 + cond q (μ i) 0

  pub mass_none : mass k μ 0 ≡ 0
  unfolding mass
  mass_none = sum_none k (λ i b. ap (λ (p : Bool). cond p (μ i) 0) (has_none i))

  -- Two sets together weigh as both, less what they share; disjoint ones add.
  pub mass_∪_∩ : (x y : ℕ) → mass k μ (x ∪ y) + mass k μ (x ∩ y) ≡ mass k μ x + mass k μ y
  unfolding mass
  mass_∪_∩ x y =
      sym (sum_+ k (inside (has (x ∪ y)) μ) (inside (has (x ∩ y)) μ))
      ∙ sum_≡ k (λ i b. ap₂ (two i) (has_∪ x y i) (has_∩ x y i) ∙ cond_∪ (has x i) (has y i) (μ i))
      ∙ sum_+ k (inside (has x) μ) (inside (has y) μ)

  pub mass_∪ : {x y : ℕ} → Disjoint x y → mass k μ (x ∪ y) ≡ mass k μ x + mass k μ y
  mass_∪ {x} {y} d = omega (arith, mass_∪_∩ x y, ap (mass k μ) (disjoint_∩ d), mass_none)

  pub mass_∖_∩ : (x y : ℕ) → mass k μ (x ∖ y) + mass k μ (x ∩ y) ≡ mass k μ x
  unfolding mass
  mass_∖_∩ x y =
      sym (sum_+ k (inside (has (x ∖ y)) μ) (inside (has (x ∩ y)) μ))
      ∙ sum_≡ k (λ i b. ap₂ (two i) (has_∖ x y i) (has_∩ x y i) ∙ cond_∖ (has x i) (has y i) (μ i))

  -- A subset weighs at most as much, and any set at most all.
  pub mass_∖ : {x y : ℕ} → x ⊆ y → mass k μ (y ∖ x) + mass k μ x ≡ mass k μ y
  mass_∖ {x} {y} s = omega (arith, mass_∖_∩ y x, ap (mass k μ) (∩-comm y x ∙ ⊆-∩ s))

  pub mass_⊆ : {x y : ℕ} → x ⊆ y → mass k μ x ≤ mass k μ y
  mass_⊆ s = omega (arith, mass_∖ s)

  pub mass_le : (x : ℕ) → mass k μ x ≤ sum k μ
  unfolding mass
  mass_le x = sum_≤ k (λ i b. cond_at_most (has x i) (μ i))

  -- A set that weighs some has a member.
  pub mass_some : (x : ℕ) → 0 < mass k μ x → (i : ℕ) × (i < k) × (i ∈ x)
  unfolding mass
  mass_some x p = let (i, b, h, l) = inside_pos k (has x) μ p in (i, b, record { is = h })

  pub mass_pos : {x : ℕ} → 0 < mass k μ x → 0 < x
  mass_pos {x} p = let (i, b, h) = mass_some x p in in_pos h

  -- A set weighs at least what each of its taxa does.
  pub mass_at : {i x : ℕ} → i < k → i ∈ x → μ i ≤ mass k μ x
  unfolding mass
  mass_at {i} {x} l h = inside_term k (has x) μ l h.is

  -- One taxon; one more, and one less.
  pub mass_pow : {j : ℕ} → j < k → mass k μ (2 ^ j) ≡ μ j
  unfolding mass
  mass_pow {j} b = omega (arith, sum_but k {g = inside (has (2 ^ j)) μ} {h = λ i. 0} b other, sum_0 k, ap (λ (p : Bool). cond p (μ j) 0) (in_pow j).is)
    where
      other : (i : ℕ) → i < k → i ≢ j → inside (has (2 ^ j)) μ i ≡ 0
      other i l ne = ap (λ (p : Bool). cond p (μ i) 0) (has_pow j i ∙ ne_eqb i j ne)

  pub mass_insert : {j x : ℕ} → j < k → j ∉ x → mass k μ (x ∪ 2 ^ j) ≡ mass k μ x + μ j
  mass_insert {j} {x} l n = omega (arith, mass_∪ {x = x} {y = 2 ^ j} (record { off = λ h g. n (subst (λ (i : ℕ). i ∈ x) (pow_in j g) h) }), mass_pow l)

  pub mass_remove : {j x : ℕ} → j < k → j ∈ x → mass k μ (x ∖ 2 ^ j) + μ j ≡ mass k μ x
  mass_remove {j} {x} l h = omega (arith, mass_∖_∩ x (2 ^ j), ap (mass k μ) (pow_∩ h), mass_pow l)

  -- The sum over A of what is μ on J and else 0, and the sum off A.
  pub mass_inside : (J A : ℕ) → sum k (inside (has A) (inside (has J) μ)) ≡ mass k μ (J ∩ A)
  unfolding mass
  mass_inside J A = sum_≡ k (λ i b. cond_both (has A i) (has J i) (μ i) ∙ ap (λ (p : Bool). cond p (μ i) 0) (sym (has_∩ J A i)))

  pub mass_outside : (J A : ℕ) → sum k (outside (has A) (inside (has J) μ)) ≡ mass k μ (J ∖ A)
  unfolding mass
  mass_outside J A = sum_≡ k (λ i b. cond_both (not (has A i)) (has J i) (μ i) ∙ ap (λ (p : Bool). cond p (μ i) 0) (sym (has_∖ J A i)))

  -- w times each multiplicity.
  pub mass_times : (w x : ℕ) → mass k (λ i. w * μ i) x ≡ w * mass k μ x
  unfolding mass
  mass_times w x = sum_≡ k (λ i b. cond_times (has x i) w (μ i)) ∙ sum_* k w (inside (has x) μ)

  -- ---- where no multiplicity is 0

  module _ (pos : Positive μ) where
    -- A set with a member weighs some: 0 exactly for the empty set.
    pub mass_in : {i x : ℕ} → i < k → i ∈ x → 0 < mass k μ x
    mass_in {i} {x} l h = omega (arith, pos.some i, mass_at {i = i} {x = x} l h)

    pub mass_zero : {x : ℕ} → x < 2 ^ k → mass k μ x ≡ 0 → x ≡ 0
    mass_zero {x} f e = empty (λ i h. absurd (omega (arith, mass_in (below k f h) h)))

    pub mass_< : {i x y : ℕ} → x ⊆ y → i < k → i ∈ y → i ∉ x → mass k μ x < mass k μ y
    mass_< {i} {x} {y} s l h n = omega (arith, mass_∖ s, mass_in l ((in∖ y x).1 (h, n)))

    -- A subset that weighs as much is all of it.
    pub mass_tight : {x y : ℕ} → y < 2 ^ k → x ⊆ y → mass k μ x ≡ mass k μ y → x ≡ y
    mass_tight {x} {y} f s e = ext s (record { sub = λ {i} h. elim (in? i x) [ yes g ↦ g | no n ↦ absurd (omega (arith, mass_< s (below k f h) h n)) ] })

-- Multiplicities that agree on a set weigh it alike.
pub mass_on : (k : ℕ) {μ ν : ℕ → ℕ} (x : ℕ) → ((i : ℕ) → i < k → i ∈ x → μ i ≡ ν i) → mass k μ x ≡ mass k ν x
unfolding mass
mass_on k x e = sum_≡ k (λ i b. cond_≡ (has x i) (λ h. e i b (record { is = h })))

pub mass_≡ : (k : ℕ) {μ ν : ℕ → ℕ} → ((i : ℕ) → i < k → μ i ≡ ν i) → (x : ℕ) → mass k μ x ≡ mass k ν x
mass_≡ k e x = mass_on k x (λ i b h. e i b)

-- A mass does not depend on a width that is enough.
pub mass_width : (μ : ℕ → ℕ) {j k x : ℕ} → j ≤ k → x < 2 ^ j → mass j μ x ≡ mass k μ x
unfolding mass sum
mass_width μ {j} {k} {x} l f = le_ind (λ (n : ℕ). mass j μ x ≡ mass n μ x) refl more k l
  where
    more : (n : ℕ) → j ≤ n → mass j μ x ≡ mass n μ x → mass j μ x ≡ mass (suc n) μ x
    more n b e = omega (arith, ap (λ (p : Bool). cond p (μ n) 0) (out {i = n} {x = x} (λ h. omega (arith, below j f h))))

-- The first n taxa weigh all they stand for.
pub mass_all : (μ : ℕ → ℕ) {n k : ℕ} → n ≤ k → mass k μ (all n) ≡ sum n μ
unfolding mass
mass_all μ {n} l = sym (mass_width μ l (all_< n)) ∙ sum_≡ n (λ i b. ap (λ (p : Bool). cond p (μ i) 0) (in_all n b).is)
