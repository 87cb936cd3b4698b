-- The split does not depend on the width k of sets, if the group's taxa are below it: so code may reckon with n taxa and the answer with 64.
use mathlib.Core.Path.{◌≡◌, sym, ap, ◌∙◌, subst}
use mathlib.Core.Bool.{cond}
use Prim.Native.Nat.{ℕ, ◌*◌, ◌^◌, ◌≤◌, ◌<◌}
use native.Mathlib.Omega.{arith}
use lib.Dec.{ltb}
use lib.Pow.{pow_mono}
use Rattle.taxa.specs.Sets.{has, ◌∈◌, ◌⊆◌, ◌∩◌, mass, count, low}
use Rattle.taxa.proofs.Sums.{sum_≡}
use Rattle.taxa.proofs.Members.{⊆-refl, ∖-⊆, ∩-≤, ⊆-≤, low_width}
use Rattle.taxa.proofs.Masses.{mass_width}
use Rattle.taxa.proofs.Counts.{count_width, count_pos}
use Rattle.method.specs.Split.{Column, share, Division, parted, division_cost, Rule, side}
use Rattle.method.specs.Flow.{joined, cap, through}
use Rattle.method.proofs.Listing.{side_rule, rule_only}

module _ (μ : ℕ → ℕ) {j k : ℕ} (l : j ≤ k) {S : ℕ} (fits : S < 2 ^ j) where
  mass_in_S : (o : ℕ) {X : ℕ} → X ⊆ S → mass j μ (o ∩ X) ≡ mass k μ (o ∩ X)
  mass_in_S o {X} s = mass_width μ l (omega (arith, ∩-≤ o X, ⊆-≤ s))

  count_in_S : (o : ℕ) {X : ℕ} → X ⊆ S → count j (o ∩ X) ≡ count k (o ∩ X)
  count_in_S o {X} s = count_width l (omega (arith, ∩-≤ o X, ⊆-≤ s))

  pub share_width : {A : ℕ} → A ⊆ S → (c : Column) → share j μ S A c ≡ share k μ S A c
  unfolding share
  share_width {A} s c = omega (arith, mass_in_S c.ones s, mass_in_S c.ones (∖-⊆ S A), mass_in_S c.zeros (⊆-refl S))

  pub cost_width : (m : ℕ) (cols : ℕ → Column) {A : ℕ} → A ⊆ S → division_cost j μ m cols S A ≡ division_cost k μ m cols S A
  unfolding division_cost
  cost_width m cols s = sum_≡ m (λ c b. ap (λ (n : ℕ). (cols c).weight * n) (share_width s (cols c)))

  -- The network too.
  pub joined_width : (c : Column) → joined j S c ≡ joined k S c
  unfolding joined
  joined_width c = ap (λ (n : ℕ). cond (ltb 0 n) (c.ones ∩ S) 0) (count_in_S c.zeros (⊆-refl S))

  pub cap_width : (c : Column) (i : ℕ) → cap j μ S c i ≡ cap k μ S c i
  unfolding cap
  cap_width c i = ap (λ (x : ℕ). cond (has x i) (c.weight * μ i) 0) (joined_width c)

  pub through_width : (c : Column) → through j μ S c ≡ through k μ S c
  unfolding through
  through_width c = ap (λ (n : ℕ). c.weight * n) (mass_in_S c.zeros (⊆-refl S))

  module _ (two : 1 < count j S) (m : ℕ) (cols : ℕ → Column) where
    same_low : low j S ≡ low k S
    same_low = low_width l (count_pos j (omega arith)) fits

    fits_k : S < 2 ^ k
    fits_k = omega (arith, pow_mono l)

    two_k : 1 < count k S
    two_k = omega (arith, count_width l fits)

    narrow : {A : ℕ} → Division k S A → Division j S A
    narrow {A} d = record { inside = d.inside; lowest = subst (λ (i : ℕ). i ∈ A) (sym same_low) d.lowest; proper = d.proper }

    rule_width : {A t : ℕ} → Rule j μ m cols S A t → Rule k μ m cols S A t
    rule_width {A} r = record {
      is_division = record { inside = r.is_division.inside; lowest = subst (λ (i : ℕ). i ∈ A) same_low r.is_division.lowest; proper = r.is_division.proper };
      cheapest = λ D d. omega (arith, at d, at_A, r.cheapest D (narrow d));
      is_parted = r.is_parted;
      lowest = λ D i d e. r.lowest D i (narrow d) (equal d e);
      fewest = λ D d e h. omega (arith, size d.inside, size r.is_division.inside, r.fewest D (narrow d) (equal d e) h);
      only = λ D d e h n. r.only D (narrow d) (equal d e) h (omega (arith, size d.inside, size r.is_division.inside));
    }
      where
        at : {D : ℕ} → Division k S D → division_cost j μ m cols S D ≡ division_cost k μ m cols S D
        at d = cost_width m cols d.inside

        at_A : division_cost j μ m cols S A ≡ division_cost k μ m cols S A
        at_A = cost_width m cols r.is_division.inside

        equal : {D : ℕ} → Division k S D → division_cost k μ m cols S D ≡ division_cost k μ m cols S A → division_cost j μ m cols S D ≡ division_cost j μ m cols S A
        equal d e = at d ∙ e ∙ sym at_A

        size : {X : ℕ} → X ⊆ S → count j X ≡ count k X
        size s = count_width l (omega (arith, ⊆-≤ s))

    pub side_width : side j μ m cols S ≡ side k μ m cols S
    side_width = (rule_only k μ m cols S fits_k two_k (rule_width (side_rule j μ m cols S fits two)) (side_rule k μ m cols S fits_k two_k)).0

    pub parted_width : parted j S (side j μ m cols S) ≡ parted k S (side k μ m cols S)
    parted_width = (rule_only k μ m cols S fits_k two_k (rule_width (side_rule j μ m cols S fits two)) (side_rule k μ m cols S fits_k two_k)).1
