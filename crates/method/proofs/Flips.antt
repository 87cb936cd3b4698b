-- What one split flips: its entries weigh what the division costs (`flips_cost`).
use mathlib.Core.Path.{◌≡◌, refl, ap}
use mathlib.Core.Bool.{Bool, true, false, cond}
use mathlib.Core.Logic.{inr, ⊎_elim}
use Prim.Native.Nat.{ℕ, ◌+◌, ◌*◌, ◌≤◌, ◌<◌, min}
use native.Mathlib.Omega.{arith}
use lib.Dec.{leb}
use borrow.Author.Tests.{leb-true, leb-false}
use Rattle.taxa.specs.Sum.{sum}
use Rattle.taxa.specs.Sets.{◌∈◌, ◌∉◌, ◌∩◌, ◌∪◌, ◌∖◌, mass}
use Rattle.taxa.proofs.Sums.{sum_≡}
use Rattle.taxa.proofs.Members.{in∩, in∖, in∪, ext, empty, ∩-⊆}
use Rattle.taxa.proofs.Masses.{mass_none, mass_⊆, mass_∪}
use Rattle.method.specs.Split.{Column, raise, lower, share, flip, flipped, division_cost}

-- No taxon is both 1 and 0.
pub record Proper (c : Column) : Type 0 where
  pub clash : {i : ℕ} → i ∈ c.ones → i ∉ c.zeros

module _ (k : ℕ) (μ : ℕ → ℕ) where
  -- What the entries weigh that two columns differ in: those raised and those lowered.
  unfoldable pub flips : Column → Column → ℕ
  flips c d = mass k μ (c.zeros ∩ d.ones) + mass k μ (c.ones ∩ d.zeros)

  module _ {c : Column} (p : Proper c) (X : ℕ) where
    open c use {ones as o, zeros as z}

    flips_raise : flips c (raise X c) ≡ mass k μ (c.zeros ∩ X)
    unfolding flips raise
    flips_raise = omega (arith, ap (mass k μ) zeros, ap (mass k μ) ones, mass_none k μ)
      where
        zeros : z ∩ (o ∪ (z ∩ X)) ≡ z ∩ X
        zeros = ext (record { sub = λ h. let (a, b) = (in∩ z (o ∪ (z ∩ X))).0 h in ⊎_elim (λ e. absurd (p.clash e a)) (λ e. e) ((in∪ o (z ∩ X)).0 b) })
            (record { sub = λ h. (in∩ z (o ∪ (z ∩ X))).1 (((in∩ z X).0 h).0, (in∪ o (z ∩ X)).1 (inr h)) })

        ones : o ∩ (z ∖ X) ≡ 0
        ones = empty (λ i h. let (a, b) = (in∩ o (z ∖ X)).0 h in p.clash a ((in∖ z X).0 b).0)

    flips_lower : flips c (lower X c) ≡ mass k μ (c.ones ∩ X)
    unfolding flips lower
    flips_lower = omega (arith, ap (mass k μ) zeros, ap (mass k μ) ones, mass_none k μ)
      where
        ones : o ∩ (z ∪ (o ∩ X)) ≡ o ∩ X
        ones = ext (record { sub = λ h. let (a, b) = (in∩ o (z ∪ (o ∩ X))).0 h in ⊎_elim (λ e. absurd (p.clash a e)) (λ e. e) ((in∪ z (o ∩ X)).0 b) })
            (record { sub = λ h. (in∩ o (z ∪ (o ∩ X))).1 (((in∩ o X).0 h).0, (in∪ z (o ∩ X)).1 (inr h)) })

        zeros : z ∩ (o ∖ X) ≡ 0
        zeros = empty (λ i h. let (a, b) = (in∩ z (o ∖ X)).0 h in p.clash ((in∖ o X).0 b).0 a)

  -- No column has more flips than the taxa that it knows stand for.
  pub flips_bound : {c : Column} → Proper c → (d : Column) → flips c d ≤ mass k μ (c.ones ∪ c.zeros)
  unfolding flips
  flips_bound {c} p d =
      omega (
        arith,
        mass_⊆ k μ (∩-⊆ c.zeros d.ones),
        mass_⊆ k μ (∩-⊆ c.ones d.zeros),
        mass_∪ k μ {x = c.ones} {y = c.zeros} (record { off = p.clash }),
      )

  -- The three ways to flip a column.
  pub data Flip (S A : ℕ) (c : Column) : Column → Type 0 where
    up : mass k μ (c.zeros ∩ S) ≤ mass k μ (c.ones ∩ A) → mass k μ (c.zeros ∩ S) ≤ mass k μ (c.ones ∩ (S ∖ A)) → Flip S A c (raise S c)
    left : mass k μ (c.ones ∩ A) ≤ mass k μ (c.ones ∩ (S ∖ A)) → mass k μ (c.ones ∩ A) < mass k μ (c.zeros ∩ S) → Flip S A c (lower A c)
    right : mass k μ (c.ones ∩ (S ∖ A)) < mass k μ (c.ones ∩ A) → mass k μ (c.ones ∩ (S ∖ A)) < mass k μ (c.zeros ∩ S) → Flip S A c (lower (S ∖ A) c)

  pub flip_is : (S A : ℕ) (c : Column) → Flip S A c (flip k μ S A c)
  unfolding flip
  flip_is S A c = go (leb z (min a b)) (leb a b) refl refl
    where
      a : ℕ
      a = mass k μ (c.ones ∩ A)

      b : ℕ
      b = mass k μ (c.ones ∩ (S ∖ A))

      z : ℕ
      z = mass k μ (c.zeros ∩ S)

      go : (p q : Bool) → leb z (min a b) ≡ p → leb a b ≡ q → Flip S A c (cond p (raise S c) (cond q (lower A c) (lower (S ∖ A) c)))
      go true q e f = let l = leb-true z (min a b) e in up (omega arith) (omega arith)
      go false true e f = let l = leb-false z (min a b) e in let m = leb-true a b f in left (omega arith) (omega arith)
      go false false e f = let l = leb-false z (min a b) e in let m = leb-false a b f in right (omega arith) (omega arith)

  pub flips_share : (S A : ℕ) {c : Column} → Proper c → flips c (flip k μ S A c) ≡ share k μ S A c
  unfolding share
  flips_share S A {c} p = go (flip_is S A c)
    where
      go : {d : Column} → Flip S A c d → flips c d ≡ share k μ S A c
      go (up h l) = omega (arith, flips_raise p S)
      go (left h l) = omega (arith, flips_lower p A)
      go (right h l) = omega (arith, flips_lower p (S ∖ A))

  -- The flips of m columns, each times its weight.
  unfoldable pub weighed : ℕ → (ℕ → Column) → (ℕ → Column) → ℕ
  weighed m cols after = sum m (λ c. (cols c).weight * flips (cols c) (after c))

  -- What a split flips is what the division costs.
  pub flips_cost : (m : ℕ) (cols : ℕ → Column) (S A : ℕ) → ((c : ℕ) → Proper (cols c)) → weighed m cols (flipped k μ m cols S A) ≡ division_cost k μ m cols S A
  unfolding weighed flipped division_cost
  flips_cost m cols S A p = sum_≡ m (λ c l. ap (λ (n : ℕ). (cols c).weight * n) (flips_share S A (p c)))
