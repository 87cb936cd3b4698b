-- Choices of flips. To fill a column to F its 0s in F and its 1s outside F have to be flipped (`needed`), and no more (`enough`); columns are independent,
-- so where each column has its best F, the sum of what these ask is the least weight of a choice (`least_weight`). The flips from one matrix to
-- another that knows the same entries are a choice (`changes_choice`), which makes the other of the one (`turned_same`) and weighs what they do
-- (`changes_weigh`).
use mathlib.Core.Path.{◌≡◌, refl, sym, ap, ◌∙◌}
use mathlib.Core.Bool.{Bool, true, false, ◌&&◌, ◌||◌, cond, true≢false, false≢true}
use mathlib.Core.Logic.{◌⊎◌, inl, inr, ⊎_elim}
use Prim.Native.Nat.{ℕ, ◌+◌, ◌*◌, ◌≤◌, ◌<◌}
use native.Mathlib.Nat.{mul-le-mul_left}
use native.Mathlib.Omega.{arith}
use Rattle.taxa.specs.Sum.{sum}
use Rattle.taxa.specs.Sets.{has, ◌∈◌, ◌∉◌, ◌⊆◌, ◌∩◌, ◌∪◌, ◌∖◌, mass}
use Rattle.taxa.proofs.Sums.{sum_≡, sum_≤}
use Rattle.taxa.proofs.Digits.{without, has_∩, has_∪, has_∖}
use Rattle.taxa.proofs.Members.{in?, out, in∩, in∖, in∪, ∩-⊆}
use Rattle.taxa.proofs.Masses.{mass_⊆, mass_∪}
use Rattle.method.specs.Split.{Column, Same, raise, lower}
use Rattle.method.specs.Tree.{Fills}
use Rattle.method.specs.Choices.{Choice, turned, choice_weight, LeastWeight}
use Rattle.method.proofs.Flips.{Proper, flips, weighed}
use Rattle.method.proofs.Entries.{known, same_sym, same_one, same_zero}

-- ---- what flips make of an entry

-- The two sides of `turned`: what is flipped takes the other's place.
swapped : (x a b : Bool) → (without a x || (b && x)) ≡ cond x b a
swapped true true true = refl
swapped true true false = refl
swapped true false true = refl
swapped true false false = refl
swapped false true true = refl
swapped false true false = refl
swapped false false true = refl
swapped false false false = refl

module _ (X : ℕ) (c : Column) (i : ℕ) where
  turned_ones : has (turned X c).ones i ≡ cond (has X i) (has c.zeros i) (has c.ones i)
  unfolding turned
  turned_ones = simp (has_∪, has_∖, has_∩) (swapped (has X i) (has c.ones i) (has c.zeros i))

  turned_zeros : has (turned X c).zeros i ≡ cond (has X i) (has c.ones i) (has c.zeros i)
  unfolding turned
  turned_zeros = simp (has_∪, has_∖, has_∩) (swapped (has X i) (has c.zeros i) (has c.ones i))

  -- Off X it is as it was; on X a 1 was a 0, and a 0 was a 1.
  turned_off : i ∉ X → Same (turned X c) c i
  turned_off n = record { ones = rw (turned_ones, out n); zeros = rw (turned_zeros, out n) }

  was_zero : i ∈ X → i ∈ (turned X c).ones → i ∈ c.zeros
  was_zero x h = record { is = rw (turned_ones, x.is) at h.is }

  was_one : i ∈ X → i ∈ (turned X c).zeros → i ∈ c.ones
  was_one x h = record { is = rw (turned_zeros, x.is) at h.is }

-- ---- one column

-- What stands in the way of filling a column to F: its 0s in F, and its 1s outside F.
abbrev pub wrong : Column → ℕ → ℕ
wrong c F = (c.zeros ∩ F) ∪ (c.ones ∖ F)

module _ (c : Column) (F : ℕ) where
  open c use {ones as o, zeros as z}

  -- A wrong entry is a 0 in F or a 1 outside F.
  wrong_is : {i : ℕ} → i ∈ wrong c F → (i ∈ z × i ∈ F) ⊎ (i ∈ o × i ∉ F)
  wrong_is h = ⊎_elim (λ a. inl ((in∩ z F).0 a)) (λ a. inr ((in∖ o F).0 a)) ((in∪ (z ∩ F) (o ∖ F)).0 h)

  wrong_zero : {i : ℕ} → i ∈ z → i ∈ F → i ∈ wrong c F
  wrong_zero a b = (in∪ (z ∩ F) (o ∖ F)).1 (inl ((in∩ z F).1 (a, b)))

  wrong_one : {i : ℕ} → i ∈ o → i ∉ F → i ∈ wrong c F
  wrong_one a b = (in∪ (z ∩ F) (o ∖ F)).1 (inr ((in∖ o F).1 (a, b)))

  pub wrong_known : wrong c F ⊆ known c
  wrong_known = record { sub = λ h. (in∪ o z).1 (⊎_elim (λ a. inr a.0) (λ a. inl a.0) (wrong_is h)) }

  pub wrong_mass : (k : ℕ) (μ : ℕ → ℕ) → mass k μ (wrong c F) ≡ mass k μ (z ∩ F) + mass k μ (o ∖ F)
  wrong_mass k μ = mass_∪ k μ (record { off = λ a b. ((in∖ o F).0 b).1 ((in∩ z F).0 a).1 })

  -- Whatever is flipped so that the column can be filled to F, the wrong entries are among it.
  pub needed : {S X : ℕ} → o ⊆ S → F ⊆ S → Fills S (turned X c) F → wrong c F ⊆ X
  needed {S} {X} inside within f =
      record { sub = λ {i} h. elim (in? i X) [ yes x ↦ x | no n ↦ absurd (⊎_elim (left i n) (right i n) (wrong_is h)) ] }
    where
      left : (i : ℕ) → i ∉ X → i ∈ z × i ∈ F → ⊥
      left i n (a, b) = f.zeros (within.sub b) b (same_zero (turned_off X c i n) a)

      right : (i : ℕ) → i ∉ X → i ∈ o × i ∉ F → ⊥
      right i n (a, b) = b (f.ones (inside.sub a) (same_one (turned_off X c i n) a))

  -- And to flip them is enough.
  pub enough : {S : ℕ} → Proper c → Fills S (turned (wrong c F) c) F
  enough p = record { ones = λ {i} x h. elim (in? i F) [ yes y ↦ y | no n ↦ absurd (off i n h (in? i W)) ]; zeros = λ {i} x y h. on i y h (in? i W) }
    where
      W : ℕ
      W = wrong c F

      off : (i : ℕ) → i ∉ F → i ∈ (turned W c).ones → Dec (i ∈ W) → ⊥
      off i n h (yes w) = ⊎_elim (λ e. n e.1) (λ e. p.clash e.0 (was_zero W c i w h)) (wrong_is w)
      off i n h (no k) = k (wrong_one (same_one (same_sym (turned_off W c i k)) h) n)

      on : (i : ℕ) → i ∈ F → i ∈ (turned W c).zeros → Dec (i ∈ W) → ⊥
      on i y h (yes w) = ⊎_elim (λ e. p.clash (was_one W c i w h) e.0) (λ e. e.1 y) (wrong_is w)
      on i y h (no k) = k (wrong_zero (same_zero (same_sym (turned_off W c i k)) h) y)

-- ---- the columns of a matrix

-- What a column may be filled to: nothing or a clade, in X.
abbrev pub Goal : (ℕ → Type 0) → ℕ → ℕ → Type 0
Goal clade X F = (F ≡ 0 ⊎ clade F) × F ⊆ X

-- What it weighs to fill a column to F.
abbrev pub filling : ℕ → (ℕ → ℕ) → Column → ℕ → ℕ
filling k μ c F = c.weight * mass k μ (wrong c F)

module _ (k : ℕ) (μ : ℕ → ℕ) (m : ℕ) (cols : ℕ → Column) (clade : ℕ → Type 0) (X : ℕ) where
  -- "A choice of flips for one column does not touch another, so the least of the sum is the sum of the leasts."
  pub least_weight : ((c : ℕ) → c < m → Proper (cols c)) → ((c : ℕ) → c < m → (cols c).ones ⊆ X)
      → (best : ℕ → ℕ) → ((c : ℕ) → c < m → Goal clade X (best c))
      → ((c F : ℕ) → c < m → Goal clade X F → filling k μ (cols c) (best c) ≤ filling k μ (cols c) F)
      → LeastWeight k μ m cols clade X (sum m (λ c. filling k μ (cols c) (best c)))
  unfolding choice_weight
  least_weight proper inside best goal least =
      record {
        best = λ c. wrong (cols c) (best c);
        lets = record {
          choice = record { known = λ c b. wrong_known (cols c) (best c) };
          fits = λ c b. let (g, s) = goal c b in (best c, g, s, enough (cols c) (best c) (proper c b));
        };
        weighs = refl;
        least = λ chosen l. sum_≤ m (λ c b.
            let (F, g, s, f) = l.fits c b in
            omega (arith, least c F b (g, s), mul-le-mul_left (cols c).weight (mass_⊆ k μ (needed (cols c) F (inside c b) s f))));
      }

-- ---- from one matrix to another

-- An entry that is 1 (o), 0 (z) or neither, and what becomes of it (o', z'). It is flipped where a 0 becomes 1 or a 1 becomes 0; the flips as a choice
-- has them, or as a list has them, raised and lowered apart, make of it what it becomes.
record Turns (o z o' z' : Bool) : Type 0 where
  chosen_one : cond ((z && o') || (o && z')) z o ≡ o'
  chosen_zero : cond ((z && o') || (o && z')) o z ≡ z'
  listed_one : without (o || (z && (z && o'))) (o && z') ≡ o'
  listed_zero : without z (z && o') || ((o || (z && (z && o'))) && (o && z')) ≡ z'

turns : (o z o' z' : Bool) → (o && z) ≡ false → (o' && z') ≡ false → (o' || z') ≡ (o || z) → Turns o z o' z'
turns true true o' z' p q e = absurd (true≢false p)
turns true false true true p q e = absurd (true≢false q)
turns true false true false p q e = record { chosen_one = refl; chosen_zero = refl; listed_one = refl; listed_zero = refl }
turns true false false true p q e = record { chosen_one = refl; chosen_zero = refl; listed_one = refl; listed_zero = refl }
turns true false false false p q e = absurd (false≢true e)
turns false true true true p q e = absurd (true≢false q)
turns false true true false p q e = record { chosen_one = refl; chosen_zero = refl; listed_one = refl; listed_zero = refl }
turns false true false true p q e = record { chosen_one = refl; chosen_zero = refl; listed_one = refl; listed_zero = refl }
turns false true false false p q e = absurd (false≢true e)
turns false false true z' p q e = absurd (true≢false e)
turns false false false true p q e = absurd (true≢false e)
turns false false false false p q e = record { chosen_one = refl; chosen_zero = refl; listed_one = refl; listed_zero = refl }

-- The entries that two columns differ in.
abbrev pub differing : Column → Column → ℕ
differing c d = (c.zeros ∩ d.ones) ∪ (c.ones ∩ d.zeros)

-- Of two columns that know the same entries.
module _ {c d : Column} (p : Proper c) (q : Proper d) (same : known d ≡ known c) (i : ℕ) where
  not_both : {x : Column} → Proper x → (has x.ones i && has x.zeros i) ≡ false
  not_both {x} r = sym (has_∩ x.ones x.zeros i) ∙ out (λ h. let (a, b) = (in∩ x.ones x.zeros).0 h in r.clash a b)

  entries : Turns (has c.ones i) (has c.zeros i) (has d.ones i) (has d.zeros i)
  entries = turns _ _ _ _ (not_both p) (not_both q) (sym (has_∪ d.ones d.zeros i) ∙ ap (λ (x : ℕ). has x i) same ∙ has_∪ c.ones c.zeros i)

  pub turned_same : Same (turned (differing c d) c) d i
  turned_same = record {
    ones = turned_ones (differing c d) c i ∙ simp (has_∪, has_∩) entries.chosen_one;
    zeros = turned_zeros (differing c d) c i ∙ simp (has_∪, has_∩) entries.chosen_zero;
  }

  pub listed_same : Same (lower (c.ones ∩ d.zeros) (raise (c.zeros ∩ d.ones) c)) d i
  unfolding raise lower
  listed_same = record { ones = simp (has_∪, has_∖, has_∩) entries.listed_one; zeros = simp (has_∪, has_∖, has_∩) entries.listed_zero }

-- The flips from the columns old to the columns new are a choice, which weighs what they do.
module _ (m : ℕ) (old new : ℕ → Column) where
  abbrev pub changes : ℕ → ℕ
  changes c = differing (old c) (new c)

  pub changes_choice : Choice m old changes
  changes_choice =
      record {
        known = λ c b. record {
          sub = λ h. (in∪ (old c).ones (old c).zeros).1
              (⊎_elim (λ z. inr ((∩-⊆ (old c).zeros (new c).ones).sub z)) (λ o. inl ((∩-⊆ (old c).ones (new c).zeros).sub o))
              ((in∪ ((old c).zeros ∩ (new c).ones) ((old c).ones ∩ (new c).zeros)).0 h));
        };
      }

  pub changes_weigh : (k : ℕ) (μ : ℕ → ℕ) → ((c : ℕ) → Proper (old c)) → choice_weight k μ m old changes ≡ weighed k μ m old new
  unfolding choice_weight weighed flips
  changes_weigh k μ p =
      sum_≡ m (λ c b. ap (λ (x : ℕ). (old c).weight * x) (mass_∪ k μ (record {
        off = λ z o. (p c).clash ((∩-⊆ (old c).ones (new c).zeros).sub o) ((∩-⊆ (old c).zeros (new c).ones).sub z);
      })))
