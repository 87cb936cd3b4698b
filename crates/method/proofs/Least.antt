-- Listing (`least`) gives a number that passes, and none that passes has a lesser key.
use mathlib.Core.Path.{◌≡◌, refl, sym, ◌∙◌, subst}
use mathlib.Core.Bool.{Bool, true, false, ◌&&◌, cond, true≢false}
use mathlib.Core.Logic.{⊎_elim}
use Prim.Native.Nat.{ℕ, zero, suc, ◌≤◌, ◌<◌}
use native.Mathlib.Nat.{eq-or-lt_of_le, le_of_suc-le-suc}
use native.Mathlib.Omega.{arith}
use lib.Dec.{ltb}
use borrow.Author.Tests.{ltb-true, ltb-false}
use Rattle.method.specs.Split.{least}

module _ (ok : ℕ → Bool) (key : ℕ → ℕ) (d : ℕ) where
  -- It passes the test if d does, and its key is at most that of d and of each number that passes.
  pub record Least (b r : ℕ) : Type 0 where
    pub passes : ok d ≡ true → ok r ≡ true
    pub first : key r ≤ key d
    pub others : (a : ℕ) → a < b → ok a ≡ true → key r ≤ key a

  -- One number more.
  step : (b : ℕ) {r : ℕ} → Least b r → (p q : Bool) → ok b ≡ p → ltb (key b) (key r) ≡ q → Least (suc b) (cond (p && q) b r)
  step b {r} ih p q e f = go p q e f
    where
      last : (r' : ℕ) → key r' ≤ key r → (ok b ≡ true → key r' ≤ key b) → (a : ℕ) → a < suc b → ok a ≡ true → key r' ≤ key a
      last r' l h a m o =
          ⊎_elim
          (λ e. subst (λ (n : ℕ). key r' ≤ key n) (sym e) (h (subst (λ (n : ℕ). ok n ≡ true) e o)))
          (λ n. omega (arith, ih.others a n o))
          (eq-or-lt_of_le (le_of_suc-le-suc m))

      go : (p q : Bool) → ok b ≡ p → ltb (key b) (key r) ≡ q → Least (suc b) (cond (p && q) b r)
      go true true e f =
          let l = ltb-true (key b) (key r) f in
          record { passes = λ h. e; first = omega (arith, ih.first); others = last b (omega arith) (λ o. omega arith) }
      go true false e f =
          let l = ltb-false (key b) (key r) f in
          record { passes = ih.passes; first = ih.first; others = last r (omega arith) (λ o. l) }
      go false q e f = record { passes = ih.passes; first = ih.first; others = last r (omega arith) (λ o. absurd (true≢false (sym o ∙ e))) }

  pub least_is : (b : ℕ) → Least b (least ok key d b)
  unfolding least
  least_is zero = record { passes = λ h. h; first = omega arith; others = λ a l h. omega arith }
  least_is (suc b) = step b (least_is b) (ok b) (ltb (key b) (key (least ok key d b))) refl refl
