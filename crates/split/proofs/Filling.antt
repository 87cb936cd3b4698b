-- A list that a loop fills, entry by entry.
use mathlib.Core.Path.{◌≡◌, refl, ◌∙◌}
use mathlib.Core.List.{List}
use mathlib.Core.Logic.{by_cases}
use Prim.Native.Nat.{ℕ, ◌+◌, ◌≤◌, ◌<◌}
use native.Mathlib.Decide.{dec_lt, ℕ_discrete}
use native.Mathlib.Omega.{arith}
use lib.ListN.{length, get_or, set, take, length-set, get_or-eq_default}
use lib.Seq.{get_or-set_same, get_or-set_other, get_or-take, length-take-le}

-- The first c entries are f's, and the others as they were.
pub record Filled (f : ℕ → ℕ) (old new : List ℕ) (c : ℕ) : Type 0 where
  pub long : length new ≡ length old
  pub done : (x : ℕ) → x < c → get_or new x 0 ≡ f x
  pub left : (x : ℕ) → c ≤ x → get_or new x 0 ≡ get_or old x 0

module _ {f : ℕ → ℕ} where
  pub fill_none : (l : List ℕ) → Filled f l l 0
  fill_none l = record { long = refl; done = λ x b. absurd (omega arith); left = λ x b. refl }

  module _ {old new : List ℕ} {c : ℕ} (h : Filled f old new c) where
    pub fill_one : {v : ℕ} → c < length old → v ≡ f c → Filled f old (set new c v) (c + 1)
    fill_one {v} b e =
        record {
          long = length-set new c v ∙ h.long;
          done = λ x l. by_cases (ℕ_discrete x c) (λ s. rw s (get_or-set_same new c v 0 (omega (arith, h.long)) ∙ e)) (λ n. get_or-set_other new c x v 0 n ∙ h.done x (omega arith));
          left = λ x l. get_or-set_other new c x v 0 (λ s. omega arith) ∙ h.left x (omega arith);
        }

    -- Its first m entries, all of them filled, are g, where f and g are the same below m, and g is 0 from there on.
    pub fill_front : (m : ℕ) {g : ℕ → ℕ} → m ≤ c → m ≤ length old → ((x : ℕ) → x < m → f x ≡ g x) → ((x : ℕ) → m ≤ x → g x ≡ 0) → (x : ℕ) → get_or (take m new) x 0 ≡ g x
    fill_front m {g} l fits same z x =
        by_cases (dec_lt x m) (λ b. get_or-take m new x 0 b ∙ h.done x (omega arith) ∙ same x b)
        (λ n. let far : m ≤ x = omega arith in get_or-eq_default (take m new) 0 (omega (arith, length-take-le m new (omega (arith, h.long)))) ∙ rw (z x far))

    -- Filled to its end, it is f, where f is 0 past the end.
    pub fill_all : length old ≤ c → ((x : ℕ) → length old ≤ x → f x ≡ 0) → (x : ℕ) → get_or new x 0 ≡ f x
    fill_all l z x =
        by_cases (dec_lt x c) (λ b. h.done x b) (λ n. let far : length old ≤ x = omega arith in get_or-eq_default new 0 (omega (arith, h.long)) ∙ rw (z x far))
