-- Bit planes: the mass of a set is what its planes count, each as often as its digit is worth, and what is left is counted (`mass_several`); sets that have each
-- taxon's digits hold the multiplicities (`planes_hold`).
use mathlib.Core.Path.{◌≡◌, refl, sym, ap, ap₂, ◌∙◌, fun_ext}
use mathlib.Core.Bool.{Bool, true, false, ◌&&◌, ◌||◌, cond}
use mathlib.Core.List.{List, [], ◌∷◌}
use Prim.Native.Nat.{ℕ, zero, suc, ◌+◌, ◌*◌, ◌/◌, ◌%◌, ◌^◌, ◌≤◌, ◌<◌}
use native.Mathlib.Nat.{pow-suc, mul-one, mul-zero}
use native.Mathlib.Decide.{dec_lt}
use native.Mathlib.Omega.{arith}
use lib.Dec.{ltb, eqb}
use lib.ListN.{length, get_or, get_or-eq_default}
use borrow.Author.Tests.{ltb-false, lt-ltb, le-ltb, eq-eqb, ne_eqb}
use Rattle.taxa.specs.Sum.{sum, inside}
use Rattle.taxa.specs.Sets.{has, ◌∩◌, ◌∪◌, ◌∖◌, mass, unit, count, multiplicity, planar, plane_sum, multiplicity_in, plane_has, Multiplicities}
use Rattle.taxa.proofs.Sums.{sum_≡, sum_*, sum_first, sum_bound}
use Rattle.taxa.proofs.Insides.{inside_swap}
use Rattle.taxa.proofs.Digits.{bit_has, bit_zero, one, half_lt, has_suc, has_∪, has_none, has_pow}
use Rattle.taxa.proofs.Members.{out, in∩, in∖, ∩-disjoint}
use Rattle.taxa.proofs.Masses.{mass_inside, mass_times, mass_≡, mass_on, mass_le, mass_∖_∩}

pub planes_count : (k : ℕ) (plane : ℕ → ℕ) (x : ℕ) → mass k (planar plane) x ≡ plane_sum k plane x
unfolding mass planar count sum
planes_count k plane x = omega (arith, by_digit)
  where
    by_digit : mass k (planar plane) x ≡ sum 7 (λ j. 2 ^ j * count k (plane j ∩ x))
    by_digit = inside_swap k (has x) 7 (λ j i. cond (has (plane j) i) (2 ^ j) 0) ∙ sum_≡ 7 (λ j b. each j)
      where
        each : (j : ℕ) → sum k (inside (has x) (inside (has (plane j)) (λ i. 2 ^ j))) ≡ 2 ^ j * mass k unit (plane j ∩ x)
        each j =
            mass_inside k (λ i. 2 ^ j) (plane j) x ∙ mass_≡ k (λ i b. sym (mul-one (2 ^ j))) (plane j ∩ x)
            ∙ mass_times k unit (2 ^ j) (plane j ∩ x)

-- A number is the sum of what its digits are worth.
digits : (k x : ℕ) → x < 2 ^ k → sum k (inside (has x) (λ j. 2 ^ j)) ≡ x
unfolding sum
digits zero x h = omega arith
digits (suc k) x h = omega (arith, sum_first k (inside (has x) (λ j. 2 ^ j)), first, rest, digits k (x / 2) (half_lt k x h))
  where
    last : (p : Bool) → cond p 1 0 ≡ one p
    last true = refl
    last false = refl

    first : cond (has x 0) 1 0 ≡ x % 2
    first = last (has x 0) ∙ sym (bit_has x 0) ∙ bit_zero x

    double : (p : Bool) (j : ℕ) → cond p (2 ^ suc j) 0 ≡ 2 * cond p (2 ^ j) 0
    double true j = omega (arith, pow-suc 2 j)
    double false j = refl

    rest : sum k (λ j. cond (has x (suc j)) (2 ^ suc j) 0) ≡ 2 * sum k (inside (has (x / 2)) (λ j. 2 ^ j))
    rest = sum_≡ k (λ j b. ap (λ (p : Bool). cond p (2 ^ suc j) 0) (has_suc x j) ∙ double (has (x / 2) j) j) ∙ sum_* k 2 (inside (has (x / 2)) (λ j. 2 ^ j))

-- What seven digits come to, the highest first.
abbrev worth : (ℕ → ℕ) → ℕ
worth d = d 0 + 2 * (d 1 + 2 * (d 2 + 2 * (d 3 + 2 * (d 4 + 2 * (d 5 + 2 * d 6)))))

one_at_most : (p : Bool) → cond p 1 0 ≤ 1
one_at_most true = omega arith
one_at_most false = omega arith

module _ (plane : ℕ → ℕ) (i : ℕ) where
  abbrev digit : ℕ → ℕ
  digit j = cond (has (plane j) i) 1 0

  pub planar_worth : planar plane i ≡ worth digit
  unfolding planar sum
  planar_worth = omega (arith, each 0, each 1, each 2, each 3, each 4, each 5, each 6)
    where
      go : (p : Bool) (w : ℕ) → cond p w 0 ≡ w * cond p 1 0
      go true w = sym (mul-one w)
      go false w = sym (mul-zero w)

      each : (j : ℕ) → cond (has (plane j) i) (2 ^ j) 0 ≡ 2 ^ j * digit j
      each j = go (has (plane j) i) (2 ^ j)

  pub planar_small : planar plane i ≤ 127
  planar_small =
      omega (arith, planar_worth, at_most 0, at_most 1, at_most 2, at_most 3, at_most 4, at_most 5, at_most 6)
    where
      at_most : (j : ℕ) → digit j ≤ 1
      at_most j = one_at_most (has (plane j) i)

-- ---- the eight sets

-- Inside a list nothing is read past its end.
pub any_default : (l : List ℕ) (i d e : ℕ) → i < length l → get_or l i d ≡ get_or l i e
any_default [] i d e b = absurd (omega arith)
any_default (x ∷ l) zero d e b = refl
any_default (x ∷ l) (suc i) d e b = any_default l i d e (omega arith)

-- What a taxon stands for, by whether it is one of several.
pub stands : (P : List ℕ) (i : ℕ) (p : Bool) → has (get_or P 7 0) i ≡ p → multiplicity_in P i ≡ cond p (planar (λ j. get_or P j 0) i) 1
unfolding multiplicity_in
stands P i p e = ap (λ (q : Bool). cond q (planar (λ j. get_or P j 0) i) 1) e

module _ (P : List ℕ) where
  abbrev plane : ℕ → ℕ
  plane j = get_or P j 0

  pub in_small : (i : ℕ) → multiplicity_in P i ≤ 127
  in_small i = go (has (plane 7) i) refl
    where
      go : (p : Bool) → has (plane 7) i ≡ p → multiplicity_in P i ≤ 127
      go true e = omega (arith, stands P i true e, planar_small plane i)
      go false e = omega (arith, stands P i false e)

  pub mass_small : (x : ℕ) → mass 64 (multiplicity_in P) x ≤ 8128
  mass_small x = omega (arith, mass_le 64 (multiplicity_in P) x, sum_bound 64 127 (λ i b. in_small i))

  -- A set without a taxon that stands for several is counted.
  pub mass_ones : (x : ℕ) → x ∩ plane 7 ≡ 0 → mass 64 (multiplicity_in P) x ≡ count 64 x
  unfolding count
  mass_ones x e = mass_on 64 {ν = unit} x (λ i b h. stands P i false (out ((∩-disjoint e).off h)))

  -- The planes weigh the taxa that stand for several, and the others are counted.
  pub mass_several : (x : ℕ) → mass 64 (multiplicity_in P) x ≡ plane_sum 64 plane (x ∩ plane 7) + count 64 (x ∖ plane 7)
  unfolding count
  mass_several x =
      omega (
        arith,
        mass_∖_∩ 64 (multiplicity_in P) x (plane 7),
        mass_on 64 (x ∩ plane 7) (λ i b h. stands P i true ((in∩ x (plane 7)).0 h).1.is),
        mass_on 64 {ν = unit} (x ∖ plane 7) (λ i b h. stands P i false (out ((in∖ x (plane 7)).0 h).1)),
        planes_count 64 plane (x ∩ plane 7),
      )

-- Sets that have each taxon's digits, and those that stand for several, hold the multiplicities.
pub planes_hold : (P : List ℕ) {ms : List ℕ} → Multiplicities ms → ((i j : ℕ) → j < 8 → has (get_or P j 0) i ≡ plane_has (get_or ms i 0) j) → multiplicity_in P ≡ multiplicity ms
unfolding multiplicity planar
planes_hold P {ms} fit h = fun_ext (λ i. elim (dec_lt i (length ms)) [ yes b ↦ within i b | no b ↦ past i (omega arith) ])
  where
    within : (i : ℕ) → i < length ms → multiplicity_in P i ≡ get_or ms i 1
    within i b = go (ltb 1 v) refl
      where
        v : ℕ
        v = get_or ms i 0

        same : get_or ms i 1 ≡ v
        same = any_default ms i 1 0 b

        go : (p : Bool) → ltb 1 v ≡ p → multiplicity_in P i ≡ get_or ms i 1
        go true e =
            stands P i true (h i 7 (omega arith) ∙ e)
            ∙ sum_≡ 7 (λ j c. ap (λ (q : Bool). cond q (2 ^ j) 0) (h i j (omega arith) ∙ ap (λ (q : Bool). cond q (ltb 1 v) (has v j)) (ne_eqb j 7 (λ z. omega arith))))
            ∙ digits 7 v (fit.small i b) ∙ sym same
        go false e = stands P i false (h i 7 (omega arith) ∙ e) ∙ omega (arith, same, fit.positive i b, ltb-false 1 v e)

    past : (i : ℕ) → length ms ≤ i → multiplicity_in P i ≡ get_or ms i 1
    past i l = stands P i false (h i 7 (omega arith) ∙ ap (λ (v : ℕ). ltb 1 v) (get_or-eq_default ms _ l)) ∙ sym (get_or-eq_default ms _ l)

-- Past its end a list has no taxon in any of the sets.
pub past_none : (ms : List ℕ) (j x : ℕ) → length ms ≤ x → plane_has (get_or ms x 0) j ≡ false
past_none ms j x l = ap (λ (v : ℕ). plane_has v j) (get_or-eq_default ms 0 l) ∙ go (eqb j 7)
  where
    go : (p : Bool) → cond p (ltb 1 0) (has 0 j) ≡ false
    go true = refl
    go false = has_none j

-- ---- one taxon more

module _ (f : ℕ → Bool) (plane i : ℕ) (passed : (x : ℕ) → has plane x ≡ cond (ltb x i) (f x) false) where
  -- Of the taxa passed the set has those that f tells; so it has with the next one.
  pub one_more : (x : ℕ) → has (cond (f i) (plane ∪ 2 ^ i) plane) x ≡ cond (ltb x (i + 1)) (f x) false
  one_more x = with_next (f i) ∙ elim (dec_lt x i) [ yes b ↦ before b | no b ↦ elim (dec_lt i x) [ yes a ↦ after a | no a ↦ at (omega arith) ] ]
    where
      with_next : (p : Bool) → has (cond p (plane ∪ 2 ^ i) plane) x ≡ (has plane x || (p && eqb x i))
      with_next true = has_∪ plane (2 ^ i) x ∙ ap (λ (q : Bool). has plane x || q) (has_pow i x)
      with_next false = go (has plane x)
        where
          go : (p : Bool) → p ≡ (p || false)
          go true = refl
          go false = refl

      by : (a b d : Bool) → ltb x i ≡ a → eqb x i ≡ b → ltb x (i + 1) ≡ d → (cond a (f x) false || (f i && b)) ≡ cond d (f x) false
          → (has plane x || (f i && eqb x i)) ≡ cond (ltb x (i + 1)) (f x) false
      by a b d p q r e =
          ap₂ (λ (u v : Bool). u || (f i && v)) (passed x ∙ ap (λ (t : Bool). cond t (f x) false) p) q ∙ e ∙ ap (λ (t : Bool). cond t (f x) false) (sym r)

      neither : (p q : Bool) → (p || (q && false)) ≡ p
      neither true q = refl
      neither false true = refl
      neither false false = refl

      alone : (q : Bool) → (q && true) ≡ q
      alone true = refl
      alone false = refl

      before : x < i → (has plane x || (f i && eqb x i)) ≡ cond (ltb x (i + 1)) (f x) false
      before b = by true false true (lt-ltb x i b) (ne_eqb x i (λ z. omega arith)) (lt-ltb x (i + 1) (omega arith)) (neither (f x) (f i))

      at : x ≡ i → (has plane x || (f i && eqb x i)) ≡ cond (ltb x (i + 1)) (f x) false
      at e = by false true true (le-ltb x i (omega arith)) (eq-eqb x i e) (lt-ltb x (i + 1) (omega arith)) (alone (f i) ∙ ap f (sym e))

      after : i < x → (has plane x || (f i && eqb x i)) ≡ cond (ltb x (i + 1)) (f x) false
      after b = by false false false (le-ltb x i (omega arith)) (ne_eqb x i (λ z. omega arith)) (le-ltb x (i + 1) (omega arith)) (neither false (f i))
