-- How a part grows: sweeps meet only linked taxa (`swept_linked`), and where one changes nothing, no column leads out (`swept_apart`);
-- so growing ends with the method's part (`grown_part`).
use mathlib.Core.Path.{◌≡◌, refl, sym, ap, ◌∙◌, subst}
use mathlib.Core.Bool.{Bool, true, false, ◌||◌, cond}
use mathlib.Core.List.{List}
use mathlib.Core.Logic.{◌≢◌, inl, inr, ⊎_elim}
use Prim.Native.Nat.{ℕ, zero, suc, ◌^◌, ◌≤◌, ◌<◌}
use native.Mathlib.Nat.{le_refl}
use native.Mathlib.Decide.{le_ind}
use native.Mathlib.Omega.{arith}
use lib.Dec.{eqb}
use lib.ListN.{length, get_or}
use borrow.Author.Tests.{eqb-true, eqb-false, eq-eqb, ne_eqb}
use Rattle.taxa.specs.Sets.{◌∈◌, ◌⊆◌, ◌∩◌, ◌∪◌, ◌∖◌, mass, Positive, low}
use Rattle.taxa.proofs.Members.{in∩, in∖, in∪, ext, empty, ⊆-refl, ⊆-trans, ∪-⊆, ∩-⊆ʳ, ∩-≤, ⊆-≤, pow_⊆, in_pow, pow_in, low_in}
use Rattle.taxa.proofs.Masses.{mass_none}
use Rattle.method.specs.Split.{Column, share, Linked, start, step, part}
use Rattle.method.proofs.Parts.{Apart, part_is}
use Rattle.method.proofs.Links.{linked_part}
use Rattle.search.specs.Search.{cols_of}
use Rattle.split.specs.inner.Parts.{grown, swept}

-- ---- the cases of what a column adds

module _ (S o z met : ℕ) where
  pub no_zero : z ∩ S ≡ 0 → met ≡ grown S o z met
  unfolding grown
  no_zero e = rw (eq-eqb (z ∩ S) 0 e)

  pub no_one : o ∩ met ≡ 0 → met ≡ grown S o z met
  unfolding grown
  no_one e = rw (eq-eqb (o ∩ met) 0 e) (go (eqb (z ∩ S) 0))
    where
      go : (p : Bool) → met ≡ cond (p || true) met (met ∪ (o ∩ S))
      go true = refl
      go false = refl

  pub joins : z ∩ S ≢ 0 → o ∩ met ≢ 0 → met ∪ (o ∩ S) ≡ grown S o z met
  unfolding grown
  joins f g = rw (ne_eqb (z ∩ S) 0 f, ne_eqb (o ∩ met) 0 g)

  -- The same, as a view of the result; where the column joins, with a zero of it and a taxon met.
  data Grows : ℕ → Type 0 where
    off : z ∩ S ≡ 0 → Grows met
    away : o ∩ met ≡ 0 → Grows met
    on : {x a : ℕ} → x ∈ z ∩ S → a ∈ o ∩ met → Grows (met ∪ (o ∩ S))

  grown_is : S < 2 ^ 64 → met ⊆ S → Grows (grown S o z met)
  unfolding grown
  grown_is fits s = go (eqb (z ∩ S) 0) (eqb (o ∩ met) 0) refl refl
    where
      some : (x y : ℕ) → y < 2 ^ 64 → x ∩ y ≢ 0 → low 64 (x ∩ y) ∈ x ∩ y
      some x y f n = low_in 64 (omega arith) (omega (arith, ∩-≤ x y))

      go : (p q : Bool) → eqb (z ∩ S) 0 ≡ p → eqb (o ∩ met) 0 ≡ q → Grows (cond (p || q) met (met ∪ (o ∩ S)))
      go true q e f = off (eqb-true (z ∩ S) 0 e)
      go false true e f = away (eqb-true (o ∩ met) 0 f)
      go false false e f = on (some z S fits (eqb-false (z ∩ S) 0 e)) (some o met (omega (arith, ⊆-≤ s)) (eqb-false (o ∩ met) 0 f))

  grows_⊆ : {r : ℕ} → Grows r → met ⊆ S → r ⊆ S
  grows_⊆ (off e) s = s
  grows_⊆ (away e) s = s
  grows_⊆ (on x a) s = ∪-⊆ s (∩-⊆ʳ o S)

  grows-⊇ : {r : ℕ} → Grows r → met ⊆ r
  grows-⊇ (off e) = ⊆-refl met
  grows-⊇ (away e) = ⊆-refl met
  grows-⊇ (on x a) = record { sub = λ h. (in∪ met (o ∩ S)).1 (inl h) }

  -- A column that adds nothing does not lead out of the taxa met.
  grows_apart : {r : ℕ} → Grows r → r ≡ met → (k w : ℕ) (μ : ℕ → ℕ) → share k μ S met (record { weight = w; ones = o; zeros = z }) ≡ 0
  unfolding share
  grows_apart (off e) same k w μ = omega (arith, ap (mass k μ) e, mass_none k μ)
  grows_apart (away e) same k w μ = omega (arith, ap (mass k μ) e, mass_none k μ)
  grows_apart (on x a) same k w μ = omega (arith, ap (mass k μ) outside, mass_none k μ)
    where
      outside : o ∩ (S ∖ met) ≡ 0
      outside = empty (λ j h.
          let (p, q) = (in∩ o (S ∖ met)).0 h in
          let (u, v) = (in∖ S met).0 q in
          v (subst (λ (y : ℕ). j ∈ y) same ((in∪ met (o ∩ S)).1 (inr ((in∩ o S).1 (p, u))))))

-- ---- sweeps

module _ (os zs : List ℕ) {S : ℕ} (fits : S < 2 ^ 64) {met : ℕ} (s : met ⊆ S) where
  -- The taxa met after c columns, and with column c.
  abbrev after : ℕ → ℕ
  after c = swept os zs S c met

  abbrev with_column : ℕ → ℕ
  with_column c = grown S (get_or os c 0) (get_or zs c 0) (after c)

  abbrev View : ℕ → Type 0
  View c = Grows S (get_or os c 0) (get_or zs c 0) (after c) (with_column c)

  view : (c : ℕ) → after c ⊆ S → View c
  view c = grown_is S (get_or os c 0) (get_or zs c 0) (after c) fits

  swept_⊆ : (c : ℕ) → after c ⊆ S
  unfolding swept
  swept_⊆ zero = s
  swept_⊆ (suc c) = grows_⊆ S (get_or os c 0) (get_or zs c 0) (after c) (view c (swept_⊆ c)) (swept_⊆ c)

  one_more : (c : ℕ) → after c ⊆ after (suc c)
  unfolding swept
  one_more c = grows-⊇ S (get_or os c 0) (get_or zs c 0) (after c) (view c (swept_⊆ c))

  more : {c d : ℕ} → c ≤ d → after c ⊆ after d
  more {c} {d} l = le_ind (λ (e : ℕ). after c ⊆ after e) (⊆-refl (after c)) (λ e h ih. ⊆-trans ih (one_more e)) d l

  met_⊆ : (c : ℕ) → met ⊆ after c
  unfolding swept
  met_⊆ c = more {c = 0} {d = c} (omega arith)

  module _ (ws : List ℕ) (m : ℕ) where
    abbrev cols : ℕ → Column
    cols = cols_of ws os zs

    -- A sweep that changes nothing leaves every column apart from the rest.
    swept_apart : (μ : ℕ → ℕ) → after m ≡ met → Apart 64 μ m cols S met
    unfolding swept cols_of
    swept_apart μ same = record { none = λ c b. subst (λ (A : ℕ). share 64 μ S A (cols c) ≡ 0) (settled c (omega arith)) (each c b) }
      where
        settled : (c : ℕ) → c ≤ m → after c ≡ met
        settled c l = ext (subst (λ (A : ℕ). after c ⊆ A) same (more l)) (met_⊆ c)

        each : (c : ℕ) → c < m → share 64 μ S (after c) (cols c) ≡ 0
        each c b = grows_apart S (get_or os c 0) (get_or zs c 0) (after c) (view c (swept_⊆ c)) (settled (suc c) b ∙ sym (settled c (omega arith))) 64 (get_or ws c 0) μ

    -- A sweep meets only taxa that are linked to those met.
    module _ {i : ℕ} (linked : (j : ℕ) → j ∈ met → Linked 64 m cols S i j) where
      abbrev Links : ℕ → Type 0
      Links A = (j : ℕ) → j ∈ A → Linked 64 m cols S i j

      one_linked : (c : ℕ) → c < m → {r : ℕ} → Grows S (get_or os c 0) (get_or zs c 0) (after c) r → Links (after c) → Links r
      unfolding cols_of
      one_linked c b (off e) l = l
      one_linked c b (away e) l = l
      one_linked c b (on {x} {a} hx ha) l = λ j h. ⊎_elim (l j) joined ((in∪ (after c) (get_or os c 0 ∩ S)).0 h)
        where
          joined : {j : ℕ} → j ∈ get_or os c 0 ∩ S → Linked 64 m cols S i j
          joined g =
              let (xz, xS) = (in∩ (get_or zs c 0) S).0 hx in
              let (ao, am) = (in∩ (get_or os c 0) (after c)).0 ha in
              let (jo, jS) = (in∩ (get_or os c 0) S).0 g in
              step c (l a am) (record { column = b; zero_at = x; zero_in = xS; is_zero = xz; from = ao; to = jo; to_in = jS })

      swept_linked : (c : ℕ) → c ≤ m → Links (after c)
      unfolding swept
      swept_linked zero b = linked
      swept_linked (suc c) b = one_linked c b (view c (swept_⊆ c)) (swept_linked c (omega arith))

-- ---- growing from one taxon

module _ (os zs : List ℕ) (S i : ℕ) where
  -- Taxa of S, with i, that the columns lead to from i, whatever the weights.
  pub record Grown (met : ℕ) : Type 0 where
    pub inside : met ⊆ S
    pub member : i ∈ met
    pub linked : (ws : List ℕ) (j : ℕ) → j ∈ met → Linked 64 (length os) (cols_of ws os zs) S i j

  pub grow_start : i ∈ S → Grown (2 ^ i)
  grow_start h = record { inside = pow_⊆ h; member = in_pow i; linked = λ ws j g. subst (λ (a : ℕ). Linked 64 (length os) (cols_of ws os zs) S i a) (sym (pow_in i g)) start }

  module _ (fits : S < 2 ^ 64) {met : ℕ} (g : Grown met) where
    abbrev next : ℕ
    next = swept os zs S (length os) met

    pub grow_≤ : met ≤ next
    grow_≤ = ⊆-≤ (met_⊆ os zs fits g.inside (length os))

    pub grow_on : Grown next
    grow_on = record {
      inside = swept_⊆ os zs fits g.inside (length os);
      member = (met_⊆ os zs fits g.inside (length os)).sub g.member;
      linked = λ ws. swept_linked os zs fits g.inside ws (length os) (g.linked ws) (length os) (le_refl (length os));
    }

    -- What a sweep does not change is the method's part.
    pub grown_part : next ≤ met → (μ : ℕ → ℕ) → Positive μ → (ws : List ℕ) → met ≡ part 64 μ (length os) (cols_of ws os zs) S i
    grown_part l μ pos ws =
        let same : next ≡ met = omega (arith, grow_≤) in
        linked_part 64 μ (length os) (cols_of ws os zs) S pos fits (part_is 64 μ (length os) (cols_of ws os zs) S (g.inside.sub g.member)) g.inside g.member
        (swept_apart os zs fits g.inside ws (length os) μ same) (g.linked ws)
