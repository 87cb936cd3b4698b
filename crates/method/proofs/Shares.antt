-- What a division takes of one column: it is submodular, the same from either side, and nothing for the whole. And divisions by their members.
use mathlib.Core.Path.{◌≡◌, sym, ap, ◌∙◌, subst}
use mathlib.Core.Bool.{true, not, ◌&&◌, and-eq-true_iff}
use mathlib.Core.Logic.{◌↔◌}
use Prim.Native.Nat.{ℕ, ◌+◌, ◌^◌, ◌≤◌, ◌<◌, min}
use native.Mathlib.Decide.{dec_lt}
use native.Mathlib.Omega.{arith}
use lib.Dec.{eqb}
use borrow.Author.Tests.{eqb-false, ne_eqb, not-true}
use Rattle.taxa.specs.Sets.{has, ◌∈◌, ◌∉◌, ◌⊆◌, ◌∩◌, ◌∪◌, ◌∖◌, within, mass, low}
use Rattle.taxa.proofs.Members.{none, in?, in∖, ext, empty, ∩-mono, ∪-⊆, ⊆-trans, ∩-⊆, ∩-⊆ʳ, ∖-⊆, ⊆-≤, within_⊆, ∩-over-∪, ∩-over-∩, ∩-over-∖, ∩-part, low_in}
use Rattle.taxa.proofs.Masses.{mass_none, mass_⊆, mass_∪_∩, mass_∖_∩}
use Rattle.method.specs.Split.{Column, share, Division, division, parted}

-- ---- the mass of the ones

-- The ones in S are those in A and those in the rest.
mass_cut : (k : ℕ) (μ : ℕ → ℕ) (o S A : ℕ) → A ⊆ S → mass k μ (o ∩ S) ≡ mass k μ (o ∩ A) + mass k μ (o ∩ (S ∖ A))
mass_cut k μ o S A s = omega (arith, mass_∖_∩ k μ (o ∩ S) A, ap (mass k μ) (∩-over-∖ o S A), ap (mass k μ) (∩-part o s))

-- The ones in either and the ones in both.
mass_mod : (k : ℕ) (μ : ℕ → ℕ) (o A D : ℕ) → mass k μ (o ∩ (A ∪ D)) + mass k μ (o ∩ (A ∩ D)) ≡ mass k μ (o ∩ A) + mass k μ (o ∩ D)
mass_mod k μ o A D = omega (arith, mass_∪_∩ k μ (o ∩ A) (o ∩ D), ap (mass k μ) (∩-over-∪ o A D), ap (mass k μ) (∩-over-∩ o A D))

-- A taxon of S that is not in the rest of S is in A.
pub not_rest : {S A i : ℕ} → i ∈ S → i ∉ S ∖ A → i ∈ A
not_rest {S} {A} {i} h n = elim (in? i A) [ yes a ↦ a | no a ↦ absurd (n ((in∖ S A).1 (h, a))) ]

rest_rest : {S A : ℕ} → A ⊆ S → S ∖ (S ∖ A) ≡ A
rest_rest {S} {A} s =
    ext (record { sub = λ h. let (p, q) = (in∖ S (S ∖ A)).0 h in not_rest p q })
    (record { sub = λ h. (in∖ S (S ∖ A)).1 (s.sub h, λ q. ((in∖ S A).0 q).1 h) })

-- ---- what a division takes of a column

abbrev least3 : ℕ → ℕ → ℕ → ℕ
least3 x y z = min (min x y) z

-- The least of three is concave: of v, a, d and u, where u + v is a + d and v is the least, and of what is left of a whole.
concave : (a a' d d' u u' v v' z : ℕ) → u + v ≡ a + d → v ≤ a → v ≤ d → a + a' ≡ d + d' → a + a' ≡ u + u' → a + a' ≡ v + v'
    → least3 v v' z + least3 u u' z ≤ least3 a a' z + least3 d d' z
concave a a' d d' u u' v v' z e l l' h h' h'' = go (least3 v v' z) (least3 u u' z) (below3 v v' z) (below3 u u' z)
  where
    below3 : (x y z : ℕ) → (least3 x y z ≤ x) × (least3 x y z ≤ y) × (least3 x y z ≤ z)
    below3 x y z = omega arith

    go : (F G : ℕ) → (F ≤ v) × (F ≤ v') × (F ≤ z) → (G ≤ u) × (G ≤ u') × (G ≤ z) → F + G ≤ least3 a a' z + least3 d d' z
    go F G f g = omega arith

module _ (k : ℕ) (μ : ℕ → ℕ) (S : ℕ) (c : Column) where
  open c use {ones as o, zeros as z}

  -- Two sets cost no less than what they share and what they make together.
  pub submodular : (A D : ℕ) → A ⊆ S → D ⊆ S → share k μ S (A ∩ D) c + share k μ S (A ∪ D) c ≤ share k μ S A c + share k μ S D c
  unfolding share
  submodular A D a d =
      concave (n A) (n (S ∖ A)) (n D) (n (S ∖ D)) (n (A ∪ D)) (n (S ∖ (A ∪ D))) (n (A ∩ D)) (n (S ∖ (A ∩ D))) _
      (mass_mod k μ o A D) (mass_⊆ k μ (∩-mono o (∩-⊆ A D))) (mass_⊆ k μ (∩-mono o (∩-⊆ʳ A D)))
      (sym (cut A a) ∙ cut D d) (sym (cut A a) ∙ cut (A ∪ D) (∪-⊆ a d)) (sym (cut A a) ∙ cut (A ∩ D) (⊆-trans (∩-⊆ A D) a))
    where
      n : ℕ → ℕ
      n X = mass k μ (o ∩ X)

      cut : (X : ℕ) → X ⊆ S → n S ≡ n X + n (S ∖ X)
      cut X s = mass_cut k μ o S X s

  pub share_rest : (A : ℕ) → A ⊆ S → share k μ S (S ∖ A) c ≡ share k μ S A c
  unfolding share
  share_rest A s = omega (arith, ap (λ (X : ℕ). mass k μ (o ∩ X)) (rest_rest s))

  pub share_all : share k μ S S c ≡ 0
  unfolding share
  share_all = omega (arith, ap (mass k μ) (empty (λ i h. ((in∖ S S).0 ((∩-⊆ʳ o (S ∖ S)).sub h)).1 ((in∖ S S).0 ((∩-⊆ʳ o (S ∖ S)).sub h)).0)), mass_none k μ)

-- ---- divisions

pub division_is : (k S A : ℕ) → (division k S A ≡ true) ↔ Division k S A
unfolding division
division_is k S A = (to, from)
  where
    to : division k S A ≡ true → Division k S A
    to e =
        let (p, q) = (and-eq-true_iff (within A S && has A (low k S)) (not (eqb A S))).0 e in
        let (r, s) = (and-eq-true_iff (within A S) (has A (low k S))).0 p in
        record { inside = (within_⊆ A S).0 r; lowest = record { is = s }; proper = eqb-false A S (not-true (eqb A S) q) }

    from : Division k S A → division k S A ≡ true
    from d =
        (and-eq-true_iff (within A S && has A (low k S)) (not (eqb A S))).1
        ((and-eq-true_iff (within A S) (has A (low k S))).1 ((within_⊆ A S).1 d.inside, d.lowest.is), ap not (ne_eqb A S d.proper))

-- The lowest taxon off the side of a division.
pub parted_in : (k : ℕ) {S A : ℕ} → S < 2 ^ k → Division k S A → parted k S A ∈ S ∖ A
parted_in k {S} {A} fits d = low_in k (elim (dec_lt 0 (S ∖ A)) [ yes p ↦ p | no p ↦ absurd (d.proper (whole (omega arith))) ]) (omega (arith, ⊆-≤ (∖-⊆ S A)))
  where
    whole : S ∖ A ≡ 0 → A ≡ S
    whole e = ext d.inside (record { sub = λ {i} h. not_rest h (λ q. none (subst (λ (X : ℕ). i ∈ X) e q)) })
