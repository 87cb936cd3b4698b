-- The parts are the connected components: a taxon is in the part of i exactly where the ones of columns that take part lead to it from i.
use mathlib.Core.Path.{◌≡◌, refl, sym, subst}
use mathlib.Core.Logic.{◌⊎◌, inl, inr, ⊎_elim}
use Prim.Native.Nat.{ℕ, zero, suc, ◌+◌, ◌^◌, ◌<◌}
use native.Mathlib.Decide.{dec_lt}
use native.Mathlib.Omega.{arith}
use Rattle.taxa.specs.Sum.{sum}
use Rattle.taxa.specs.Sets.{◌∈◌, ◌∉◌, ◌⊆◌, ◌∩◌, ◌∪◌, ◌∖◌, Positive, count}
use Rattle.taxa.proofs.Sums.{sum_0, sum_some, term_≤}
use Rattle.taxa.proofs.Members.{in∩, in∖, in_insert, ext, ∪-⊆, pow_⊆, pow_in, in_pow, below}
use Rattle.taxa.proofs.Masses.{mass_some}
use Rattle.taxa.proofs.Counts.{count_<, count_⊆}
use Rattle.method.specs.Split.{Column, share, Linked, start, step}
use Rattle.method.proofs.Parts.{Apart, Part, ones_together}

module _ (k : ℕ) (μ : ℕ → ℕ) (m : ℕ) (cols : ℕ → Column) (S : ℕ) where
  abbrev Led : ℕ → ℕ → Type 0
  Led = Linked k m cols S

  module _ (pos : Positive μ) (fits : S < 2 ^ k) {i P : ℕ} (p : Part k μ m cols S i P) where
    pub linked_in : {j : ℕ} → Led i j → j ∈ P
    linked_in start = p.member
    linked_in (step c l g) = ones_together k μ m cols S fits pos c g.column p.inside p.shut g.zero_in g.is_zero (linked_in l) g.from g.to_in g.to

    -- A set of linked taxa has all of the part, or some column leads out of it.
    abbrev All-linked : ℕ → Type 0
    All-linked Q = (j : ℕ) → j ∈ Q → Led i j

    widen : (Q : ℕ) → Q ⊆ S → i ∈ Q → All-linked Q → P ⊆ Q ⊎ ((b : ℕ) × b ∈ S × b ∉ Q × Led i b)
    unfolding share
    widen Q s h l = go (dec_lt 0 (sum m took))
      where
        took : ℕ → ℕ
        took c = share k μ S Q (cols c)

        lead : (c : ℕ) × (c < m) × (0 < took c) → (b : ℕ) × b ∈ S × b ∉ Q × Led i b
        lead (c, bc, q) =
            let (a, ba, x) = mass_some k μ ((cols c).ones ∩ Q) (omega arith) in
            let (b, bb, y) = mass_some k μ ((cols c).ones ∩ (S ∖ Q)) (omega arith) in
            let (z, bz, w) = mass_some k μ ((cols c).zeros ∩ S) (omega arith) in
            let (ao, aQ) = (in∩ (cols c).ones Q).0 x in
            let (bo, bR) = (in∩ (cols c).ones (S ∖ Q)).0 y in
            let (bS, bQ) = (in∖ S Q).0 bR in
            let (zz, zS) = (in∩ (cols c).zeros S).0 w in
            (b, bS, bQ, step c (l a aQ) (record { column = bc; zero_at = z; zero_in = zS; is_zero = zz; from = ao; to = bo; to_in = bS }))

        go : Dec (0 < sum m took) → P ⊆ Q ⊎ ((b : ℕ) × b ∈ S × b ∉ Q × Led i b)
        go (yes p) = inr (lead (sum_some m (λ c. 0) took (omega (arith, sum_0 m))))
        go (no z) = inl (p.smallest s h (record { none = λ c b. omega (arith, term_≤ m took b) }))

    reach : (f Q : ℕ) → Q ⊆ S → i ∈ Q → All-linked Q → count k S < count k Q + f → All-linked P
    reach zero Q s h l n = absurd (omega (arith, count_⊆ k s))
    reach (suc f) Q s h l n = go (widen Q s h l) (reach f)
      where
        go : P ⊆ Q ⊎ ((b : ℕ) × b ∈ S × b ∉ Q × Led i b) → ((R : ℕ) → R ⊆ S → i ∈ R → All-linked R → count k S < count k R + f → All-linked P) → All-linked P
        go (inl t) ih = λ j x. l j (t.sub x)
        go (inr (b, bS, bQ, lb)) ih =
            ih (Q ∪ 2 ^ b) (∪-⊆ s (pow_⊆ bS)) (more h)
            (λ j x. ⊎_elim (l j) (λ e. subst (λ (a : ℕ). Led i a) (sym e) lb) ((in_insert Q b).0 x))
            (omega (arith, count_< k (record { sub = more }) (below k fits bS) ((in_insert Q b).1 (inr refl)) bQ))
          where
            more : {j : ℕ} → j ∈ Q → j ∈ Q ∪ 2 ^ b
            more x = (in_insert Q b).1 (inl x)

    pub in_linked : {j : ℕ} → j ∈ P → Led i j
    in_linked {j} h =
        reach (suc (count k S)) (2 ^ i) (pow_⊆ (p.inside.sub p.member)) (in_pow i) (λ j x. subst (λ (a : ℕ). Led i a) (sym (pow_in i x)) start) (omega arith) j h

    -- So a set of linked taxa that is apart from the rest is the part: what a search that follows the columns ends with.
    pub linked_part : {Q : ℕ} → Q ⊆ S → i ∈ Q → Apart k μ m cols S Q → ((j : ℕ) → j ∈ Q → Led i j) → Q ≡ P
    linked_part s h a l = ext (record { sub = λ {i = j} x. linked_in (l j x) }) (p.smallest s h a)
