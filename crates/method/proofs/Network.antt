-- The network of a group: what a set of taxa cuts of it is what the division costs (`network_cost`). So flows to each taxon, the first least one,
-- and the taxa reached past it, name the split by listing (`flows_side`, `reached_side`).
use mathlib.Core.Path.{◌≡◌, refl, sym, ap, ap₂, ◌∙◌, subst}
use mathlib.Core.Logic.{◌≢◌, ◌↔◌}
use mathlib.Core.Bool.{Bool, true, false, cond}
use Prim.Native.Nat.{ℕ, ◌*◌, ◌^◌, ◌≤◌, ◌<◌, min}
use native.Mathlib.Nat.{mul-zero, mul-le-mul_left}
use native.Mathlib.Decide.{dec_lt}
use native.Mathlib.Omega.{arith}
use lib.Arith.{le-zero}
use lib.Dec.{ltb}
use borrow.Author.Tests.{ltb-false}
use Rattle.taxa.specs.Sum.{sum, inside, outside}
use Rattle.taxa.specs.Sets.{has, ◌∈◌, ◌∉◌, ◌⊆◌, ◌∩◌, ◌∖◌, mass, count, low}
use Rattle.taxa.proofs.Sums.{sum_≡}
use Rattle.taxa.proofs.Members.{none, out as Outside-of, in∖, below, low_in, ∩-part, ∩-over-∖, ∩-⊆ʳ}
use Rattle.taxa.proofs.Masses.{mass_times, mass_inside, mass_outside}
use Rattle.taxa.proofs.Counts.{count_pos, weightless}
use Rattle.method.specs.Split.{Column, share, Division, parted, division_cost, side}
use Rattle.method.specs.Flow.{joined, cap, through, cut, cut_cost, Flow, Reach, start, step, arcs, limits}
use Rattle.method.proofs.Cuts.{MinCut, weak, min_cut}
use Rattle.method.proofs.Listing.{search_side}

times_min : (w a b : ℕ) → w * min a b ≡ min (w * a) (w * b)
times_min w a b = go (dec_lt a b)
  where
    go : Dec (a < b) → w * min a b ≡ min (w * a) (w * b)
    go (yes l) = let e : min a b ≡ a = omega arith in let h : w * a ≤ w * b = mul-le-mul_left w (omega arith) in omega (arith, ap (λ (n : ℕ). w * n) e)
    go (no l) = let e : min a b ≡ b = omega arith in let h : w * b ≤ w * a = mul-le-mul_left w (omega arith) in omega (arith, ap (λ (n : ℕ). w * n) e)

module _ (k : ℕ) (μ : ℕ → ℕ) (S : ℕ) (c : Column) (A : ℕ) (s : A ⊆ S) where
  open c use {weight as w}

  -- What A can send into the column, and what the others can.
  inside_is : sum k (inside (has A) (cap k μ S c)) ≡ w * mass k μ (joined k S c ∩ A)
  unfolding cap
  inside_is = mass_inside k (λ i. w * μ i) (joined k S c) A ∙ mass_times k μ w (joined k S c ∩ A)

  outside_is : sum k (outside (has A) (cap k μ S c)) ≡ w * mass k μ (joined k S c ∖ A)
  unfolding cap
  outside_is = mass_outside k (λ i. w * μ i) (joined k S c) A ∙ mass_times k μ w (joined k S c ∖ A)

  cut_is : cut k (cap k μ S c) (through k μ S c) (has A) ≡ w * share k μ S A c
  unfolding share through joined
  cut_is = go (ltb 0 (count k (c.zeros ∩ S))) refl
    where
      z : ℕ
      z = mass k μ (c.zeros ∩ S)

      a : ℕ
      a = mass k μ (c.ones ∩ A)

      b : ℕ
      b = mass k μ (c.ones ∩ (S ∖ A))

      go : (t : Bool) → ltb 0 (count k (c.zeros ∩ S)) ≡ t → cut k (cap k μ S c) (through k μ S c) (has A) ≡ w * share k μ S A c
      go true e =
          let j : joined k S c ≡ c.ones ∩ S = ap (λ (t : Bool). cond t (c.ones ∩ S) 0) e in
          let x = inside_is ∙ ap (λ (n : ℕ). w * mass k μ n) (ap (λ (y : ℕ). y ∩ A) j ∙ ∩-part c.ones s) in
          let y = outside_is ∙ ap (λ (n : ℕ). w * mass k μ n) (ap (λ (y : ℕ). y ∖ A) j ∙ sym (∩-over-∖ c.ones S A)) in
          ap₂ (λ (m n : ℕ). min m (min n (w * z))) x y ∙ omega (arith, times_min w (min a b) z, times_min w a b)
      go false e =
          let none : z ≡ 0 = weightless k μ (c.zeros ∩ S) (le-zero (ltb-false 0 (count k (c.zeros ∩ S)) e)) in
          let free : share k μ S A c ≡ 0 = omega arith in
          omega (arith, ap (λ (n : ℕ). w * n) none, ap (λ (n : ℕ). w * n) free, mul-zero w)

-- A taxon that carries something has a 1 there, and is one of S.
pub joined_⊆ : (k S : ℕ) (c : Column) → joined k S c ⊆ c.ones ∩ S
unfolding joined
joined_⊆ k S c = record { sub = λ {i} h. go i (ltb 0 (count k (c.zeros ∩ S))) h }
  where
    go : (i : ℕ) (t : Bool) → i ∈ cond t (c.ones ∩ S) 0 → i ∈ c.ones ∩ S
    go i true h = h
    go i false h = absurd (none h)

pub cap_in : (k : ℕ) (μ : ℕ → ℕ) (S : ℕ) (c : Column) {i : ℕ} → 0 < cap k μ S c i → i ∈ joined k S c
unfolding cap
cap_in k μ S c {i} p = record { is = go (has (joined k S c) i) p }
  where
    go : (t : Bool) → 0 < cond t (c.weight * μ i) 0 → t ≡ true
    go true p = refl
    go false p = absurd (omega arith)

module _ (k : ℕ) (μ : ℕ → ℕ) (m : ℕ) (cols : ℕ → Column) (S : ℕ) where
  abbrev caps : ℕ → ℕ → ℕ
  caps = arcs k μ m cols S

  abbrev thrs : ℕ → ℕ
  thrs = limits k μ m cols S

  -- What a set costs in the network is what the division costs.
  pub network_cost : (A : ℕ) → A ⊆ S → cut_cost k m caps thrs (has A) ≡ division_cost k μ m cols S A
  unfolding division_cost
  network_cost A s = sum_≡ m (λ c l. cut_is k μ S (cols c) A s)

  -- What a search supplies: a flow of `size i` from the lowest taxon to each other taxon i of S; the least size, first met at t; and the least
  -- set of least cost that parts t.
  pub record Flows (size : ℕ → ℕ) (t A : ℕ) : Type 0 where
    pub is_division : Division k S A
    pub is_parted : t ∈ S ∖ A
    pub out : ℕ → ℕ → ℕ → ℕ
    pub inn : ℕ → ℕ → ℕ → ℕ
    pub flow : (i : ℕ) → i ∈ S → i ≢ low k S → Flow k m caps thrs (out i) (inn i) (low k S) i (size i)
    pub least : (i : ℕ) → i ∈ S → i ≢ low k S → size t ≤ size i
    pub first : (i : ℕ) → i ∈ S → i ≢ low k S → i < t → size t < size i
    pub full : size t ≡ cut_cost k m caps thrs (has A)
    pub inner : MinCut k m caps thrs (out t) (inn t) (low k S) t (has A)

  -- The same with the taxa reached past the flow to t, which they do not hold.
  pub record Reached (size : ℕ → ℕ) (t A : ℕ) : Type 0 where
    pub short : A < 2 ^ k
    pub out : ℕ → ℕ → ℕ → ℕ
    pub inn : ℕ → ℕ → ℕ → ℕ
    pub flow : (i : ℕ) → i ∈ S → i ≢ low k S → Flow k m caps thrs (out i) (inn i) (low k S) i (size i)
    pub target : t ∈ S
    pub least : (i : ℕ) → i ∈ S → i ≢ low k S → size t ≤ size i
    pub first : (i : ℕ) → i ∈ S → i ≢ low k S → i < t → size t < size i
    pub reached : (i : ℕ) → i < k → has A i ≡ true ↔ Reach k m caps thrs (out t) (inn t) (low k S) i
    pub missed : t ∉ A

  module _ (fits : S < 2 ^ k) (two : 1 < count k S) where
    pub low_S : low k S ∈ S
    low_S = low_in k (count_pos k (omega arith)) fits

    -- Hops lead from S only into S.
    pub reach_in : {out inn : ℕ → ℕ → ℕ} {i : ℕ} → Reach k m caps thrs out inn (low k S) i → i ∈ S
    reach_in start = low_S
    reach_in (step c q bc bj h) = (∩-⊆ʳ (cols c).ones S).sub ((joined_⊆ k S (cols c)).sub (cap_in k μ S (cols c) (omega (arith, h.down))))

    pub flows_side : {size : ℕ → ℕ} {t A : ℕ} → Flows size t A → (A ≡ side k μ m cols S) × (t ≡ parted k S A)
    flows_side {size} {t} {A} r = search_side k μ m cols S fits two (record {
      is_division = r.is_division;
      is_parted = r.is_parted;
      found = sym (r.full ∙ network_cost A r.is_division.inside);
      weak = λ D i d h.
          let x = weak k m caps thrs (r.out i) (r.inn i) (r.flow i (in_S D h) (other d h)) low_below (has D) d.lowest.is (off D h) in
          omega (arith, network_cost D d.inside);
      least = λ D i d h. r.least i (in_S D h) (other d h);
      first = λ D i d h. r.first i (in_S D h) (other d h);
      inner = λ D d h e. record { sub = λ {i} x. record { is = r.inner.smallest (has D) d.lowest.is (off D h) (network_cost D d.inside ∙ e ∙ sym (network_cost A r.is_division.inside)) i (below k fits (r.is_division.inside.sub x)) x.is } };
    })
      where
        in_S : (D : ℕ) {i : ℕ} → i ∈ S ∖ D → i ∈ S
        in_S D h = ((in∖ S D).0 h).0

        off : (D : ℕ) {i : ℕ} → i ∈ S ∖ D → has D i ≡ false
        off D h = Outside-of ((in∖ S D).0 h).1

        other : {D i : ℕ} → Division k S D → i ∈ S ∖ D → i ≢ low k S
        other {D} d h e = ((in∖ S D).0 h).1 (subst (λ (j : ℕ). j ∈ D) (sym e) d.lowest)

        low_below : low k S < k
        low_below = below k fits (r.is_division.inside.sub r.is_division.lowest)

    pub reached_side : {size : ℕ → ℕ} {t A : ℕ} → Reached size t A → (A ≡ side k μ m cols S) × (t ≡ parted k S A)
    reached_side {size} {t} {A} r = flows_side (record {
      is_division = division;
      is_parted = (in∖ S A).1 (r.target, r.missed);
      out = r.out;
      inn = r.inn;
      flow = r.flow;
      least = r.least;
      first = r.first;
      full = cut.0;
      inner = cut.1;
    })
      where
        low_A : low k S ∈ A
        low_A = record { is = (r.reached (low k S) (below k fits low_S)).1 start }

        division : Division k S A
        division = record {
          inside = record { sub = λ {i} h. reach_in ((r.reached i (below k r.short h)).0 h.is) };
          lowest = low_A;
          proper = λ e. r.missed (subst (λ (X : ℕ). t ∈ X) (sym e) r.target);
        }

        cut : (size t ≡ cut_cost k m caps thrs (has A)) × MinCut k m caps thrs (r.out t) (r.inn t) (low k S) t (has A)
        cut = min_cut k m caps thrs (r.out t) (r.inn t) (r.flow t r.target (λ e. r.missed (subst (λ (i : ℕ). i ∈ A) (sym e) low_A))) (below k fits low_S) (has A) r.reached (Outside-of r.missed)
