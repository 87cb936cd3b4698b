-- One taxon after the other: a largest flow to it from all that are lower, what ties it to those, and the least so far. No set that parts it can cost less than either.
use Prim.Native.Nat.{ℕ, ◌+◌, ◌*◌, ◌^◌, ◌≤◌, ◌<◌}
use mathlib.Core.Path.{◌≡◌, refl, sym, ap, ◌∙◌}
use mathlib.Core.Bool.{Bool, true, false, not, cond, true≢false}
use mathlib.Core.List.{List}
use mathlib.Core.Logic.{◌≢◌, ⊎_elim}
use native.Mathlib.Nat.{mul-le-mul_left, mul_comm}
use native.Mathlib.Decide.{dec_lt}
use native.Mathlib.Omega.{arith}
use lib.Dec.{ltb}
use lib.IntN.{ℤ}
use lib.Pow.{pow_mono}
use borrow.Author.Tests.{ltb-true}
use Rattle.taxa.specs.Sum.{sum, ∁}
use Rattle.taxa.specs.Sets.{has, all, ◌∈◌, ◌∩◌, low, multiplicity_in}
use Rattle.taxa.proofs.Sums.{sum_≤, sum_≡, sum_*}
use Rattle.taxa.proofs.Insides.{inside_term}
use Rattle.taxa.proofs.Members.{all_<, in_all, in_pow, pow_in, in_pos, out, in∩, ∩-≤, below, low_in, low_width}
use Rattle.method.specs.Flow.{cut as cut_in, start}
use Rattle.method.specs.inner.Sources.{FlowFrom}
use Rattle.method.proofs.Sources.{true?, Alone, only, only_alone, alone_off}
use Rattle.method.proofs.Cuts.{weak_from, full_from}
use Rattle.method.proofs.Carry.{same?}
use Rattle.search.specs.Workspace.{outs, inns}
use Rattle.search.specs.Search.{nth}
use Rattle.search.specs.inner.Network.{caps, Net}
use Rattle.search.specs.inner.Flows.{Side, Largest}
use Rattle.search.specs.inner.Trying.{tie, ties, weighs, Weighed, Loose, costs, Parts, AtLeast, Met, Trying, Tried}
use Rattle.search.proofs.Reaching.{caps_in}
use Rattle.search.proofs.Flows.{cut_alone}

-- ---- what one largest flow says

-- A largest flow from the taxa of X to t stands in the workspace, and A is what hops reach past it.
pub record Stands (W P J L : List ℕ) (n m : ℕ) (ws : List ℤ) (X t k A : ℕ) : Type 0 where
  pub flow : FlowFrom n m (caps W P J) (nth L) (outs ws (nth J)) (inns ws (nth J)) (has X) t k
  pub side : Side W P J L n m ws X A
  pub parts : has A t ≡ false

at_most : (W P J L : List ℕ) {n m : ℕ} (ws : List ℤ) (X : ℕ) {t k : ℕ} → FlowFrom n m (caps W P J) (nth L) (outs ws (nth J)) (inns ws (nth J)) (has X) t k → (D : ℕ → Bool) → ((i : ℕ) → has X i ≡ true → D i ≡ true) → D t ≡ false → k ≤ costs W P J L n m D
at_most W P J L {n} {m} ws X f D u v = weak_from n m (caps W P J) (nth L) (outs ws (nth J)) (inns ws (nth J)) f D u v

module _ {W P J L : List ℕ} {n m : ℕ} {ws : List ℤ} {X t : ℕ} where
  -- Below the bound it is a largest flow.
  pub stands : {bound k A : ℕ} → Largest W P J L n m ws X t bound k A → k < bound → Stands W P J L n m ws X t k A
  stands {bound} {k} {A} r l = record { flow = r.flow; side = r.side off; parts = off }
    where
      off : has A t ≡ false
      off = ⊎_elim (λ e. absurd (omega (arith, r.stops e))) (λ e. e) (true? (has A t))

  -- The taxa reached are a set with X and without t that costs as much.
  pub stand_parts : {k A : ℕ} → X < 2 ^ n → Stands W P J L n m ws X t k A → (S : ℕ) {s : ℕ} → has X s ≡ true → has S t ≡ true → Parts W P J L n m S s k t
  stand_parts {k} {A} fits r S {s} x h = record { other = h; set = A; with_s = held s x; off_b = r.parts; costs_k = full_from n m (caps W P J) (nth L) (outs ws (nth J)) (inns ws (nth J)) r.flow (has A) held r.parts r.side.all }
    where
      held : (i : ℕ) → has X i ≡ true → has A i ≡ true
      held i q = (r.side.all i (below n fits (record { is = q }))).1 (i, q, start)

-- ---- what a taxon is tied to costs

abbrev cut_of : List ℕ → List ℕ → List ℕ → List ℕ → ℕ → (ℕ → Bool) → ℕ → ℕ
cut_of W P J L n D c = cut_in n (caps W P J c) (nth L c) D

cond_≤ : (t : Bool) {x y : ℕ} → (t ≡ true → x ≤ y) → cond t x 0 ≤ y
cond_≤ true h = h refl
cond_≤ false h = omega arith

module _ {W P J L F : List ℕ} {n m : ℕ} (z : Net W P J L F n m) (D : ℕ → Bool) {u : ℕ} (bu : u < n) {l : ℕ} (fits : l < 2 ^ u) (all_in : (i : ℕ) → i ∈ l → D i ≡ true) (off : D u ≡ false) where
  -- An arc carries at least the weight: no multiplicity is 0.
  arc-≥ : (c i : ℕ) → has (nth J c) i ≡ true → nth W c ≤ caps W P J c i
  arc-≥ c i h = omega (arith, caps_in W P J c i h, mul-le-mul_left (nth W c) (z.positive.some i))

  -- A column that joins u with a taxon of l: at least its weight on both sides, and through it.
  both : (c : ℕ) → c < m → has (nth J c) u ≡ true → 0 < nth J c ∩ l → nth W c ≤ cut_of W P J L n D c
  both c b h p =
      let i = low u (nth J c ∩ l) in
      let (a, e) = (in∩ (nth J c) l).0 (low_in u p (omega (arith, ∩-≤ (nth J c) l))) in
      omega (
        arith,
        inside_term n D (caps W P J c) (z.low c b i a.is) (all_in i e),
        arc-≥ c i a.is,
        inside_term n (∁ D) (caps W P J c) bu (ap not off),
        arc-≥ c u h,
        z.wide c b u h,
      )

  tie_≤ : (c : ℕ) → c < m → tie (nth W c) (nth J c) l u ≤ cut_of W P J L n D c
  tie_≤ c b =
      cond_≤ (has (nth J c) u) (λ h. cond_≤ (ltb 0 (nth J c ∩ l)) (λ t. both c b h (ltb-true 0 (nth J c ∩ l) t)))

  pub ties_≤ : ties W J m l u ≤ costs W P J L n m D
  ties_≤ = sum_≤ m tie_≤

-- ---- the taxa one after the other

-- The taxa of S below u, as sources.
pub lower_fits : (S : ℕ) {u n : ℕ} → u < n → S ∩ all u < 2 ^ n
lower_fits S {u} {n} b = omega (arith, ∩-≤ S (all u), all_< u, pow_mono {i = u} {j = n} (omega arith))

pub lower_off : (S u : ℕ) → has (S ∩ all u) u ≡ false
lower_off S u = out (λ h. let b : u < u = below u (all_< u) ((in∩ S (all u)).0 h).1 in omega arith)

pub lower_in : (S : ℕ) {s u : ℕ} → has S s ≡ true → s < u → has (S ∩ all u) s ≡ true
lower_in S {s} {u} h l = ((in∩ S (all u)).1 (record { is = h }, in_all u l)).is

pub pow_alone : (s : ℕ) → Alone (has (2 ^ s)) s
pow_alone s = record { held = (in_pow s).is; one = λ x h. pow_in s (record { is = h }) }

pub pow_off : {s t : ℕ} → t ≢ s → has (2 ^ s) t ≡ false
pow_off {s} {t} ne = alone_off (pow_alone s) t ne

pub clash : (D : ℕ → Bool) (i j : ℕ) → D i ≡ true → D j ≡ false → i ≢ j
clash D i j p q e = true≢false (sym p ∙ ap D e ∙ q)

module _ {W P J L : List ℕ} {n m S s : ℕ} where
  pub parted_off : {u k b : ℕ} → Tried W P J L n m S s u k b → b ≢ s
  parted_off {b = b} r e = let p = r.met.best in clash (has p.set) s b p.with_s p.off_b (sym e)

  -- No taxon of S but s is below s + 1.
  pub trying_start : (bound : ℕ) → ((i : ℕ) → has S i ≡ true → s ≤ i) → Trying W P J L n m S s bound (s + 1) bound 64
  trying_start bound lo = record {
    tried = record { least = λ D i p q h b. let e : s ≡ i = omega (arith, lo i h) in absurd (clash D s i p q e) };
    none = λ e. refl;
    met = λ ne. absurd (ne refl);
  }

  met_on : {u k b : ℕ} → Met W P J L n m S s u k b → Met W P J L n m S s (u + 1) k b
  met_on g = record { best = g.best; below = omega (arith, g.below); first = g.first }

  module _ {bound u k b : ℕ} (r : Trying W P J L n m S s bound u k b) where
    still : AtLeast W P J L n m S s (u + 1) k → Trying W P J L n m S s bound (u + 1) k b
    still l = record { tried = l; none = r.none; met = λ ne. met_on (r.met ne) }

    pub tried_skip : has S u ≡ false → Trying W P J L n m S s bound (u + 1) k b
    tried_skip e = still (record { least = λ D i p q h l. ⊎_elim (λ f. absurd (true≢false (sym h ∙ ap (has S) f ∙ e))) (λ ne. r.tried.least D i p q h (omega arith)) (same? i u) })

    -- Whoever costs less than the best holds all taxa of S below u.
    holds : (D : ℕ → Bool) → D s ≡ true → costs W P J L n m D < k → (i : ℕ) → i ∈ S ∩ all u → D i ≡ true
    holds D p l i h =
        let (a, b) = (in∩ S (all u)).0 h in
        ⊎_elim (λ e. e) (λ e. absurd (omega (arith, r.tried.least D i p e a.is (below u (all_< u) b)))) (true? (D i))

    -- No set with all of those, and without u, costs less than k'.
    abbrev Bounds : ℕ → Type 0
    Bounds k' = (D : ℕ → Bool) → ((i : ℕ) → i ∈ S ∩ all u → D i ≡ true) → D u ≡ false → k' ≤ costs W P J L n m D

    -- Then no set that parts u, or a taxon below it, costs less, if the best does not.
    still_least : {k' : ℕ} → k' ≤ k → Bounds k' → AtLeast W P J L n m S s (u + 1) k'
    still_least {k'} le at = record { least = λ D i p q h b. ⊎_elim (λ e. here D i p q e (dec_lt (costs W P J L n m D) k)) (λ ne. omega (arith, r.tried.least D i p q h (omega arith))) (same? i u) }
      where
        here : (D : ℕ → Bool) (i : ℕ) → D s ≡ true → D i ≡ false → i ≡ u → Dec (costs W P J L n m D < k) → k' ≤ costs W P J L n m D
        here D i p q e (yes l) = at D (holds D p l) (ap D (sym e) ∙ q)
        here D i p q e (no l) = omega arith

    -- The best stays where that holds of it,
    stays : Bounds k → Trying W P J L n m S s bound (u + 1) k b
    stays at = still (still_least (omega arith) at)

    -- as where u is tied fast to those taxa,
    pub tried_tied : {F : List ℕ} → Net W P J L F n m → u < n → k ≤ ties W J m (S ∩ all u) u → Trying W P J L n m S s bound (u + 1) k b
    tried_tied z bu le = stays (λ D h q. omega (arith, ties_≤ z D bu (omega (arith, ∩-≤ S (all u), all_< u)) h q))

    module _ {ws : List ℤ} {k' A : ℕ} (l : Largest W P J L n m ws (S ∩ all u) u k k' A) where
      at_flow : Bounds k'
      at_flow D h q = at_most W P J L ws (S ∩ all u) l.flow D (λ i x. h i (record { is = x })) q

      -- or a flow from them is no smaller.
      pub tried_worse : k ≤ k' → Trying W P J L n m S s bound (u + 1) k b
      tried_worse le = stays (λ D h q. omega (arith, at_flow D h q))

      pub tried_better : u < n → n ≤ 64 → has (S ∩ all u) s ≡ true → has S u ≡ true → k' < k → Trying W P J L n m S s bound (u + 1) k' u
      tried_better bu few hs h lt = record {
        tried = still_least (omega arith) at_flow;
        none = λ e. absurd (omega arith);
        met = λ ne. record { best = stand_parts (lower_fits S bu) (stands l lt) S hs h; below = omega arith; first = λ D i p q h b. omega (arith, r.tried.least D i p q h b) };
      }

-- ---- the bound

-- All that a taxon's arcs carry.
arcs_of : (W P J : List ℕ) (m u : ℕ) → sum m (λ c. caps W P J c u) ≡ weighs W J m u * multiplicity_in P u
unfolding caps
arcs_of W P J m u =
    sum_≡ m (λ c b. times (has (nth J c) u) (nth W c))
    ∙ sum_* m (multiplicity_in P u) (λ c. cond (has (nth J c) u) (nth W c) 0)
    ∙ mul_comm (multiplicity_in P u) (weighs W J m u)
  where
    times : (p : Bool) (w : ℕ) → cond p (w * multiplicity_in P u) 0 ≡ multiplicity_in P u * cond p w 0
    times true w = mul_comm w (multiplicity_in P u)
    times false w = omega arith

-- To part a taxon alone costs no more, so a bound above that is met: some set costs less.
pub trying_end : {W P J L : List ℕ} {n m S bound k b : ℕ} → n ≤ 64 → S < 2 ^ n → Trying W P J L n m S (low n S) bound n k b → {B : List ℕ} → Weighed W J m S L B → Loose P L B S bound
    → Tried W P J L n m S (low n S) n k b
trying_end {W} {P} {J} {L} {n} {m} {S} {bound} {k} {b} few fits r t a = record { tried = r.tried; met = r.met (λ e. omega (arith, less, r.none e)) }
  where
    i : ℕ
    i = a.taxon

    bi : i < n
    bi = below n fits (record { is = a.inside })

    others : ℕ → Bool
    others = ∁ (only i)

    held : others (low n S) ≡ true
    held = ap not (alone_off (only_alone i) (low n S) (λ e. a.not_lowest (sym e ∙ low_width few (in_pos (record { is = a.inside })) fits)))

    less : k < bound
    less =
        omega (
          arith,
          r.tried.least others i held (ap not (only_alone i).held) a.inside bi,
          sum_≤ m {g = cut_of W P J L n others} {h = λ c. caps W P J c i} (λ c b. cut_alone n (caps W P J c) (nth L c) bi),
          arcs_of W P J m i,
          ap (λ (x : ℕ). x * multiplicity_in P i) (t.weighs_at i a.inside),
          a.less,
        )
