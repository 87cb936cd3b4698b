-- The flow search for the split of S finds what listing finds (`search_names`), and it does find something (`search_finds`): so a flow of exactly the
-- split's cost exists, and all that is promised of a split holds (`split_promise`).
use mathlib.Core.Path.{◌≡◌, refl, sym, ap, ◌∙◌, subst}
use mathlib.Core.Logic.{◌≢◌, ◌↔◌, inl, inr, ⊎_elim, by_cases}
use mathlib.Core.Bool.{Bool, true, false, cond, true≢false}
use Prim.Native.Nat.{ℕ, zero, suc, ◌^◌, ◌≤◌, ◌<◌}
use native.Mathlib.Decide.{dec_lt}
use native.Mathlib.Omega.{arith}
use Rattle.taxa.specs.Sets.{has, ◌∈◌, ◌∉◌, ◌⊆◌, ◌∪◌, ◌∖◌, count, low}
use Rattle.taxa.proofs.Members.{in?, out as Outside-of, in∖, in_insert, none, below, ⊆-≤}
use Rattle.method.specs.Split.{Column, Division, parted, division_cost, side, split_cost}
use Rattle.method.specs.Flow.{Flow, Reach, start, Largest, arcs, limits, FlowSearch, SplitPromise}
use Rattle.method.proofs.Carry.{same?}
use Rattle.method.proofs.Largest.{Ended, ended, ended_most, largest_misses}
use Rattle.method.proofs.Cuts.{weak, least, min_cut}
use Rattle.method.proofs.Listing.{Best, side_best, side_cheapest, side_rule, side_inner}
use Rattle.method.proofs.Network.{network_cost, low_S, reach_in, Reached, reached_side}

-- The set of the taxa below k that pass a test, as a number.
set_of : ℕ → (ℕ → Bool) → ℕ
set_of zero A = 0
set_of (suc k) A = cond (A k) (set_of k A ∪ 2 ^ k) (set_of k A)

set_of_is : (k : ℕ) (A : ℕ → Bool) {i : ℕ} → i ∈ set_of k A ↔ ((i < k) × (A i ≡ true))
unfolding set_of
set_of_is zero A = (λ h. absurd (none h), λ h. absurd (omega (arith, h.0)))
set_of_is (suc k) A {i} = go (A k) refl (set_of_is k A)
  where
    go : (b : Bool) {X : ℕ} → A k ≡ b → i ∈ X ↔ ((i < k) × (A i ≡ true)) → i ∈ cond b (X ∪ 2 ^ k) X ↔ ((i < suc k) × (A i ≡ true))
    go true {X} e h = (
      λ x. ⊎_elim (λ y. (omega (arith, (h.0 y).0), (h.0 y).1)) (λ f. (omega arith, ap A f ∙ e)) ((in_insert X k).0 x),
      λ x. (in_insert X k).1 (⊎_elim inr (λ ne. inl (h.1 (omega (arith, x.0), x.1))) (same? i k)),
    )
    go false e h = (
      λ x. (omega (arith, (h.0 x).0), (h.0 x).1),
      λ x. ⊎_elim (λ f. absurd (true≢false (sym x.1 ∙ ap A f ∙ e))) (λ ne. h.1 (omega (arith, x.0), x.1)) (same? i k),
    )

module _ (k : ℕ) (μ : ℕ → ℕ) (m : ℕ) (cols : ℕ → Column) (S : ℕ) (fits : S < 2 ^ k) (two : 1 < count k S) where
  abbrev s : ℕ
  s = low k S

  abbrev A : ℕ
  A = side k μ m cols S

  abbrev t : ℕ
  t = parted k S A

  abbrev cost : ℕ → ℕ
  cost = division_cost k μ m cols S

  abbrev caps : ℕ → ℕ → ℕ
  caps = arcs k μ m cols S

  abbrev thrs : ℕ → ℕ
  thrs = limits k μ m cols S

  abbrev HopsTo : (ℕ → ℕ → ℕ) → (ℕ → ℕ → ℕ) → ℕ → Type 0
  HopsTo out inn = Reach k m caps thrs out inn s

  abbrev LargestTo : (ℕ → ℕ → ℕ) → (ℕ → ℕ → ℕ) → ℕ → ℕ → Type 0
  LargestTo out inn = Largest k m caps thrs out inn s

  best : Best k μ m cols S A
  best = side_best k μ m cols S fits two

  low_below : s < k
  low_below = below k fits (low_S k μ m cols S fits two)

  -- ---- what a flow search finds is the split by listing

  pub search_names : {u D : ℕ} → FlowSearch k μ m cols S u D → (u ≡ t) × (D ≡ A)
  search_names {u} {D} r = let (e, f) = reached_side k μ m cols S fits two found in (f ∙ ap (parted k S) e, e)
    where
      largest : LargestTo (r.out u) (r.inn u) u (r.size u)
      largest = r.largest u r.target r.other

      inside : D ⊆ S
      inside = record { sub = λ {i} h. reach_in k μ m cols S fits two ((r.reached i).0 h) }

      found : Reached k μ m cols S r.size u D
      found = record {
        short = omega (arith, ⊆-≤ inside);
        out = r.out;
        inn = r.inn;
        flow = λ i h ne. (r.largest i h ne).flow;
        target = r.target;
        least = r.least;
        first = r.first;
        reached = λ i b. (λ h. (r.reached i).0 (record { is = h }), λ h. ((r.reached i).1 h).is);
        missed = λ h. largest_misses k m caps thrs s u low_below r.other largest ((r.reached u).0 h);
      }

  -- ---- a flow search finds something

  -- A largest flow to taxon i, and what it costs to part it.
  record Parting (i : ℕ) (out inn : ℕ → ℕ → ℕ) (size D : ℕ) : Type 0 where
    largest : LargestTo out inn i size
    is_division : Division k S D
    is_parted : i ∈ S ∖ D
    full : size ≡ cost D
    reached : {x : ℕ} → x ∈ D → HopsTo out inn x

  parting : (i : ℕ) → i ≢ s → i ∈ S → (e : Ended k m caps thrs s i) → Parting i e.out e.inn e.size (set_of k e.set)
  parting i ne h e = record {
    largest = ended_most k m caps thrs s i low_below ne e;
    is_division = record {
      inside = inside;
      lowest = (set_of_is k e.set).1 (low_below, (e.reached s low_below).1 start);
      proper = λ q. off (subst (λ (X : ℕ). i ∈ X) (sym q) h);
    };
    is_parted = (in∖ S D).1 (h, off);
    full = (min_cut k m caps thrs e.out e.inn e.flow low_below (has D) hops (Outside-of off)).0 ∙ network_cost k μ m cols S D inside;
    reached = to;
  }
    where
      D : ℕ
      D = set_of k e.set

      to : {x : ℕ} → x ∈ D → HopsTo e.out e.inn x
      to {x} d = let (b, a) = (set_of_is k e.set).0 d in (e.reached x b).0 a

      inside : D ⊆ S
      inside = record { sub = λ d. reach_in k μ m cols S fits two (to d) }

      off : i ∉ D
      off d = true≢false (sym ((set_of_is k e.set).0 d).1 ∙ e.missed)

      hops : (x : ℕ) → x < k → has D x ≡ true ↔ HopsTo e.out e.inn x
      hops x b = (λ a. to (record { is = a }), λ r. ((set_of_is k e.set).1 (b, (e.reached x b).1 r)).is)

  -- One for each taxon; what it is where there is none to part does not matter.
  record Pick (i : ℕ) : Type 0 where
    out : ℕ → ℕ → ℕ
    inn : ℕ → ℕ → ℕ
    size : ℕ
    set : ℕ
    is : i ∈ S → i ≢ s → Parting i out inn size set

  pick : (i : ℕ) → Pick i
  pick i = ⊎_elim (λ e. none_to (λ h ne. ne e)) (λ ne. by_cases (in? i S) (λ h. found ne h) (λ h. none_to (λ g q. h g))) (same? i s)
    where
      none_to : (i ∈ S → i ≢ s → ⊥) → Pick i
      none_to f = record { out = λ c x. 0; inn = λ c x. 0; size = 0; set = 0; is = λ h ne. absurd (f h ne) }

      found : i ≢ s → i ∈ S → Pick i
      found ne h =
          let e = ended k m caps thrs s i low_below ne in
          record { out = e.out; inn = e.inn; size = e.size; set = set_of k e.set; is = λ g q. parting i ne h e }

  t_parted : t ∈ S × t ∉ A
  t_parted = (in∖ S A).0 (side_rule k μ m cols S fits two).is_parted

  t_other : t ≢ s
  t_other e = t_parted.1 (subst (λ (i : ℕ). i ∈ A) (sym e) best.is_division.lowest)

  -- The flow to t is as large as the split costs.
  at_t : Parting t (pick t).out (pick t).inn (pick t).size (pick t).set
  at_t = (pick t).is t_parted.0 t_other

  size_t : (pick t).size ≡ cost A
  size_t = omega (
    arith,
    at_t.full,
    best.cheapest (pick t).set at_t.is_division,
    weak k m caps thrs (pick t).out (pick t).inn at_t.largest.flow low_below (has A) best.is_division.lowest.is (Outside-of t_parted.1),
    network_cost k μ m cols S A best.is_division.inside,
  )

  pub search_finds : FlowSearch k μ m cols S t A
  search_finds = record {
    size = λ i. (pick i).size;
    out = λ i. (pick i).out;
    inn = λ i. (pick i).inn;
    largest = λ i h ne. ((pick i).is h ne).largest;
    target = t_parted.0;
    other = t_other;
    least = at_least;
    first = λ i h ne l. by_cases (dec_lt (pick t).size (pick i).size) (λ g. g) (λ g. absurd (omega (arith, nearest i h ne (omega (arith, at_least i h ne)))));
    reached = λ i. (λ h. at_t.reached (within.sub h), from);
  }
    where
      at_least : (i : ℕ) → i ∈ S → i ≢ s → (pick t).size ≤ (pick i).size
      at_least i h ne = let p = (pick i).is h ne in omega (arith, size_t, p.full, best.cheapest (pick i).set p.is_division)

      nearest : (i : ℕ) → i ∈ S → i ≢ s → (pick i).size ≡ (pick t).size → t ≤ i
      nearest i h ne e = let p = (pick i).is h ne in (side_rule k μ m cols S fits two).lowest (pick i).set i p.is_division (sym p.full ∙ e ∙ size_t) p.is_parted

      -- Side A is in the set reached, which costs as little; and hops do not leave A, for it costs as much as the flow.
      within : A ⊆ (pick t).set
      within = side_inner k μ m cols S fits two (pick t).set at_t.is_division (sym at_t.full ∙ size_t) at_t.is_parted

      from : {i : ℕ} → HopsTo (pick t).out (pick t).inn i → i ∈ A
      from r = record { is = least k m caps thrs (pick t).out (pick t).inn at_t.largest.flow low_below (has A) best.is_division.lowest.is (Outside-of t_parted.1) (network_cost k μ m cols S A best.is_division.inside ∙ sym size_t) r }

  -- ---- what is promised of the split

  pub split_flow : (out : ℕ → ℕ → ℕ) × (inn : ℕ → ℕ → ℕ) × Flow k m caps thrs out inn s t (split_cost k μ m cols S)
  split_flow = ((pick t).out, (pick t).inn, rw size_t at at_t.largest.flow)

  pub split_promise : SplitPromise k μ m cols S
  split_promise =
      let (out, inn, flow) = split_flow in
      record { cheapest = side_cheapest k μ m cols S fits two; out = out; inn = inn; flow = flow; found = search_finds; only = search_names }
