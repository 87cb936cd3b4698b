-- The search of a group: its network in lists, and that what was tried names what listing names.
use Prim.Native.Nat.{ℕ, ◌+◌, ◌*◌, ◌^◌, ◌≤◌, ◌<◌}
use mathlib.Core.Path.{◌≡◌, refl, sym, ap, ap₂, ◌∙◌}
use mathlib.Core.Bool.{Bool, true, false, cond, true≢false}
use mathlib.Core.List.{List}
use mathlib.Core.Logic.{◌≢◌, ◌↔◌}
use native.Mathlib.Nat.{mul-le-mul_left}
use native.Mathlib.Decide.{dec_lt}
use native.Mathlib.Omega.{arith}
use lib.Dec.{ltb}
use lib.IntN.{ℤ, pos}
use lib.ListN.{length, get_or}
use lib.Pow.{pow_mono, pow-lt}
use borrow.Author.Tests.{lt-ltb, le-ltb, ltb-true}
use Rattle.taxa.specs.Sets.{has, ◌∈◌, ◌∉◌, ◌⊆◌, ◌∩◌, ◌∖◌, count, sizes, low, multiplicity_in}
use Rattle.taxa.proofs.Ranks.{sizes_≡}
use Rattle.taxa.proofs.Members.{in_pow, out, in∩, in∖, ∩-≤, none, below, low_in, low_≤, low_width, ⊆-≤, ∖-⊆}
use Rattle.taxa.proofs.Counts.{count_pos, count_some, count_width}
use Rattle.taxa.proofs.Masses.{mass_in, mass_width}
use Rattle.method.specs.Split.{Division, division_cost}
use Rattle.method.specs.Flow.{joined, arc_count, cap, through, cut_cost, Flow, Reach, start, step}
use Rattle.method.specs.inner.Sources.{FlowFrom}
use Rattle.method.proofs.Sources.{as_one, reach_one, one_reach}
use Rattle.method.proofs.Cuts.{weak, min_cut, MinCut}
use Rattle.method.proofs.Cuts as cuts
use Rattle.method.proofs.Listing.{Search, search_side}
use Rattle.method.proofs.Network.{network_cost}
use Rattle.search.specs.Workspace.{slot, net_flow, outs, inns, cleared}
use Rattle.search.specs.Signed.{out_of, inn_of}
use Rattle.search.specs.Search.{nth, cols_of, Given, caps_of, through_of, joins_of, DividedByFlow}
use Rattle.search.specs.inner.Network.{caps, Offsets, Net}
use Rattle.search.specs.inner.Flows.{Side}
use Rattle.search.specs.inner.Trying.{Joins, Limits, costs, Tried}
use Rattle.search.proofs.Reaching.{in_caps, off_none}
use Rattle.search.proofs.Flows.{none_used, no_flow}
use Rattle.search.proofs.Trying.{Stands, stand_parts, pow_alone, pow_off, clash}
use Rattle.search.proofs.Same.{same_cost, same_flow, same_reach}

-- ---- no flow is needed: b is the first taxon of S that hops do not reach past none

module _ {W P J L F : List ℕ} {n m s : ℕ} (S : ℕ) (z : Net W P J L F n m) (ws : List ℤ) (places : sizes m (nth J) ≤ length ws) (bs : s < n) {A b : ℕ} (d : Side W P J L n m (cleared (sizes m (nth J)) ws) (2 ^ s) A)
    (bb : b < n) (h : has S b ≡ true) (off : has A b ≡ false) (lo : (i : ℕ) → i < b → has S i ≡ true → has A i ≡ true) where
  none_from : {i : ℕ} → i < n → i ≢ s → FlowFrom n m (caps W P J) (nth L) (outs (cleared (sizes m (nth J)) ws) (nth J)) (inns (cleared (sizes m (nth J)) ws) (nth J)) (has (2 ^ s)) i 0
  none_from {i} bi ne = (no_flow z ws places (none_used z.columns) (pow-lt bs) bi (pow_off ne)).flow

  pub free_stands : Stands W P J L n m (cleared (sizes m (nth J)) ws) (2 ^ s) b 0 A
  free_stands = record { flow = none_from bb (λ e. clash (has A) s b ((d.all s bs).1 (one_reach (pow_alone s) start)) off (sym e)); side = d; parts = off }

  pub tried_free : Tried W P J L n m S s n 0 b
  tried_free = record {
    tried = record { least = λ D i p q k l. omega arith };
    met = record { best = stand_parts (pow-lt bs) free_stands S (in_pow s).is h; below = bb; first = λ D i p q k l. some D i p q k l (dec_lt 0 (costs W P J L n m D)) };
  }
    where
      some : (D : ℕ → Bool) (i : ℕ) → D s ≡ true → D i ≡ false → has S i ≡ true → i < b → Dec (0 < costs W P J L n m D) → 0 < costs W P J L n m D
      some D i p q k l (yes c) = c
      some D i p q k l (no c) =
          let f = as_one (pow_alone s) bs (none_from (omega arith) (λ e. clash D s i p q (sym e))) in
          let r = reach_one (pow_alone s) ((d.all i (omega arith)).0 (lo i l k)) in
          absurd (true≢false (sym (cuts.least n m (caps W P J) (nth L) (outs (cleared (sizes m (nth J)) ws) (nth J)) (inns (cleared (sizes m (nth J)) ws) (nth J)) f bs D p q (omega arith) r) ∙ q))

-- ---- the lowest taxa of a group

-- The lowest of 64 is that of n, and y is it alone.
pub source_is : (n : ℕ) {S x y : ℕ} → n ≤ 64 → S < 2 ^ n → 1 < count n S → x ≡ low 64 S → y ≡ 2 ^ x → y ≡ 2 ^ low n S
source_is n l f two u v = v ∙ ap (λ (i : ℕ). 2 ^ i) (u ∙ sym (low_width l (count_pos n (omega arith)) f))

-- ---- the network of the group

module _ {W P O Z : List ℕ} {S n m : ℕ} (g : Given W P O Z S n m) {J L : List ℕ} (j : Joins O Z S m J) (l : Limits W P Z S m L) where
  zeros_fit : (c : ℕ) → nth Z c ∩ S < 2 ^ n
  zeros_fit c = omega (arith, ∩-≤ (nth Z c) S, g.group)

  zeros_64 : (c : ℕ) → count 64 (nth Z c ∩ S) ≡ count n (nth Z c ∩ S)
  zeros_64 c = sym (count_width g.taxa (zeros_fit c))

  joined_is : (c : ℕ) → c < m → nth J c ≡ joined n S (cols_of W O Z c)
  unfolding joined cols_of
  joined_is c b = j.is c b ∙ ap (λ (z : ℕ). cond (ltb 0 z) (nth O c ∩ S) 0) (zeros_64 c)

  -- The places of the pairs are those of the group's arcs.
  row_is : (c : ℕ) → c < m → nth J c ≡ joins_of W P O Z S n m c
  unfolding joined cols_of
  row_is = j.is

  pub arcs_are : sizes m (nth J) ≡ arc_count m (cols_of W O Z) S
  unfolding arc_count
  arcs_are = sizes_≡ m row_is

  module _ (ws : List ℤ) (c : ℕ) (b : c < m) where
    before : sizes c (nth J) ≡ sizes c (joins_of W P O Z S n m)
    before = sizes_≡ c (λ e l. row_is e (omega arith))

    outs_is : outs ws (nth J) c ≡ outs ws (joins_of W P O Z S n m) c
    unfolding outs net_flow slot
    outs_is = ap₂ (λ (x k : ℕ). λ (i : ℕ). out_of (cond (has x i) (get_or ws (k + count i x) (pos 0)) (pos 0))) (row_is c b) before

    inns_is : inns ws (nth J) c ≡ inns ws (joins_of W P O Z S n m) c
    unfolding inns net_flow slot
    inns_is = ap₂ (λ (x k : ℕ). λ (i : ℕ). inn_of (cond (has x i) (get_or ws (k + count i x) (pos 0)) (pos 0))) (row_is c b) before

  caps_is : (c : ℕ) → c < m → caps W P J c ≡ caps_of W P O Z S n m c
  unfolding caps cap cols_of
  caps_is c b = ap (λ (x : ℕ). λ (i : ℕ). cond (has x i) (nth W c * multiplicity_in P i) 0) (joined_is c b)

  through_is : (c : ℕ) → c < m → nth L c ≡ through_of W P O Z S n m c
  unfolding through cols_of
  through_is c b = l.is c b ∙ ap (λ (z : ℕ). nth W c * z) (sym (mass_width (multiplicity_in P) g.taxa (zeros_fit c)))

  cond_in : (t : Bool) (x y i : ℕ) → has (cond t (x ∩ y) 0) i ≡ true → has y i ≡ true
  cond_in true x y i h = ((in∩ x y).0 (record { is = h })).1.is
  cond_in false x y i h = absurd (none {i = i} (record { is = h }))

  joins_in : (c : ℕ) → c < m → (i : ℕ) → has (nth J c) i ≡ true → has S i ≡ true
  joins_in c b i h = cond_in (ltb 0 (count 64 (nth Z c ∩ S))) (nth O c) S i (ap (λ (x : ℕ). has x i) (sym (j.is c b)) ∙ h)

  -- A column that joins a taxon has a 0 in S.
  cond_pos : (t : ℕ) (x i : ℕ) → has (cond (ltb 0 t) x 0) i ≡ true → 0 < t
  cond_pos t x i h = go (ltb 0 t) refl h
    where
      go : (b : Bool) → ltb 0 t ≡ b → has (cond b x 0) i ≡ true → 0 < t
      go true e k = ltb-true 0 t e
      go false e k = absurd (none {i = i} (record { is = k }))

  wide : (c : ℕ) → c < m → (i : ℕ) → has (nth J c) i ≡ true → nth W c ≤ nth L c
  wide c b i h =
      let z = nth Z c ∩ S in
      let (y, by, q) = count_some 64 z (cond_pos (count 64 z) (nth O c ∩ S) i (ap (λ (x : ℕ). has x i) (sym (j.is c b)) ∙ h)) in
      omega (arith, l.is c b, mul-le-mul_left (nth W c) (mass_in 64 (multiplicity_in P) g.positive by q))

  pub net : {F : List ℕ} → Offsets J F m → ((c : ℕ) → c < m → nth W c < 65536) → Net W P J L F n m
  net offsets light = record { taxa = g.taxa; columns = g.columns; offsets = offsets; weights = g.weights; positive = g.positive; tabled = g.tabled; light = light; low = λ c b i h. below n g.group (record { is = joins_in c b i h }); wide = wide }

  cost_is : (A : ℕ) → A ⊆ S → costs W P J L n m (has A) ≡ division_cost n (multiplicity_in P) m (cols_of W O Z) S A
  cost_is A h = same_cost n caps_is through_is (has A) ∙ network_cost n (multiplicity_in P) m (cols_of W O Z) S A h

  -- Hops from a taxon of S stay in S.
  reach_in : (ws : List ℤ) {s i : ℕ} → has S s ≡ true → Reach n m (caps W P J) (nth L) (outs ws (nth J)) (inns ws (nth J)) s i → has S i ≡ true
  reach_in ws h start = h
  reach_in ws h (step {j = x} c r bc bx p) = joins_in c bc x (in_caps W P J c x (omega (arith, p.down)))

  side_in : {ws : List ℤ} (s : ℕ) {A : ℕ} → has S s ≡ true → Side W P J L n m ws (2 ^ s) A → A ⊆ S
  side_in {ws} s {A} h d = record { sub = λ {i} p. record { is = reach_in ws h (reach_one (pow_alone s) ((d.all i (d.low i p.is)).0 p.is)) } }

  -- ---- what was found is the split by listing

  module _ {ws : List ℤ} {k k' b A : ℕ} (r : Tried W P J L n m S (low n S) n k b) (d : Stands W P J L n m ws (2 ^ low n S) b k' A) where
    s_in : low n S ∈ S
    s_in = low_in n (count_pos n (omega (arith, g.two))) g.group

    bs : low n S < n
    bs = below n g.group s_in

    inner : A ⊆ S
    inner = side_in (low n S) s_in.is d.side

    -- The flow and the taxa reached, of s alone.
    flow : Flow n m (caps W P J) (nth L) (outs ws (nth J)) (inns ws (nth J)) (low n S) b k'
    flow = as_one (pow_alone (low n S)) bs d.flow

    hops : (i : ℕ) → i < n → has A i ≡ true ↔ Reach n m (caps W P J) (nth L) (outs ws (nth J)) (inns ws (nth J)) (low n S) i
    hops i bi = (λ h. reach_one (pow_alone (low n S)) ((d.side.all i bi).0 h), λ h. (d.side.all i bi).1 (one_reach (pow_alone (low n S)) h))

    cut : (k' ≡ cut_cost n m (caps W P J) (nth L) (has A)) × MinCut n m (caps W P J) (nth L) (outs ws (nth J)) (inns ws (nth J)) (low n S) b (has A)
    cut = min_cut n m (caps W P J) (nth L) (outs ws (nth J)) (inns ws (nth J)) flow bs (has A) hops d.parts

    with_s : has A (low n S) ≡ true
    with_s = (hops (low n S) bs).1 start

    b_in : has S b ≡ true
    b_in = r.met.best.other

    -- The flow is as large as the least cost that was met.
    same_size : k ≡ k'
    same_size =
        omega (
          arith,
          r.tried.least (has A) b with_s d.parts b_in (below n g.group (record { is = b_in })),
          cut.0,
          weak n m (caps W P J) (nth L) (outs ws (nth J)) (inns ws (nth J)) flow bs (has r.met.best.set) r.met.best.with_s r.met.best.off_b,
          r.met.best.costs_k,
        )

    is_cost : k' ≡ division_cost n (multiplicity_in P) m (cols_of W O Z) S A
    is_cost = cut.0 ∙ cost_is A inner

    -- A bound below the flow to each taxon is enough.
    size : ℕ → ℕ
    size i = cond (ltb i b) (k + 1) k

    size_below : (i : ℕ) → i < b → size i ≡ k + 1
    unfolding size
    size_below i l = rw (lt-ltb i b l)

    size_above : (i : ℕ) → b ≤ i → size i ≡ k
    unfolding size
    size_above i l = rw (le-ltb i b l)

    weaker : (D i : ℕ) → Division n S D → i ∈ S ∖ D → Dec (i < b) → size i ≤ division_cost n (multiplicity_in P) m (cols_of W O Z) S D
    weaker D i v h (yes l) = omega (arith, size_below i l, r.met.first (has D) i v.lowest.is (out ((in∖ S D).0 h).1) ((in∖ S D).0 h).0.is l, cost_is D v.inside)
    weaker D i v h (no l) = omega (arith, size_above i (omega arith), r.tried.least (has D) i v.lowest.is (out ((in∖ S D).0 h).1) ((in∖ S D).0 h).0.is (below n g.group ((in∖ S D).0 h).0), cost_is D v.inside)

    at_least : (i : ℕ) → Dec (i < b) → k ≤ size i
    at_least i (yes l) = omega (arith, size_below i l)
    at_least i (no l) = omega (arith, size_above i (omega arith))

    at_b : size b ≡ k
    at_b = size_above b (omega arith)

    found : Search n (multiplicity_in P) m (cols_of W O Z) S g.group g.two size b A
    found = record {
      is_division = record { inside = inner; lowest = record { is = with_s }; proper = λ q. true≢false (sym b_in ∙ ap (λ (x : ℕ). has x b) (sym q) ∙ d.parts) };
      is_parted = (in∖ S A).1 (record { is = b_in }, λ h. true≢false (sym h.is ∙ d.parts));
      found = omega (arith, is_cost, same_size, at_b);
      weak = λ D i v h. weaker D i v h (dec_lt i b);
      least = λ D i v h. omega (arith, at_b, at_least i (dec_lt i b));
      first = λ D i v h l. omega (arith, at_b, size_below i l);
      inner = λ D v h f. record { sub = λ {i} x. record { is = cut.1.smallest (has D) v.lowest.is (out ((in∖ S D).0 h).1) (cost_is D v.inside ∙ f ∙ sym is_cost ∙ cut.0) i (below n g.group (inner.sub x)) x.is } };
    }

    pub divided : DividedByFlow W P O Z S n m ws k' b A
    divided =
        let q = search_side n (multiplicity_in P) m (cols_of W O Z) S g.group g.two found in
        record {
          flow = same_flow n caps_is through_is (outs_is ws) (inns_is ws) flow;
          reached = λ i bi. (
            λ h. same_reach n caps_is through_is (outs_is ws) (inns_is ws) ((hops i bi).0 h),
            λ h. (hops i bi).1 (same_reach n (λ c b. sym (caps_is c b)) (λ c b. sym (through_is c b)) (λ c b. sym (outs_is ws c b)) (λ c b. sym (inns_is ws c b)) h),
          );
          is_side = q.0;
          is_cost = is_cost;
          is_parted = q.1;
        }

  -- The same where no flow is needed: b is the lowest taxon of S that hops do not reach past none.
  pub divided_free : (ws : List ℤ) {ws' : List ℤ} {A off b : ℕ} {F : List ℕ} → Net W P J L F n m → sizes m (nth J) ≤ length ws → Side W P J L n m ws' (2 ^ low n S) A → ws' ≡ cleared (sizes m (nth J)) ws → off ≡ S ∖ A → b ≡ low 64 off → b ∈ off
      → DividedByFlow W P O Z S n m ws' 0 b A
  divided_free ws {ws'} {A} {off} {b} z places d q o u h = rw q (divided (tried_free S z ws places bs d' bb p.0.is (out p.1) lo) (free_stands S z ws places bs d' bb p.0.is (out p.1) lo))
    where
      d' : Side W P J L n m (cleared (sizes m (nth J)) ws) (2 ^ low n S) A
      d' = rw q at d

      bs : low n S < n
      bs = below n g.group (low_in n (count_pos n (omega (arith, g.two))) g.group)

      p : (b ∈ S) × (b ∉ A)
      p = (in∖ S A).0 (rw o at h)

      bb : b < n
      bb = below n g.group p.0

      fits : off < 2 ^ 64
      fits = rw o (omega (arith, ⊆-≤ (∖-⊆ S A), pow_mono g.taxa, g.group))

      lo : (i : ℕ) → i < b → has S i ≡ true → has A i ≡ true
      lo i l k = off_none S A i (out (λ x. let y : i ∈ off = rw o x in omega (arith, u, low_≤ 64 fits y))) k
