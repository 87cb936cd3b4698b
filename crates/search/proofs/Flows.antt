-- Flows in the workspace: what a step of a path leaves, and that a flow is small.
use Prim.Native.Nat.{ℕ, ◌+◌, ◌-◌, ◌*◌, ◌^◌, ◌≤◌, ◌<◌}
use mathlib.Core.Path.{◌≡◌, refl, sym, ap, ◌∙◌}
use mathlib.Core.Bool.{Bool, true, false, not, cond, true≢false}
use mathlib.Core.List.{List}
use mathlib.Core.Logic.{◌≢◌, ⊎_elim}
use native.Mathlib.Nat.{mul-le-mul_right}
use native.Mathlib.Omega.{arith}
use lib.IntN.{ℤ}
use lib.ListN.{length, set, replicate, length-set, get_or-replicate}
use lib.Seq.{get_or-set_same, get_or-set_other}
use Rattle.taxa.specs.Sum.{sum, ∁, inside, outside}
use Rattle.taxa.specs.Sets.{has, sizes, multiplicity_in}
use Rattle.taxa.proofs.Sums.{sum_≡, sum_none, sum_bound, term_≤}
use Rattle.taxa.proofs.Insides.{cond_≡}
use Rattle.taxa.proofs.Members.{below, pow_in}
use Rattle.taxa.proofs.Planes.{in_small}
use Rattle.method.specs.Flow.{cut}
use Rattle.search.specs.Workspace.{outs, inns, cleared, Kept}
use Rattle.method.proofs.Carry.{Hopped, Moved, same?, sum_two}
use Rattle.method.proofs.HopTree.{Tree, Link}
use Rattle.search.specs.Search.{nth}
use Rattle.search.specs.inner.Network.{arc_most, flow_most, caps, CanHop, Unused, Net, Ready}
use Rattle.search.specs.inner.Reaching.{from_of, via_of, turn_of, width_of, carried, Found}
use Rattle.search.specs.inner.Flows.{CanCount, Counted, Flowing, Advanced}
use Rattle.search.proofs.Workspace.{kept_none, kept_then, cleared_kept, out_0, inn_0}
use Rattle.search.proofs.Reaching.{pair, hop_joins}
use Rattle.method.proofs.Sources.{true?, only, only_alone, alone_off, inside_alone}
use Rattle.method.proofs.Cuts.{weak_from}
use Rattle.method.proofs.Path.{direct_sends, direct_takes, direct, Pushing, push_start, push_step, push_end, apart, sends, takes}

-- ---- sizes

twice : (b : Bool) (x : ℕ) → cond (not (not b)) x 0 ≡ cond b x 0
twice true x = refl
twice false x = refl

cond_le : (b : Bool) {w k : ℕ} → w ≤ k → cond b w 0 ≤ k
cond_le true h = h
cond_le false h = omega arith

-- To part a taxon alone, a column costs no more than its arc there carries.
pub cut_alone : (n : ℕ) (cap : ℕ → ℕ) (thr : ℕ) {t : ℕ} → t < n → cut n cap thr (∁ (only t)) ≤ cap t
cut_alone n cap thr {t} b = omega (arith, sum_≡ n {g = outside (∁ (only t)) cap} {h = inside (only t) cap} (λ i l. twice (only t i) (cap i)), inside_alone (only_alone t) b cap)

-- "65,535 x 127", the most that an arc carries.
pub arc_small : (P : List ℕ) {w : ℕ} → w < 65536 → (i : ℕ) → w * multiplicity_in P i ≤ arc_most
arc_small P l i = omega (arith, mul-le-mul_right (multiplicity_in P i) l, in_small P i)

pub caps_small : {W P J L F : List ℕ} {n m : ℕ} → Net W P J L F n m → (c : ℕ) → c < m → (i : ℕ) → caps W P J c i ≤ arc_most
unfolding caps
caps_small {W} {P} {J} z c b i = cond_le (has (nth J c) i) (arc_small P (z.light c b) i)

module _ {W P J L F : List ℕ} {n m : ℕ} {ws : List ℤ} {U : List ℕ} where
  -- t is one of 64 taxa.
  pub sink_low : {X t k : ℕ} → Flowing W P J L F n m ws U X t k → t < 64
  sink_low f = omega (arith, f.sink, f.ready.net.taxa)

  -- "127 x 256 x 65,535": a flow is at most what its sink can take, which is what the set of all other taxa costs at most.
  pub size_small : {X t k : ℕ} → Flowing W P J L F n m ws U X t k → k ≤ flow_most
  size_small {X} {t} f =
      omega (
        arith,
        weak_from n m (caps W P J) (nth L) (outs ws (nth J)) (inns ws (nth J)) f.flow others in_others (ap not (only_alone t).held),
        sum_bound m arc_most {g = λ c. cut n (caps W P J c) (nth L c) others} (λ c b. omega (arith, cut_alone n (caps W P J c) (nth L c) f.sink, caps_small f.ready.net c b t)),
        mul-le-mul_right arc_most f.ready.net.columns,
      )
    where
      others : ℕ → Bool
      others = ∁ (only t)

      in_others : (i : ℕ) → has X i ≡ true → others i ≡ true
      in_others i h = ap not (alone_off (only_alone t) i (λ e. true≢false (sym h ∙ ap (has X) e ∙ f.apart)))

  sum_small : Ready W P J L F n m ws U → (c : ℕ) → c < m → sum n (outs ws (nth J) c) ≤ 532668480
  sum_small r c b =
      omega (
        arith,
        sum_bound n arc_most {g = outs ws (nth J) c} (λ i bi. omega (arith, (r.column c b).out_fits i bi, caps_small r.net c b i)),
        mul-le-mul_right arc_most r.net.taxa,
      )

-- ---- the count of a column after a hop: what it was, and what the two entries are more

pub count_after : (n : ℕ) {out inn out' inn' : ℕ → ℕ} {i j d : ℕ} → Moved n out inn out' inn' i j d → i < n → j < n → i ≢ j → sum n out' + out i + out j ≡ sum n out + out' i + out' j
count_after n {out} {inn} {out'} mv bi bj ne = sum_two n out' out bi bj ne mv.rest_out

pub entries_few : {J : List ℕ} {n : ℕ} {ws : List ℤ} {U : List ℕ} {c i d : ℕ} → i < n → CanCount J n ws U c d → outs ws (nth J) c i < 2 ^ 30
entries_few {J} {n} {ws} {c = c} b k = omega (arith, k.is, k.few, term_≤ n (outs ws (nth J) c) b)

pub counted : (J : List ℕ) (n : ℕ) {ws' : List ℤ} (U : List ℕ) (c : ℕ) {v : ℕ} → length U ≡ 256 → c < 256 → v ≡ sum n (outs ws' (nth J) c) → Counted J n ws' U (set U c v) c
counted J n U c {v} l b e = record { counts = length-set U c v ∙ l; is = get_or-set_same U c v 0 (omega arith) ∙ e; rest = λ x ne. get_or-set_other U c x v 0 ne }

-- ---- one hop

module _ {W P J L F : List ℕ} {n m : ℕ} {ws : List ℤ} {U : List ℕ} (r : Ready W P J L F n m ws U) {c i j d : ℕ} (bc : c < m) (bi : i < n) (bj : j < n) (ne : i ≢ j) where
  -- What it asks: room at both taxa.
  pub hop_asks : outs ws (nth J) c i + d ≤ caps W P J c i + inns ws (nth J) c i → inns ws (nth J) c j + d ≤ caps W P J c j + outs ws (nth J) c j
      → (has (nth J c) i ≡ true) × (has (nth J c) j ≡ true) → CanHop J F ws c i j d × (n ≤ 64) × (i < n) × (j < n) × CanCount J n ws U c d
  hop_asks up down h =
      let col = r.column c bc in
      let z = r.net in (
        record {
          from = pair r bc i h.0;
          to = pair r bc j h.1;
          apart = ne;
          out = omega (arith, up, col.inn_fits i bi, caps_small z c bc i);
          inn = omega (arith, down, col.out_fits j bj, caps_small z c bc j);
        },
        z.taxa,
        bi,
        bj,
        record {
          column = omega (arith, z.columns);
          counts = r.counts;
          is = r.sums c bc;
          few = omega (arith, r.sums c bc, sum_small r c bc);
          little = omega (arith, up, col.inn_fits i bi, caps_small z c bc i);
        },
      )

  -- What it leaves.
  pub hop_sums : {ws' : List ℤ} {U' : List ℕ} → Hopped n m (outs ws (nth J)) (inns ws (nth J)) (outs ws' (nth J)) (inns ws' (nth J)) c i j d → Counted J n ws' U U' c → (e : ℕ) → e < m → nth U' e ≡ sum n (outs ws' (nth J) e)
  hop_sums {ws'} h q e b = ⊎_elim (λ f. rw f q.is) (λ f. q.rest e f ∙ r.sums e b ∙ sym (sum_≡ n {g = outs ws' (nth J) e} {h = outs ws (nth J) e} (h.rest_out e b f))) (same? e c)

-- Straight from a source to t.
module _ {W P J L F : List ℕ} {n m : ℕ} {ws : List ℤ} {U : List ℕ} {X t k : ℕ} (f : Flowing W P J L F n m ws U X t k) {c i d : ℕ} (bc : c < m) (x : has X i ≡ true) (le : d ≤ carried W P J L n ws c i t) where
  bi : i < n
  bi = below n f.sources (record { is = x })

  ne : i ≢ t
  ne e = true≢false (sym x ∙ ap (has X) e ∙ f.apart)

  pub direct_asks : (has (nth J c) i ≡ true) × (has (nth J c) t ≡ true) → CanHop J F ws c i t d × (n ≤ 64) × (i < n) × (t < n) × CanCount J n ws U c d
  direct_asks = hop_asks f.ready bc bi f.sink ne (direct_sends f.flow bi f.sink bc le) (direct_takes f.flow bi f.sink bc le)

  pub direct_flow : {ws' : List ℤ} {U' : List ℕ} → Hopped n m (outs ws (nth J)) (inns ws (nth J)) (outs ws' (nth J)) (inns ws' (nth J)) c i t d → Kept (sizes m (nth J)) ws ws' → Counted J n ws' U U' c → Flowing W P J L F n m ws' U' X t (k + d)
  direct_flow h e q =
      let g = direct f.flow bi f.sink bc le x f.apart h in
      record {
        ready = record { net = f.ready.net; places = omega (arith, f.ready.places, e.long); counts = q.counts; column = g.column; sums = hop_sums f.ready bc bi f.sink ne h q };
        flow = g;
        sources = f.sources;
        sink = f.sink;
        apart = f.apart;
      }

-- ---- one path

module _ (W P J L F : List ℕ) (n m : ℕ) (ws₀ : List ℤ) (U₀ : List ℕ) (X t k a : ℕ) (Y : List ℕ) (d : ℕ) where
  -- The path from t back to j has been pushed.
  pub record Under (ws : List ℤ) (U : List ℕ) (j : ℕ) : Type 0 where
    pub before : Flowing W P J L F n m ws₀ U₀ X t k
    pub tree : Tree n m (caps W P J) (nth L) (outs ws₀ (nth J)) (inns ws₀ (nth J)) (has X) (has a) (from_of Y) (via_of Y) (turn_of Y) (width_of Y)
    pub push : Pushing n m (caps W P J) (nth L) (outs ws₀ (nth J)) (inns ws₀ (nth J)) (has X) (has a) (from_of Y) (via_of Y) (turn_of Y) (width_of Y) t k d (outs ws (nth J)) (inns ws (nth J)) j
    pub sums : (c : ℕ) → c < m → nth U c ≡ sum n (outs ws (nth J) c)
    pub counts : length U ≡ 256
    pub kept : Kept (sizes m (nth J)) ws₀ ws

module _ {W P J L F : List ℕ} {n m : ℕ} {ws₀ : List ℤ} {U₀ : List ℕ} {X t k a : ℕ} {Y : List ℕ} {d : ℕ} where
  pub under_start : {goal : ℕ} → Flowing W P J L F n m ws₀ U₀ X t k → Found W P J L n m ws₀ X a Y goal → has a t ≡ true → d ≤ width_of Y t → Under W P J L F n m ws₀ U₀ X t k a Y d ws₀ U₀ t
  under_start f r h l = record {
    before = f;
    tree = r.tree;
    push = push_start f.flow f.apart h l;
    sums = f.ready.sums;
    counts = f.ready.counts;
    kept = kept_none (sizes m (nth J)) ws₀;
  }

  module _ {ws : List ℤ} {U : List ℕ} {j : ℕ} (u : Under W P J L F n m ws₀ U₀ X t k a Y d ws U j) where
    pub under_low : j < 64
    under_low = omega (arith, u.tree.low j u.push.held, u.before.ready.net.taxa)

    ready : Ready W P J L F n m ws U
    ready = record { net = u.before.ready.net; places = omega (arith, u.before.ready.places, u.kept.long); counts = u.counts; column = u.push.column; sums = u.sums }

    -- The sources alone have turn 0.
    pub not_root : 0 < turn_of Y j → has X j ≡ false
    not_root p = ⊎_elim (λ h. absurd (omega (arith, u.tree.first j h))) (λ h. h) (true? (has X j))

    pub is_root : turn_of Y j ≡ 0 → has X j ≡ true
    is_root p = ⊎_elim (λ h. h) (λ ne. absurd (omega (arith, (u.tree.link j u.push.held ne).earlier))) (true? (has X j))

    module _ (ne : has X j ≡ false) where
      link : Link n m (caps W P J) (nth L) (outs ws₀ (nth J)) (inns ws₀ (nth J)) (has X) (has a) (from_of Y) (via_of Y) (turn_of Y) (width_of Y) j
      link = u.tree.link j u.push.held ne

      pub under_via : via_of Y j < m
      under_via = link.via_m

      pub under_turn : turn_of Y (from_of Y j) < turn_of Y j
      under_turn = link.earlier

      -- A hop that carries something is between taxa that the column joins.
      joins : (has (nth J (via_of Y j)) (from_of Y j) ≡ true) × (has (nth J (via_of Y j)) j ≡ true)
      joins = hop_joins u.before.ready link.via_m link.from_n (u.tree.low j u.push.held) (omega (arith, link.some, link.carried))

      pub can_hop : CanHop J F ws (via_of Y j) (from_of Y j) j d × (n ≤ 64) × (from_of Y j < n) × (j < n) × CanCount J n ws U (via_of Y j) d
      can_hop =
          hop_asks ready link.via_m link.from_n (u.tree.low j u.push.held) (apart u.tree u.push ne) (sends u.tree u.push ne) (takes u.tree u.push ne)
          joins

      pub under_step : {ws' : List ℤ} {U' : List ℕ} → Hopped n m (outs ws (nth J)) (inns ws (nth J)) (outs ws' (nth J)) (inns ws' (nth J)) (via_of Y j) (from_of Y j) j d → Kept (sizes m (nth J)) ws ws' → Counted J n ws' U U' (via_of Y j)
          → Under W P J L F n m ws₀ U₀ X t k a Y d ws' U' (from_of Y j)
      under_step {ws'} {U'} h e q = record {
        before = u.before;
        tree = u.tree;
        push = push_step u.tree u.push ne h;
        sums = hop_sums ready link.via_m link.from_n (u.tree.low j u.push.held) (apart u.tree u.push ne) h q;
        counts = q.counts;
        kept = kept_then u.kept e;
      }

  pub under_end : {ws : List ℤ} {U : List ℕ} {j : ℕ} → Under W P J L F n m ws₀ U₀ X t k a Y d ws U j → has X j ≡ true → Flowing W P J L F n m ws U X t (k + d)
  under_end {j = j} u h = record { ready = ready u; flow = push_end u.push (u.tree.low j u.push.held) h; sources = u.before.sources; sink = u.before.sink; apart = u.before.apart }

-- ---- no flow, in a cleared workspace

pub none_used : {m : ℕ} → m ≤ 256 → Unused (replicate 256 0) m
none_used b = record { long = refl; is = λ c l. get_or-replicate 256 c 0 0 (omega arith) }

module _ {W P J L F : List ℕ} {n m : ℕ} (z : Net W P J L F n m) (ws : List ℤ) (places : sizes m (nth J) ≤ length ws) {U : List ℕ} (un : Unused U m) where
  wide : {i : ℕ} → i < n → i < 64
  wide b = omega (arith, z.taxa)

  pub no_ready : Ready W P J L F n m (cleared (sizes m (nth J)) ws) U
  no_ready = record {
    net = z;
    places = omega (arith, (cleared_kept {k = sizes m (nth J)} ws refl places).long);
    counts = un.long;
    column = λ c b. record {
      out_fits = λ i bi. omega (arith, out_0 (nth J) m ws c i b (wide bi));
      inn_fits = λ i bi. omega (arith, inn_0 (nth J) m ws c i b (wide bi));
      one_way = λ i bi. omega (arith, out_0 (nth J) m ws c i b (wide bi));
      balance = sum_≡ n (λ i bi. out_0 (nth J) m ws c i b (wide bi) ∙ sym (inn_0 (nth J) m ws c i b (wide bi)));
      limit = omega (arith, none c b);
    };
    sums = λ c b. un.is c b ∙ sym (none c b);
  }
    where
      none : (c : ℕ) → c < m → sum n (outs (cleared (sizes m (nth J)) ws) (nth J) c) ≡ 0
      none c b = sum_none n (λ i bi. out_0 (nth J) m ws c i b (wide bi))

  pub no_flow : {X t : ℕ} → X < 2 ^ n → t < n → has X t ≡ false → Flowing W P J L F n m (cleared (sizes m (nth J)) ws) U X t 0
  no_flow {X} {t} fits bt off = record {
    ready = no_ready;
    flow = record { column = no_ready.column; through = λ i bi p q. all i bi; source = omega (arith, sum_≡ n {g = inside (has X) (λ i. sum m (λ c. outs (cleared (sizes m (nth J)) ws) (nth J) c i))} {h = inside (has X) (λ i. sum m (λ c. inns (cleared (sizes m (nth J)) ws) (nth J) c i))} (λ i bi. cond_≡ (has X i) (λ h. all i bi))) };
    sources = fits;
    sink = bt;
    apart = off;
  }
    where
      all : (i : ℕ) → i < n → sum m (λ c. outs (cleared (sizes m (nth J)) ws) (nth J) c i) ≡ sum m (λ c. inns (cleared (sizes m (nth J)) ws) (nth J) c i)
      all i bi = sum_≡ m (λ c b. out_0 (nth J) m ws c i b (wide bi) ∙ sym (inn_0 (nth J) m ws c i b (wide bi)))

-- ---- t was not reached, or the path to it was pushed

module _ {W P J L F : List ℕ} {n m : ℕ} {X t k a : ℕ} where
  pub stayed : {ws : List ℤ} {U Y : List ℕ} {goal : ℕ} → Flowing W P J L F n m ws U X t k → Found W P J L n m ws X a Y goal → goal ≡ 2 ^ t → has a t ≡ false → Advanced W P J L F n m ws U X t k k a
  stayed f r e h = record {
    stage = record { flowing = f; side = λ q. record { low = r.tree.low; all = r.all (record { none = λ x p. ap (has a) (pow_in t (record { is = ap (λ (y : ℕ). has y x) (sym e) ∙ p })) ∙ h }) } };
    more = omega arith;
    pushed = λ q. absurd (true≢false (sym q ∙ h));
  }

  pub went : {ws₀ ws : List ℤ} {U₀ U Y : List ℕ} {d j : ℕ} → Under W P J L F n m ws₀ U₀ X t k a Y d ws U j → has X j ≡ true → has a t ≡ true → 0 < d → Advanced W P J L F n m ws U X t k (k + d) a
  went u e h p = record { stage = record { flowing = under_end u e; side = λ q. absurd (true≢false (sym h ∙ q)) }; more = omega arith; pushed = λ q. omega arith }

-- Each path makes the flow larger, or is the last.
pub rest_of : ℕ → Bool → ℕ
rest_of k a = 2 * (flow_most - k) + cond a 1 0

pub falls : (k k' : ℕ) (a b : Bool) → a ≡ true → k ≤ k' → (b ≡ true → k < k') → k' ≤ flow_most → rest_of k' b < rest_of k a
unfolding rest_of
falls k k' true true e l p s = let q = p refl in omega arith
falls k k' true false e l p s = omega arith
falls k k' false b e l p s = absurd (true≢false (sym e))
