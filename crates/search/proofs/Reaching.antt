-- The tree in lists: what each function that reaches makes of it.
use Prim.Native.Nat.{ℕ, ◌+◌, ◌-◌, ◌*◌, ◌^◌, ◌≤◌, ◌<◌, min, max}
use mathlib.Core.Path.{◌≡◌, refl, sym, ap, ◌∙◌}
use mathlib.Core.Bool.{Bool, true, false, cond, true≢false}
use mathlib.Core.List.{List}
use mathlib.Core.Logic.{◌≢◌, ◌⊎◌, inl, inr, ⊎_elim}
use native.Mathlib.Omega.{arith}
use lib.IntN.{ℤ}
use lib.ListN.{length, set, length-set}
use lib.Seq.{get_or-set_same, get_or-set_other}
use Rattle.taxa.specs.Sum.{sum}
use Rattle.taxa.specs.Sets.{has, all, ◌⊆◌, ◌∩◌, ◌∪◌, ◌∖◌, count, multiplicity_in}
use Rattle.taxa.proofs.Digits.{has_none}
use Rattle.taxa.proofs.Counts.{count_in, count_insert}
use Rattle.taxa.proofs.Members.{below, in_insert, in_remove, in∩, in∖, out, same_bool, disjoint_∩, ∩-disjoint, ⊆-refl, ⊆-≤, in_all}
use Rattle.method.proofs.Carry.{up, down, room, most, carry, same?, carry_up, carry_open}
use Rattle.search.specs.inner.Places.{IsColumn, HasPlace}
use Rattle.search.specs.Workspace.{outs, inns}
use Rattle.method.proofs.HopTree.{Joined, reached}
use Rattle.search.specs.Search.{nth}
use Rattle.search.specs.inner.Network.{arc, caps, Pair, Ready}
use Rattle.search.specs.inner.Reaching.{from_of, via_of, turn_of, width_of, carried, IsGate, Rooted, Grow, Leads, Offered, stays, joins, Passed, Crossed, Missed, Swept, Planted, Found}
use Rattle.search.proofs.Workspace.{slot_lt, column_place}
use Rattle.method.proofs.Sources.{true?}
use Rattle.method.proofs.Sweep.{leads_open, leads_full, send_start, send_end, send_keeps, send_join}

max_swap : (x y z : ℕ) → max (max x z) y ≡ max (max x y) z
max_swap x y z = omega arith

-- The least of three, and of four, whichever two are compared first.
pub min_first : (s w t f : ℕ) → min (min (min s w) t) f ≡ min (min (min s t) f) w
min_first s w t f = omega arith

-- ---- what a column joins

pub caps_in : (W P J : List ℕ) (c i : ℕ) → has (nth J c) i ≡ true → caps W P J c i ≡ arc W P c i
unfolding caps
caps_in W P J c i h = rw h

cond_some : (b : Bool) (w : ℕ) → 0 < cond b w 0 → b ≡ true
cond_some true w h = refl
cond_some false w h = absurd (omega arith)

pub in_caps : (W P J : List ℕ) (c i : ℕ) → 0 < caps W P J c i → has (nth J c) i ≡ true
unfolding caps
in_caps W P J c i h = cond_some (has (nth J c) i) (arc W P c i) h

-- A taxon that a column joins is one of 64.
pub joins_low : {W P J L F : List ℕ} {n m : ℕ} {ws : List ℤ} {U : List ℕ} {c i : ℕ} → Ready W P J L F n m ws U → c < m → has (nth J c) i ≡ true → i < 64
joins_low {c = c} {i = i} r b h = omega (arith, r.net.low c b i h, r.net.taxa)

module _ {W P J L F : List ℕ} {n m : ℕ} {ws : List ℤ} {U : List ℕ} (r : Ready W P J L F n m ws U) {c : ℕ} (bc : c < m) where
  -- A pair that it joins has its place.
  pub pair : (j : ℕ) → has (nth J c) j ≡ true → Pair J F ws c j
  pair j h =
      let bj : j < 64 = omega (arith, r.net.low c bc j h, r.net.taxa) in
      record {
        column = omega (arith, r.net.columns);
        taxon = bj;
        joins = h;
        offsets = r.net.offsets.long;
        offset = r.net.offsets.is c (omega arith);
        place = omega (arith, slot_lt (nth J) m c j bc bj h, r.places);
      }

  -- What runs there is at most what its arc carries.
  pub entry : (j : ℕ) → has (nth J c) j ≡ true → (outs ws (nth J) c j ≤ arc W P c j) × (inns ws (nth J) c j ≤ arc W P c j)
  entry j h =
      let bj = r.net.low c bc j h in
      let e = caps_in W P J c j h in
      (omega (arith, (r.column c bc).out_fits j bj), omega (arith, (r.column c bc).inn_fits j bj))

  pub used_fits : nth U c ≤ nth L c
  used_fits = omega (arith, r.sums c bc, (r.column c bc).limit)

  -- A hop joins taxa of the column.
  pub hop_joins : {i x : ℕ} → i < n → x < n → 0 < carried W P J L n ws c i x → (has (nth J c) i ≡ true) × (has (nth J c) x ≡ true)
  hop_joins {i} {x} bi bx p =
      let h = carry_open (r.column c bc) bi bx p in
      (in_caps W P J c i (omega (arith, h.up)), in_caps W P J c x (omega (arith, h.down)))

  module _ {i w u v : ℕ} (g : IsGate W P L U c i (outs ws (nth J) c i) (inns ws (nth J) c i) w u v) (hi : has (nth J c) i ≡ true) where
    pub gate_up : u ≡ up n (caps W P J c) (nth L c) (outs ws (nth J) c) (inns ws (nth J) c) i
    unfolding up
    gate_up = rw (caps_in W P J c i hi) g.is_sends

    pub gate_free : v ≡ max (inns ws (nth J) c i) (room n (caps W P J c) (nth L c) (outs ws (nth J) c) (inns ws (nth J) c))
    unfolding room
    gate_free = rw (r.sums c bc) at g.is_free

    -- The formula of the code is what the hop carries.
    pub gate_carry : (j : ℕ) → has (nth J c) j ≡ true → min (min u (w * multiplicity_in P j + outs ws (nth J) c j - inns ws (nth J) c j)) (max v (outs ws (nth J) c j)) ≡ carried W P J L n ws c i j
    unfolding carry most down room
    gate_carry j h = rw (gate_up, g.is_weight, g.is_free, r.sums c bc, caps_in W P J c j h, max_swap (inns ws (nth J) c i) (outs ws (nth J) c j) (nth L c - sum n (outs ws (nth J) c)))

-- What an arc carries, by the weight that was read.
pub is_arc : (W P : List ℕ) (c i : ℕ) {w k : ℕ} → k ≡ w * multiplicity_in P i → w ≡ nth W c → k ≡ arc W P c i
is_arc W P c i q e = q ∙ ap (λ (w : ℕ). w * multiplicity_in P i) e

-- A gate, of the net flow that was read.
pub gate_of : {W P L U : List ℕ} {c i out inn out' inn' w u v : ℕ} → IsGate W P L U c i out inn w u v → (out ≡ out') × (inn ≡ inn') → IsGate W P L U c i out' inn' w u v
gate_of g (o, e) = record { is_weight = g.is_weight; is_sends = rw (← o, ← e) g.is_sends; is_free = rw (← e) g.is_free }

-- What reading a pair asks, where its column is known.
pub pair_asks : {J F : List ℕ} {ws : List ℤ} {c i joined offset : ℕ} → Pair J F ws c i → IsColumn (nth J) c joined offset × (offset < 65536)
    → HasPlace ws joined offset i
pair_asks {i = i} p (k, small) = record { taxon = p.taxon; near = small; place = omega (arith, column_place i k, p.place) }

-- A pair has its place in another workspace of the same length.
pub pair_long : {J F : List ℕ} {ws ws' : List ℤ} {c i : ℕ} → Pair J F ws c i → length ws' ≡ length ws → Pair J F ws' c i
pair_long p e = record { column = p.column; taxon = p.taxon; joins = p.joins; offsets = p.offsets; offset = p.offset; place = omega (arith, p.place) }

-- ---- one taxon joins

in_more : (a j x : ℕ) → x ≢ j → has (a ∪ 2 ^ j) x ≡ has a x
in_more a j x ne = same_bool (λ h. ⊎_elim (λ p. p) (λ e. absurd (ne e)) ((in_insert a j).0 h)) (λ h. (in_insert a j).1 (inl h))

-- Four stores at the places of taxon j.
module _ (Y : List ℕ) (j i c t w : ℕ) (l : length Y ≡ 256) (b : j < 64) where
  abbrev Y1 : List ℕ
  Y1 = set Y (4 * j) i

  abbrev Y2 : List ℕ
  Y2 = set Y1 (4 * j + 1) c

  abbrev Y3 : List ℕ
  Y3 = set Y2 (4 * j + 2) t

  abbrev Y4 : List ℕ
  Y4 = set Y3 (4 * j + 3) w

  l1 : length Y1 ≡ 256
  l1 = length-set Y (4 * j) i ∙ l

  l2 : length Y2 ≡ 256
  l2 = length-set Y1 (4 * j + 1) c ∙ l1

  l3 : length Y3 ≡ 256
  l3 = length-set Y2 (4 * j + 2) t ∙ l2

  pub long : length Y4 ≡ 256
  long = length-set Y3 (4 * j + 3) w ∙ l3

  other : (p : ℕ) → p ≢ 4 * j → p ≢ 4 * j + 1 → p ≢ 4 * j + 2 → p ≢ 4 * j + 3 → nth Y4 p ≡ nth Y p
  other p d e f g = get_or-set_other Y3 (4 * j + 3) p w 0 g ∙ get_or-set_other Y2 (4 * j + 2) p t 0 f ∙ get_or-set_other Y1 (4 * j + 1) p c 0 e ∙ get_or-set_other Y (4 * j) p i 0 d

  off : (x k : ℕ) → x ≢ j → k < 4 → nth Y4 (4 * x + k) ≡ nth Y (4 * x + k)
  off x k ne h = other (4 * x + k) (λ e. ne (omega arith)) (λ e. ne (omega arith)) (λ e. ne (omega arith)) (λ e. ne (omega arith))

  pub joined : (a : ℕ) → Joined (has a) (has (a ∪ 2 ^ j)) (from_of Y) (via_of Y) (turn_of Y) (width_of Y) (from_of Y4) (via_of Y4) (turn_of Y4) (width_of Y4) j i c t w
  joined a = record {
    set_at = ((in_insert a j).1 (inr refl)).is;
    from_at = get_or-set_other Y3 (4 * j + 3) (4 * j) w 0 (λ e. omega arith) ∙ get_or-set_other Y2 (4 * j + 2) (4 * j) t 0 (λ e. omega arith) ∙ get_or-set_other Y1 (4 * j + 1) (4 * j) c 0 (λ e. omega arith) ∙ get_or-set_same Y (4 * j) i 0 (omega arith);
    via_at = get_or-set_other Y3 (4 * j + 3) (4 * j + 1) w 0 (λ e. omega arith) ∙ get_or-set_other Y2 (4 * j + 2) (4 * j + 1) t 0 (λ e. omega arith) ∙ get_or-set_same Y1 (4 * j + 1) c 0 (omega (arith, l1));
    turn_at = get_or-set_other Y3 (4 * j + 3) (4 * j + 2) w 0 (λ e. omega arith) ∙ get_or-set_same Y2 (4 * j + 2) t 0 (omega (arith, l2));
    width_at = get_or-set_same Y3 (4 * j + 3) w 0 (omega (arith, l3));
    set_off = in_more a j;
    from_off = λ x ne. other (4 * x) (λ e. ne (omega arith)) (λ e. omega arith) (λ e. omega arith) (λ e. omega arith);
    via_off = λ x ne. off x 1 ne (omega arith);
    turn_off = λ x ne. off x 2 ne (omega arith);
    width_off = λ x ne. off x 3 ne (omega arith);
  }

-- ---- sets of which members go one by one

pub gone_one : (l j x : ℕ) → has (l ∖ 2 ^ j) x ≡ false → (has l x ≡ false) ⊎ (x ≡ j)
gone_one l j x h = ⊎_elim inr (λ ne. inl (out (λ p. true≢false (sym ((in_remove l j).1 (p, ne)).is ∙ h)))) (same? x j)

pub still_in : (l j x : ℕ) → has (l ∖ 2 ^ j) x ≡ true → (has l x ≡ true) × (x ≢ j)
still_in l j x h = let p = (in_remove l j).0 (record { is = h }) in (p.0.is, p.1)

pub off_in : (x y i : ℕ) → has (x ∖ y) i ≡ true → (has x i ≡ true) × (has y i ≡ false)
off_in x y i h = let p = (in∖ x y).0 (record { is = h }) in (p.0.is, out p.1)

pub off_none : (x y i : ℕ) → has (x ∖ y) i ≡ false → has x i ≡ true → has y i ≡ true
off_none x y i h k = go (has y i) refl
  where
    go : (b : Bool) → has y i ≡ b → b ≡ true
    go true e = refl
    go false e = absurd (true≢false (sym ((in∖ x y).1 (record { is = k }, λ p. true≢false (sym p.is ∙ e))).is ∙ h))

pub missed : {goal a : ℕ} → goal ∩ a ≡ 0 → Missed goal a
missed {goal} {a} e = record { none = λ x h. out (λ p. (∩-disjoint {x = goal} {y = a} e).off (record { is = h }) p) }

pub hit : {goal a : ℕ} → 0 < goal ∩ a → Missed goal a → ⊥
hit {goal} {a} p h = omega (arith, disjoint_∩ {x = goal} {y = a} (record { off = λ {i} x y. true≢false (sym y.is ∙ h.none i x.is) }))

-- ---- who sends

module _ (W P J L : List ℕ) (n : ℕ) (ws : List ℤ) (c x : ℕ) where
  -- What taxon i can send through the column, and whether it turns flow back or finds room.
  abbrev pub sends_of : ℕ → ℕ
  sends_of = up n (caps W P J c) (nth L c) (outs ws (nth J) c) (inns ws (nth J) c)

  abbrev pub free_of : ℕ → ℕ
  free_of i = max (inns ws (nth J) c i) (room n (caps W P J c) (nth L c) (outs ws (nth J) c) (inns ws (nth J) c))

  -- Of the taxa of x without those of l none leads everywhere, and `found` is one that sends, if one does.
  pub record Seeks (l found : ℕ) : Type 0 where
    pub inside : l ⊆ x
    pub held : found ≢ 64 → (has x found ≡ true) × (0 < sends_of found)
    pub passed : (y : ℕ) → has x y ≡ true → has l y ≡ false → 0 < sends_of y → (found ≢ 64) × (free_of y ≡ 0)

module _ {W P J L : List ℕ} {n : ℕ} {ws : List ℤ} {c x : ℕ} where
  pub seek_start : Seeks W P J L n ws c x x 64
  seek_start = record { inside = ⊆-refl x; held = λ ne. absurd (ne refl); passed = λ y h k. absurd (true≢false (sym h ∙ k)) }

  pub seek_found : {i : ℕ} → has x i ≡ true → 0 < sends_of W P J L n ws c x i → 0 < free_of W P J L n ws c x i → i < 64 → Leads W P J L n ws c x i
  seek_found {i} h u f b = record { held = λ ne. h; sends = λ y j k p. (λ e. omega arith, leads_open n (caps W P J c) (nth L c) (outs ws (nth J) c) (inns ws (nth J) c) i y j u p f) }

  pub seek_end : {found : ℕ} → Seeks W P J L n ws c x 0 found → Leads W P J L n ws c x found
  seek_end {found} k = record { held = λ ne. (k.held ne).0; sends = sends }
    where
      sends : (y j : ℕ) → has x y ≡ true → 0 < carried W P J L n ws c y j → (found ≢ 64) × (0 < carried W P J L n ws c found j)
      sends y j h p =
          let q = k.passed y h (has_none y) (omega (arith, carry_up n (caps W P J c) (nth L c) (outs ws (nth J) c) (inns ws (nth J) c) y j)) in
          (q.0, leads_full n (caps W P J c) (nth L c) (outs ws (nth J) c) (inns ws (nth J) c) found y j (k.held q.0).1 p q.1)

  module _ {l found : ℕ} (k : Seeks W P J L n ws c x l found) (i : ℕ) {l' : ℕ} (h : has l i ≡ true) (q : l' ≡ l ∖ 2 ^ i) where
    less : l' ⊆ x
    less = record { sub = λ p. k.inside.sub ((in_remove l i).0 (rw q at p)).0 }

    gone : (y : ℕ) → has l' y ≡ false → (has l y ≡ false) ⊎ (y ≡ i)
    gone y e = gone_one l i y (ap (λ (z : ℕ). has z y) (sym q) ∙ e)

    -- Taxon i cannot send.
    pub seek_skip : sends_of W P J L n ws c x i ≡ 0 → Seeks W P J L n ws c x l' found
    seek_skip z = record { inside = less; held = k.held; passed = λ y e f u. ⊎_elim (λ g. k.passed y e g u) (λ g. absurd (omega (arith, ap (sends_of W P J L n ws c x) g))) (gone y f) }

    -- It can, but turns nothing back and finds no room.
    pub seek_take : 0 < sends_of W P J L n ws c x i → free_of W P J L n ws c x i ≡ 0 → i < 64 → Seeks W P J L n ws c x l' i
    seek_take v z b = record {
      inside = less;
      held = λ ne. ((k.inside.sub (record { is = h })).is, v);
      passed = λ y e f u. (λ g. omega arith, ⊎_elim (λ g. (k.passed y e g u).1) (λ g. ap (free_of W P J L n ws c x) g ∙ z) (gone y f));
    }

-- ---- the hops of i through one column

module _ {W P J L : List ℕ} {n m : ℕ} {ws : List ℤ} {X a : ℕ} {Y : List ℕ} {i c t : ℕ} (g : Grow W P J L n m ws X a Y i c t) where
  wide : 0 < width_of Y i
  wide = ⊎_elim (g.sending.tree.wide i) (λ ne. (g.sending.tree.link i g.sending.held ne).some) (true? (has X i))

-- Nothing was passed yet: all that the column joins and that is not met lies ahead.
pub pass_start : {W P J L F : List ℕ} {n m : ℕ} {ws : List ℤ} {X a : ℕ} {Y U : List ℕ} {i : ℕ} (c : ℕ) → Ready W P J L F n m ws U → Rooted W P J L n m ws X a Y → c < m → has a i ≡ true
    → Passed W P J L n m ws X a a Y i c (turn_of Y i + 1) (nth J c ∖ a)
pass_start {J = J} {a = a} {i = i} c r g bc h = record {
  tree = record { sending = send_start g.sweeping h (omega arith) (omega (arith, g.sweeping.turns i h)); long = g.long };
  keeps = λ x k. k;
  into = λ x b k p. off_none (nth J c) a x k (hop_joins r bc (g.sweeping.tree.low i h) b p).1;
}

-- An offer to j leaves the others as they are.
pub others : {a a' j i c t k : ℕ} {Y Y' : List ℕ} → Offered a Y a' Y' j i c t k → (x : ℕ) → x ≢ j → has a' x ≡ has a x
others (stays z q f) x ne = ap (λ (y : ℕ). has y x) q
others (joins z e jd ls) x ne = jd.set_off x ne

-- Nor does it change the way to them.
pub other_width : {a a' j i c t k : ℕ} {Y Y' : List ℕ} → Offered a Y a' Y' j i c t k → (x : ℕ) → x ≢ j → width_of Y' x ≡ width_of Y x
other_width (stays z q f) x ne = ap (λ (Z : List ℕ). width_of Z x) f
other_width (joins z e jd ls) x ne = jd.width_off x ne

more : (a j : ℕ) → has a j ≡ false → j < 64 → count 64 (a ∪ 2 ^ j) ≡ count 64 a + 1
more a j new b = count_insert 64 b (λ p. true≢false (sym p.is ∙ new))

module _ {W P J L : List ℕ} {n m : ℕ} {ws : List ℤ} {X a i a' a'' : ℕ} {Y' Y'' : List ℕ} {c j t k l : ℕ}
    (p : Passed W P J L n m ws X a a' Y' i c t l) (bc : c < m) (bj : j < n) (b64 : j < 64) (new : has a' j ≡ false) (e : k ≡ min (carried W P J L n ws c i j) (width_of Y' i)) where
  grown : Offered a' Y' a'' Y'' j i c t k → (Grow W P J L n m ws X a'' Y'' i c t) × ((x : ℕ) → has a' x ≡ true → has a'' x ≡ true) × (0 < carried W P J L n ws c i j → has a'' j ≡ true)
  grown (stays z q f) = (rw (q, f) p.tree, λ x y. ap (λ (z : ℕ). has z x) q ∙ y, λ p0. absurd (omega (arith, wide p.tree)))
  grown (joins z q jd ls) = (
    record { sending = rw (q, more a' j new b64) (send_join p.tree.sending (rw q at jd) new bj bc z (omega arith) (omega arith)); long = ls },
    send_keeps p.tree.sending jd new bj bc z (omega arith) (omega arith),
    λ p0. jd.set_at,
  )

  -- One taxon further.
  pub pass_one : Offered a' Y' a'' Y'' j i c t k → {l' : ℕ} → l' ≡ l ∖ 2 ^ j → Passed W P J L n m ws X a a'' Y'' i c t l'
  pass_one o {l'} q =
      let g = grown o in
      record {
        tree = g.0;
        keeps = λ x h. g.1 x (p.keeps x h);
        into = λ x b h d. ⊎_elim (λ f. g.1 x (p.into x b f d)) (λ f. rw f (g.2 (rw f at d))) (gone_one l j x (ap (λ (y : ℕ). has y x) (sym q) ∙ h));
      }

-- ---- one column

module _ {W P J L F : List ℕ} {n m : ℕ} {ws : List ℤ} {X : ℕ} {U : List ℕ} (r : Ready W P J L F n m ws U) {a c : ℕ} (bc : c < m) where
  module _ {Y : List ℕ} (g : Rooted W P J L n m ws X a Y) where
    -- All that it joins is met ..
    pub cross_full : nth J c ⊆ a → Crossed W P J L n m ws X a a Y c
    cross_full h = record {
      tree = g;
      keeps = λ x k. k;
      into = λ y x k b p. (h.sub (record { is = (hop_joins r bc (g.sweeping.tree.low y k) b p).1 })).is;
    }

    -- The hop joins the sender's set.
    here : (y x : ℕ) → has a y ≡ true → x < n → 0 < carried W P J L n ws c y x → has (nth J c ∩ a) y ≡ true
    here y x k b p = ((in∩ (nth J c) a).1 (record { is = (hop_joins r bc (g.sweeping.tree.low y k) b p).0 }, record { is = k })).is

    -- .. or nobody sends ..
    pub cross_none : Leads W P J L n ws c (nth J c ∩ a) 64 → Crossed W P J L n m ws X a a Y c
    cross_none l = record { tree = g; keeps = λ x k. k; into = λ y x k b p. absurd ((l.sends y x (here y x k b p) p).0 refl) }

    -- .. or the sender's hops lead wherever the others lead.
    pub cross : {a' i t : ℕ} {Y' : List ℕ} → Leads W P J L n ws c (nth J c ∩ a) i → Passed W P J L n m ws X a a' Y' i c t 0 → Crossed W P J L n m ws X a a' Y' c
    cross l p = record {
      tree = record { sweeping = send_end p.tree.sending (λ j b. p.into j b (has_none j)); long = p.tree.long };
      keeps = p.keeps;
      into = λ y x k b q. p.into x b (has_none x) (l.sends y x (here y x k b q) q).1;
    }

-- ---- the columns one after the other

-- The tree, of a before, after the hops of the taxa of a through the columns from `first` to below l.
pub record Over (W P J L : List ℕ) (n m : ℕ) (ws : List ℤ) (X a a' : ℕ) (Y : List ℕ) (first l : ℕ) : Type 0 where
  pub tree : Rooted W P J L n m ws X a' Y
  pub keeps : (x : ℕ) → has a x ≡ true → has a' x ≡ true
  pub into : (c y x : ℕ) → first ≤ c → c < l → has a y ≡ true → x < n → 0 < carried W P J L n ws c y x → has a' x ≡ true

module _ {W P J L : List ℕ} {n m : ℕ} {ws : List ℤ} {X a first : ℕ} where
  pub over_none : {Y : List ℕ} → Rooted W P J L n m ws X a Y → Over W P J L n m ws X a a Y first first
  over_none g = record { tree = g; keeps = λ x h. h; into = λ c y x f l. absurd (omega arith) }

  pub over_one : {a' a'' l : ℕ} {Y Y' : List ℕ} → Over W P J L n m ws X a a' Y first l → Crossed W P J L n m ws X a' a'' Y' l → Over W P J L n m ws X a a'' Y' first (l + 1)
  over_one {l = l} u p = record {
    tree = p.tree;
    keeps = λ x h. p.keeps x (u.keeps x h);
    into = λ c y x f b h bx q. ⊎_elim (λ e. p.into y x (u.keeps y h) bx (rw e at q)) (λ ne. p.keeps x (u.into c y x f (omega arith) h bx q)) (same? c l);
  }

-- ---- sources

-- None is planted yet, or
pub plant_none : {Y : List ℕ} (X : ℕ) → length Y ≡ 256 → Planted Y X X
plant_none X l = record { long = l; first = λ x h k. absurd (true≢false (sym h ∙ k)); wide = λ x h k. absurd (true≢false (sym h ∙ k)) }

-- one more, by two stores.
module _ {Y : List ℕ} {X l : ℕ} (p : Planted Y X l) (x w : ℕ) {l' : ℕ} (b : x < 64) (some : 0 < w) (q : l' ≡ l ∖ 2 ^ x) where
  abbrev Y' : List ℕ
  Y' = set Y (4 * x + 2) 0

  was : (y : ℕ) → has l' y ≡ false → y ≢ x → has l y ≡ false
  was y k ne = ⊎_elim (λ h. h) (λ e. absurd (ne e)) (gone_one l x y (ap (λ (z : ℕ). has z y) (sym q) ∙ k))

  pub plant_one : Planted (set Y' (4 * x + 3) w) X l'
  plant_one = record {
    long = length-set Y' (4 * x + 3) w ∙ length-set Y (4 * x + 2) 0 ∙ p.long;
    first = λ y h k.
        ⊎_elim
        (λ e. rw e (get_or-set_other Y' (4 * x + 3) (4 * x + 2) w 0 (λ e. omega arith) ∙ get_or-set_same Y (4 * x + 2) 0 0 (omega (arith, p.long))))
        (λ ne. get_or-set_other Y' (4 * x + 3) (4 * y + 2) w 0 (λ e. omega arith) ∙ get_or-set_other Y (4 * x + 2) (4 * y + 2) 0 0 (λ e. ne (omega arith)) ∙ p.first y h (was y k ne))
        (same? y x);
    wide = λ y h k.
        ⊎_elim
        (λ e. rw e (omega (arith, get_or-set_same Y' (4 * x + 3) w 0 (omega (arith, p.long, length-set Y (4 * x + 2) 0)))))
        (λ ne. omega (arith, get_or-set_other Y' (4 * x + 3) (4 * y + 3) w 0 (λ e. ne (omega arith)), get_or-set_other Y (4 * x + 2) (4 * y + 3) 0 0 (λ e. omega arith), p.wide y h (was y k ne)))
        (same? y x);
  }

-- ---- sweeps

module _ {W P J L : List ℕ} {n m : ℕ} {ws : List ℤ} {X : ℕ} where
  -- The tree of the sources alone.
  pub root_alone : {Y : List ℕ} → n ≤ 64 → X < 2 ^ n → Planted Y X 0 → Rooted W P J L n m ws X X Y
  root_alone {Y} l f p = record {
    long = p.long;
    sweeping = record {
      tree = record {
        root = λ x h. h;
        first = λ x h. p.first x h (has_none x);
        wide = λ x h. p.wide x h (has_none x);
        low = low;
        link = λ x h off. absurd (true≢false (sym h ∙ off));
        shared = λ x y h k off. absurd (true≢false (sym h ∙ off));
      };
      turns = λ x h. omega (arith, p.first x h (has_none x), count_in 64 {i = x} {x = X} (omega (arith, low x h)) (record { is = h }));
      spent = λ x h off. absurd (true≢false (sym h ∙ off));
    };
  }
    where
      low : (x : ℕ) → has X x ≡ true → x < n
      low x h = below n f (record { is = h })

  -- Its taxa are below n.
  pub rooted_low : {a : ℕ} {Y : List ℕ} → Rooted W P J L n m ws X a Y → a ≤ all n
  rooted_low {a} g = ⊆-≤ {x = a} {y = all n} (record { sub = λ {i} h. in_all n (g.sweeping.tree.low i h.is) })

  -- A whole sweep of nobody.
  pub swept_none : {a goal : ℕ} {Y : List ℕ} → Rooted W P J L n m ws X a Y → Swept W P J L n m ws X 0 a Y goal 0
  swept_none g = record {
    tree = g;
    keeps = λ x h. absurd (true≢false (sym h ∙ has_none x));
    into = λ h c y x f b k. absurd (true≢false (sym k ∙ has_none y));
  }

  -- A whole sweep that met nobody new.
  pub swept_all : {a a' goal : ℕ} {Y U F : List ℕ} → Ready W P J L F n m ws U → Swept W P J L n m ws X a a' Y goal 0 → a' ≤ a → Found W P J L n m ws X a Y goal
  swept_all {a} {a'} {goal} {Y} r v le = rw e at (found v)
    where
      e : a' ≡ a
      e = omega (arith, ⊆-≤ {x = a} {y = a'} (record { sub = λ {i} h. record { is = v.keeps i h.is } }))

      found : Swept W P J L n m ws X a a' Y goal 0 → Found W P J L n m ws X a' Y goal
      found u = record { tree = u.tree.sweeping.tree; all = λ h. reached u.tree.sweeping.tree r.column (λ y k c x bc bx. u.into h c y x (omega arith) bc (ap (λ (z : ℕ). has z y) (sym e) ∙ k) bx) }
