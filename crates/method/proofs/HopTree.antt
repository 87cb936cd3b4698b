-- The tree of the taxa that hops reach from those of X. Each taxon j in it off X came from taxon `from j` through column `via j`; `turn` falls on the
-- way back to X, and `width j` is the least that a hop of the way carries. How one more taxon joins (`join`), and that the tree is all that hops reach
-- once each of its taxa has been looked at (`reached`).
use Prim.Native.Nat.{ℕ, zero, suc, ◌≤◌, ◌<◌}
use mathlib.Core.Path.{◌≡◌, sym, ap, ◌∙◌}
use mathlib.Core.Bool.{Bool, true, false, true≢false}
use mathlib.Core.Logic.{◌≢◌, ◌⊎◌, inl, inr, ⊎_elim, ◌↔◌}
use native.Mathlib.Omega.{arith}
use Rattle.method.specs.Flow.{ColumnFlow, Reach, start, step}
use Rattle.method.specs.inner.Sources.{ReachFrom}
use Rattle.method.proofs.Sources.{true?}
use Rattle.method.proofs.Carry.{up, down, room, carry, same?, carry_up, carry_down, carry_some, most_room, open_carry, carry_open}

module _ (n m : ℕ) (cap : ℕ → ℕ → ℕ) (thr : ℕ → ℕ) (out inn : ℕ → ℕ → ℕ) where
  -- What a hop through column c carries, and the column's room.
  abbrev pub carries : ℕ → ℕ → ℕ → ℕ
  carries c = carry n (cap c) (thr c) (out c) (inn c)

  abbrev pub rooms : ℕ → ℕ
  rooms c = room n (cap c) (thr c) (out c) (inn c)

  module _ (X : ℕ → Bool) (R : ℕ → Bool) (from via turn width : ℕ → ℕ) where
    -- Taxon j came from one that was reached before, by an open hop: one that carries something.
    pub record Link (j : ℕ) : Type 0 where
      pub from_in : R (from j) ≡ true
      pub from_n : from j < n
      pub via_m : via j < m
      pub earlier : turn (from j) < turn j
      pub some : 0 < width j
      pub carried : width j ≤ carries (via j) (from j) j
      pub narrow : width j ≤ width (from j)

    -- Those that came through a column with room came from one taxon, so that a path uses such a column once.
    pub record Tree : Type 0 where
      pub root : (x : ℕ) → X x ≡ true → R x ≡ true
      pub first : (x : ℕ) → X x ≡ true → turn x ≡ 0
      pub wide : (x : ℕ) → X x ≡ true → 0 < width x
      pub low : (j : ℕ) → R j ≡ true → j < n
      pub link : (j : ℕ) → R j ≡ true → X j ≡ false → Link j
      pub shared : (x y : ℕ) → R x ≡ true → R y ≡ true → X x ≡ false → X y ≡ false → via x ≡ via y → 0 < rooms (via x) → from x ≡ from y

    -- All hops of the taxa of D lead into the tree.
    abbrev pub Shut : (ℕ → Bool) → Type 0
    Shut D = (y : ℕ) → D y ≡ true → (c x : ℕ) → c < m → x < n → 0 < carries c y x → R x ≡ true

    -- Taxon i is being looked at, and those of D have been; taxa that join get the turn T.
    pub record Growing (D : ℕ → Bool) (i T : ℕ) : Type 0 where
      pub tree : Tree
      pub held : R i ≡ true
      pub done : Shut D
      pub sources : (x : ℕ) → R x ≡ true → X x ≡ false → (D (from x) ≡ true) ⊎ (from x ≡ i)
      pub turns : (x : ℕ) → R x ≡ true → turn x ≤ T
      pub turn_i : turn i < T

-- Taxon j has joined.
pub record Joined (R R' : ℕ → Bool) (from via turn width from' via' turn' width' : ℕ → ℕ) (j i c T w : ℕ) : Type 0 where
  pub set_at : R' j ≡ true
  pub from_at : from' j ≡ i
  pub via_at : via' j ≡ c
  pub turn_at : turn' j ≡ T
  pub width_at : width' j ≡ w
  pub set_off : (x : ℕ) → x ≢ j → R' x ≡ R x
  pub from_off : (x : ℕ) → x ≢ j → from' x ≡ from x
  pub via_off : (x : ℕ) → x ≢ j → via' x ≡ via x
  pub turn_off : (x : ℕ) → x ≢ j → turn' x ≡ turn x
  pub width_off : (x : ℕ) → x ≢ j → width' x ≡ width x

module _ {n m : ℕ} {cap : ℕ → ℕ → ℕ} {thr : ℕ → ℕ} {out inn : ℕ → ℕ → ℕ} {X : ℕ → Bool} {R : ℕ → Bool} {from via turn width : ℕ → ℕ} where
  module _ {R' : ℕ → Bool} {from' via' turn' width' : ℕ → ℕ} {i T j c w : ℕ}
      (tree : Tree n m cap thr out inn X R from via turn width) (held : R i ≡ true) (before : turn i < T)
      (jd : Joined R R' from via turn width from' via' turn' width' j i c T w)
      (new : R j ≡ false) (bj : j < n) (bc : c < m) (pos : 0 < w) (le : w ≤ carry n (cap c) (thr c) (out c) (inn c) i j) (nar : w ≤ width i) where
    pub old : (x : ℕ) → R x ≡ true → x ≢ j
    old x r e = true≢false (sym r ∙ ap R e ∙ new)

    pub keeps : (x : ℕ) → R x ≡ true → R' x ≡ true
    keeps x r = jd.set_off x (old x r) ∙ r

    was : (x : ℕ) → R' x ≡ true → x ≢ j → R x ≡ true
    was x r ne = sym (jd.set_off x ne) ∙ r

    -- What holds of the new taxon and of the old ones holds of all.
    pub by : {P : ℕ → Type 0} → P j → ((x : ℕ) → R x ≡ true → P x) → (x : ℕ) → R' x ≡ true → P x
    by {P} a o x r = ⊎_elim (λ e. rw e a) (λ q. o x (was x r q)) (same? x j)

    -- The column can give to the new taxon.
    pub takes : 0 < down n (cap c) (thr c) (out c) (inn c) j
    takes = omega (arith, carry_down n (cap c) (thr c) (out c) (inn c) i j)

    new_link : Link n m cap thr out inn X R' from' via' turn' width' j
    new_link =
        let i≢j = old i held in
        record {
          from_in = ap R' jd.from_at ∙ keeps i held;
          from_n = rw jd.from_at (tree.low i held);
          via_m = rw jd.via_at bc;
          earlier = rw (jd.from_at, jd.turn_at, jd.turn_off i i≢j) before;
          some = rw jd.width_at pos;
          carried = rw (jd.width_at, jd.via_at, jd.from_at) le;
          narrow = rw (jd.width_at, jd.from_at, jd.width_off i i≢j) nar;
        }

    old_link : (x : ℕ) → R x ≡ true → X x ≡ false → Link n m cap thr out inn X R' from' via' turn' width' x
    old_link x r ne =
        let l = tree.link x r ne in
        let q = old x r in
        let f = old (from x) l.from_in in
        record {
          from_in = ap R' (jd.from_off x q) ∙ keeps (from x) l.from_in;
          from_n = rw (jd.from_off x q) l.from_n;
          via_m = rw (jd.via_off x q) l.via_m;
          earlier = rw (jd.from_off x q, jd.turn_off x q, jd.turn_off (from x) f) l.earlier;
          some = rw (jd.width_off x q) l.some;
          carried = rw (jd.width_off x q, jd.via_off x q, jd.from_off x q) l.carried;
          narrow = rw (jd.width_off x q, jd.from_off x q, jd.width_off (from x) f) l.narrow;
        }

    -- If those reached through a column with room were reached from i, then so it stays.
    module _ (one : (x : ℕ) → R x ≡ true → X x ≡ false → via x ≡ c → 0 < room n (cap c) (thr c) (out c) (inn c) → from x ≡ i) where
      shared : (x y : ℕ) → R' x ≡ true → R' y ≡ true → X x ≡ false → X y ≡ false → via' x ≡ via' y → 0 < room n (cap (via' x)) (thr (via' x)) (out (via' x)) (inn (via' x)) → from' x ≡ from' y
      shared x y rx ry nx ny e p = go (same? x j) (same? y j)
        where
          go : (x ≡ j) ⊎ (x ≢ j) → (y ≡ j) ⊎ (y ≢ j) → from' x ≡ from' y
          go (inl a) (inl b) = ap from' (a ∙ sym b)
          go (inl a) (inr b) =
              let vc : via' x ≡ c = ap via' a ∙ jd.via_at in
              ap from' a ∙ jd.from_at ∙ sym (jd.from_off y b ∙ one y (was y ry b) ny (sym (jd.via_off y b) ∙ sym e ∙ vc) (rw vc at p))
          go (inr a) (inl b) =
              let vc : via' x ≡ c = e ∙ ap via' b ∙ jd.via_at in
              jd.from_off x a ∙ one x (was x rx a) nx (sym (jd.via_off x a) ∙ vc) (rw vc at p) ∙ sym (ap from' b ∙ jd.from_at)
          go (inr a) (inr b) =
              jd.from_off x a ∙ tree.shared x y (was x rx a) (was y ry b) nx ny (sym (jd.via_off x a) ∙ e ∙ jd.via_off y b) (rw (jd.via_off x a) at p) ∙ sym (jd.from_off y b)

      pub join_tree : Tree n m cap thr out inn X R' from' via' turn' width'
      join_tree = record {
        root = λ x h. keeps x (tree.root x h);
        first = λ x h. jd.turn_off x (old x (tree.root x h)) ∙ tree.first x h;
        wide = λ x h. rw (jd.width_off x (old x (tree.root x h))) (tree.wide x h);
        low = by {P = λ x. x < n} bj tree.low;
        link = by {P = λ x. X x ≡ false → Link n m cap thr out inn X R' from' via' turn' width' x} (λ q. new_link) old_link;
        shared = shared;
      }

  -- One who came through column c with room sent something: the column gives to whoever can take, also from there.
  pub gives : {c x : ℕ} → Link n m cap thr out inn X R from via turn width x → via x ≡ c → 0 < room n (cap c) (thr c) (out c) (inn c) → (j : ℕ)
      → 0 < down n (cap c) (thr c) (out c) (inn c) j → 0 < carry n (cap c) (thr c) (out c) (inn c) (from x) j
  gives {c} {x} l e p j takes = carry_some n (cap c) (thr c) (out c) (inn c) (from x) j sends takes (omega (arith, most_room n (cap c) (thr c) (out c) (inn c) (from x) j))
    where
      sends : 0 < up n (cap c) (thr c) (out c) (inn c) (from x)
      sends =
          let d = via x in
          let h : 0 < up n (cap d) (thr d) (out d) (inn d) (from x) = omega (arith, l.some, l.carried, carry_up n (cap d) (thr d) (out d) (inn d) (from x) x) in
          rw e at h

  module _ {R' : ℕ → Bool} {from' via' turn' width' : ℕ → ℕ} {D : ℕ → Bool} {i T j c w : ℕ}
      (g : Growing n m cap thr out inn X R from via turn width D i T)
      (jd : Joined R R' from via turn width from' via' turn' width' j i c T w)
      (new : R j ≡ false) (bj : j < n) (bc : c < m) (pos : 0 < w) (le : w ≤ carry n (cap c) (thr c) (out c) (inn c) i j) (nar : w ≤ width i) where
    -- Those reached through a column with room were reached from i: else j were reached already.
    one_from : (x : ℕ) → R x ≡ true → X x ≡ false → via x ≡ c → 0 < room n (cap c) (thr c) (out c) (inn c) → from x ≡ i
    one_from x r ne e p = ⊎_elim (λ d. absurd (true≢false (sym (reached x r ne e p d) ∙ new))) (λ q. q) (g.sources x r ne)
      where
        reached : (x : ℕ) → R x ≡ true → X x ≡ false → via x ≡ c → 0 < room n (cap c) (thr c) (out c) (inn c) → D (from x) ≡ true → R j ≡ true
        reached x r ne e p d = g.done (from x) d c j bc bj (gives (g.tree.link x r ne) e p j (takes g.tree g.held g.turn_i jd new bj bc pos le nar))

    pub join : Growing n m cap thr out inn X R' from' via' turn' width' D i T
    join = record {
      tree = join_tree g.tree g.held g.turn_i jd new bj bc pos le nar one_from;
      held = kept i g.held;
      done = λ y d e x be bx p. kept x (g.done y d e x be bx p);
      sources = all {P = λ x. X x ≡ false → (D (from' x) ≡ true) ⊎ (from' x ≡ i)} (λ q. inr jd.from_at) (λ x r q. rw (jd.from_off x (was_old x r)) (g.sources x r q));
      turns = all {P = λ x. turn' x ≤ T} (omega (arith, jd.turn_at)) (λ x r. omega (arith, jd.turn_off x (was_old x r), g.turns x r));
      turn_i = omega (arith, jd.turn_off i (was_old i g.held), g.turn_i);
    }
      where
        kept : (x : ℕ) → R x ≡ true → R' x ≡ true
        kept = keeps g.tree g.held g.turn_i jd new bj bc pos le nar

        was_old : (x : ℕ) → R x ≡ true → x ≢ j
        was_old = old g.tree g.held g.turn_i jd new bj bc pos le nar

        all : {P : ℕ → Type 0} → P j → ((x : ℕ) → R x ≡ true → P x) → (x : ℕ) → R' x ≡ true → P x
        all = by g.tree g.held g.turn_i jd new bj bc pos le nar

  -- A tree whose taxa have all been looked at is what hops reach.
  module _ (t : Tree n m cap thr out inn X R from via turn width)
      (cols : (c : ℕ) → c < m → ColumnFlow n (cap c) (thr c) (out c) (inn c))
      (shut : Shut n m cap thr out inn X R from via turn width R) where
    into : (k j : ℕ) → turn j < k → R j ≡ true → ReachFrom n m cap thr out inn X j
    into zero j b r = absurd (omega arith)
    into (suc k) j b r =
        ⊎_elim
        (λ h. (j, h, start))
        (λ ne.
        let l = t.link j r ne in
        let (p, h, q) = into k (from j) (omega (arith, l.earlier)) l.from_in in
        (p, h, step (via j) q l.via_m (t.low j r) (carry_open (cols (via j) l.via_m) l.from_n (t.low j r) (omega (arith, l.some, l.carried)))))
        (true? (X j))

    onto : {p j : ℕ} → X p ≡ true → Reach n m cap thr out inn p j → R j ≡ true
    onto {p} x start = t.root p x
    onto x (step {i} {j} c r bc bj h) = let a = onto x r in shut i a c j bc bj (open_carry (cols c bc) (t.low i a) bj h)

    pub reached : (j : ℕ) → j < n → R j ≡ true ↔ ReachFrom n m cap thr out inn X j
    reached j b = (λ r. into (suc (turn j)) j (omega arith) r, λ w. onto w.1 w.2)
