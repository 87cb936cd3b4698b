-- The tree of reached taxa grown column by column. Of those that a column joins one sends, and whatever its hop leads to joins (`send_join`). A column
-- with room that someone came through gives to nobody more (`Sweeping`), so that those who came through it have one source. Which taxon is to send: one
-- whose hop leads wherever a hop of the others leads (`leads_open`, `leads_full`).
use Prim.Native.Nat.{ℕ, ◌+◌, ◌≤◌, ◌<◌, max}
use mathlib.Core.Path.{◌≡◌, sym, ◌∙◌}
use mathlib.Core.Bool.{Bool, true, false, true≢false}
use mathlib.Core.Logic.{◌≢◌, ◌⊎◌, inl, inr, ⊎_elim}
use native.Mathlib.Omega.{arith}
use Rattle.method.proofs.Carry.{up, down, room, most, carry, carry_down, carry_most, carry_some}
use Rattle.method.proofs.HopTree.{carries, rooms, Tree, Joined, old, keeps, by, takes, gives, join_tree}

-- ---- who sends

module _ (n : ℕ) (cap : ℕ → ℕ) (thr : ℕ) (out inn : ℕ → ℕ) (i y j : ℕ) (sends : 0 < up n cap thr out inn i) (p : 0 < carry n cap thr out inn y j) where
  most_open : 0 < max (inn i) (room n cap thr out inn) → 0 < most n cap thr out inn i j
  unfolding most
  most_open h = omega arith

  most_full : max (inn y) (room n cap thr out inn) ≡ 0 → 0 < most n cap thr out inn y j → 0 < most n cap thr out inn i j
  unfolding most
  most_full e h = omega arith

  given : 0 < down n cap thr out inn j
  given = omega (arith, carry_down n cap thr out inn y j)

  -- A taxon that sends and turns something back, or finds room, leads wherever the others lead ..
  pub leads_open : 0 < max (inn i) (room n cap thr out inn) → 0 < carry n cap thr out inn i j
  leads_open h = carry_some n cap thr out inn i j sends given (most_open h)

  -- .. and one that sends leads wherever those lead that turn nothing back and find no room.
  pub leads_full : max (inn y) (room n cap thr out inn) ≡ 0 → 0 < carry n cap thr out inn i j
  leads_full e = carry_some n cap thr out inn i j sends given (most_full e (omega (arith, carry_most n cap thr out inn y j)))

-- ---- the tree

module _ (n m : ℕ) (cap : ℕ → ℕ → ℕ) (thr : ℕ → ℕ) (out inn : ℕ → ℕ → ℕ) (X : ℕ → Bool) (R : ℕ → Bool) (from via turn width : ℕ → ℕ) where
  -- All taxa that column c can still give to are in the tree.
  abbrev pub Given : ℕ → Type 0
  Given c = (j : ℕ) → j < n → 0 < down n (cap c) (thr c) (out c) (inn c) j → R j ≡ true

  -- A tree of N taxa.
  pub record Sweeping (N : ℕ) : Type 0 where
    pub tree : Tree n m cap thr out inn X R from via turn width
    pub turns : (x : ℕ) → R x ≡ true → turn x < N
    pub spent : (x : ℕ) → R x ≡ true → X x ≡ false → 0 < rooms n m cap thr out inn (via x) → Given (via x)

  -- The same while taxon i sends through column c; taxa that join get the turn T.
  pub record Sending (i c T N : ℕ) : Type 0 where
    pub tree : Tree n m cap thr out inn X R from via turn width
    pub held : R i ≡ true
    pub turn_i : turn i < T
    pub above : T ≤ N
    pub turns : (x : ℕ) → R x ≡ true → turn x < N
    pub spent : (x : ℕ) → R x ≡ true → X x ≡ false → 0 < rooms n m cap thr out inn (via x) → Given (via x) ⊎ ((via x ≡ c) × (from x ≡ i))

module _ {n m : ℕ} {cap : ℕ → ℕ → ℕ} {thr : ℕ → ℕ} {out inn : ℕ → ℕ → ℕ} {X : ℕ → Bool} {R : ℕ → Bool} {from via turn width : ℕ → ℕ} {i c : ℕ} where
  pub send_start : {T N : ℕ} → Sweeping n m cap thr out inn X R from via turn width N → R i ≡ true → turn i < T → T ≤ N → Sending n m cap thr out inn X R from via turn width i c T N
  send_start g h later most = record { tree = g.tree; held = h; turn_i = later; above = most; turns = g.turns; spent = λ x r ne p. inl (g.spent x r ne p) }

  -- Once all that the hops of i lead to have joined.
  pub send_end : {T N : ℕ} → Sending n m cap thr out inn X R from via turn width i c T N → ((j : ℕ) → j < n → 0 < carries n m cap thr out inn c i j → R j ≡ true)
      → Sweeping n m cap thr out inn X R from via turn width N
  send_end g into = record { tree = g.tree; turns = g.turns; spent = spent }
    where
      spent : (x : ℕ) → R x ≡ true → X x ≡ false → 0 < rooms n m cap thr out inn (via x) → Given n m cap thr out inn X R from via turn width (via x)
      spent x r ne p = ⊎_elim (λ h. h) (λ h j b d. into j b (rw h.1 at (gives (g.tree.link x r ne) h.0 (rw h.0 at p) j (rw h.0 at d)))) (g.spent x r ne p)

  module _ {R' : ℕ → Bool} {from' via' turn' width' : ℕ → ℕ} {T N j w : ℕ}
      (g : Sending n m cap thr out inn X R from via turn width i c T N)
      (jd : Joined R R' from via turn width from' via' turn' width' j i c T w)
      (new : R j ≡ false) (bj : j < n) (bc : c < m) (pos : 0 < w) (le : w ≤ carry n (cap c) (thr c) (out c) (inn c) i j) (nar : w ≤ width i) where
    -- Those reached through this column, if it has room, were reached from i: else it gave to nobody more.
    one_from : (x : ℕ) → R x ≡ true → X x ≡ false → via x ≡ c → 0 < room n (cap c) (thr c) (out c) (inn c) → from x ≡ i
    one_from x r ne e p =
        ⊎_elim
        (λ h. absurd (true≢false (sym (h j bj (rw e (takes g.tree g.held g.turn_i jd new bj bc pos le nar))) ∙ new)))
        (λ h. h.1)
        (g.spent x r ne (rw e p))

    pub send_keeps : (x : ℕ) → R x ≡ true → R' x ≡ true
    send_keeps = keeps g.tree g.held g.turn_i jd new bj bc pos le nar

    off : (x : ℕ) → R x ≡ true → x ≢ j
    off = old g.tree g.held g.turn_i jd new bj bc pos le nar

    all : {P : ℕ → Type 0} → P j → ((x : ℕ) → R x ≡ true → P x) → (x : ℕ) → R' x ≡ true → P x
    all = by g.tree g.held g.turn_i jd new bj bc pos le nar

    -- What is said of a taxon's column and source.
    Spent : ℕ → Type 0
    Spent x = X x ≡ false → 0 < rooms n m cap thr out inn (via' x) → Given n m cap thr out inn X R' from' via' turn' width' (via' x) ⊎ ((via' x ≡ c) × (from' x ≡ i))

    old_spent : (x : ℕ) → R x ≡ true → Spent x
    unfolding Spent
    old_spent x r ne =
        rw (jd.via_off x (off x r), jd.from_off x (off x r)) (λ p. ⊎_elim (λ h. inl (λ k b d. send_keeps k (h k b d))) inr (g.spent x r ne p))

    pub send_join : Sending n m cap thr out inn X R' from' via' turn' width' i c T (N + 1)
    unfolding Spent
    send_join = record {
      tree = join_tree g.tree g.held g.turn_i jd new bj bc pos le nar one_from;
      held = send_keeps i g.held;
      turn_i = omega (arith, jd.turn_off i (off i g.held), g.turn_i);
      above = omega (arith, g.above);
      turns = all {P = λ x. turn' x < N + 1} (omega (arith, jd.turn_at, g.above)) (λ x r. omega (arith, jd.turn_off x (off x r), g.turns x r));
      spent = all {P = Spent} (λ ne p. inr (jd.via_at, jd.from_at)) old_spent;
    }
