-- One hop pushed (`hop_columns`, `hop_net`), as where it runs straight from a source to t (`direct`); and a path of the tree pushed hop by hop, from its
-- end back to a source: at each taxon j of it stands a flow of the old size from the sources to t, and d more from j to t.
use Prim.Native.Nat.{ℕ, ◌+◌, ◌-◌, ◌≤◌, ◌<◌}
use mathlib.Core.Path.{◌≡◌, refl, sym, ap, ◌∙◌}
use mathlib.Core.Bool.{Bool, true, false, cond, true≢false}
use mathlib.Core.Logic.{◌≢◌, ⊎_elim}
use native.Mathlib.Omega.{arith}
use native.Mathlib.Decide.{dec_lt}
use Rattle.taxa.specs.Sum.{sum, inside}
use Rattle.taxa.proofs.Sums.{sum_≡, sum_but, sum_0, sum_none, sum_bump}
use Rattle.taxa.proofs.Insides.{cond_≡, inside_+}
use Rattle.method.specs.Flow.{ColumnFlow}
use Rattle.method.specs.inner.Sources.{FlowFrom}
use Rattle.method.proofs.Sources.{total}
use Rattle.method.proofs.Carry.{up, down, room, most, carry, Hopped, same?, put, put_at, put_off, carry_up, carry_down, carry_most, moved, same_column}
use Rattle.method.proofs.HopTree.{Tree, Link}

-- k units at taxon a.
abbrev pub at : ℕ → ℕ → ℕ → ℕ
at a k = put (λ x. 0) a k

at_same : (a k : ℕ) → at a k a ≡ k
at_same a k = put_at (λ x. 0) a k

at_other : (a k x : ℕ) → x ≢ a → at a k x ≡ 0
at_other a k x ne = put_off (λ x. 0) a k x ne

cond_none : (b : Bool) {x : ℕ} → (b ≡ true → x ≡ 0) → cond b x 0 ≡ 0
cond_none true h = h refl
cond_none false h = refl

-- ---- one hop: d units more from taxon i to taxon j through column c

module _ {n m : ℕ} {out inn out' inn' : ℕ → ℕ → ℕ} {c i j d : ℕ} (bc : c < m) (bi : i < n) (bj : j < n) (ne : i ≢ j) (h : Hopped n m out inn out' inn' c i j d) where
  pub hop_columns : {cap : ℕ → ℕ → ℕ} {thr : ℕ → ℕ} → ((e : ℕ) → e < m → ColumnFlow n (cap e) (thr e) (out e) (inn e)) → out c i + d ≤ cap c i + inn c i → inn c j + d ≤ cap c j + out c j
      → d ≤ most n (cap c) (thr c) (out c) (inn c) i j → (e : ℕ) → e < m → ColumnFlow n (cap e) (thr e) (out' e) (inn' e)
  hop_columns col u w r e b = ⊎_elim (λ q. rw q (moved (col c bc) bi bj h.here ne u w r)) (λ q. same_column (col e b) (h.rest_out e b q) (h.rest_inn e b q)) (same? e c)

  -- The sums of a taxon's entries, but for those of column c.
  all_out : (x : ℕ) → x < n → total m out' x + out c x ≡ total m out x + out' c x
  all_out x b = sum_but m {g = λ e. out' e x} {h = λ e. out e x} bc (λ e be q. h.rest_out e be q x b)

  all_inn : (x : ℕ) → x < n → total m inn' x + inn c x ≡ total m inn x + inn' c x
  all_inn x b = sum_but m {g = λ e. inn' e x} {h = λ e. inn e x} bc (λ e be q. h.rest_inn e be q x b)

  -- What a taxon sends more than it takes: d more at i, d less at j, and elsewhere as it was.
  abbrev Nets : ℕ → Type 0
  Nets x = total m out' x + at j d x + total m inn x ≡ total m out x + at i d x + total m inn' x

  pub hop_net : (x : ℕ) → x < n → Nets x
  hop_net x b = ⊎_elim at_i (λ u. ⊎_elim (at_j u) (other u) (same? x j)) (same? x i)
    where
      at_i : x ≡ i → Nets x
      at_i e =
          let q : x ≢ j = λ f. ne (sym e ∙ f) in
          omega (arith, all_out x b, all_inn x b, at_other j d x q, ap (at i d) e, at_same i d, ap (out c) e, ap (inn c) e, ap (out' c) e, ap (inn' c) e, h.here.from_out, h.here.from_inn)

      at_j : x ≢ i → x ≡ j → Nets x
      at_j u e =
          omega (arith, all_out x b, all_inn x b, at_other i d x u, ap (at j d) e, at_same j d, ap (out c) e, ap (inn c) e, ap (out' c) e, ap (inn' c) e, h.here.to_out, h.here.to_inn)

      other : x ≢ i → x ≢ j → Nets x
      other u v = omega (arith, all_out x b, all_inn x b, at_other i d x u, at_other j d x v, h.here.rest_out x b u v, h.here.rest_inn x b u v)

  -- The same over a set of taxa.
  pub hop_net_from : (X : ℕ → Bool) →
      sum n (inside X (total m out')) + sum n (inside X (at j d)) + sum n (inside X (total m inn)) ≡ sum n (inside X (total m out)) + sum n (inside X (at i d)) + sum n (inside X (total m inn'))
  hop_net_from X =
      omega (
        arith,
        inside_+ n X (total m out') (at j d),
        inside_+ n X (λ x. total m out' x + at j d x) (total m inn),
        inside_+ n X (total m out) (at i d),
        inside_+ n X (λ x. total m out x + at i d x) (total m inn'),
        sum_≡ n {g = inside X (λ x. total m out' x + at j d x + total m inn x)} {h = inside X (λ x. total m out x + at i d x + total m inn' x)} (λ x b. cond_≡ (X x) (λ a. hop_net x b)),
      )

-- d units at a taxon of X, or at one off it.
at_in : (n : ℕ) (X : ℕ → Bool) {a : ℕ} (d : ℕ) → a < n → X a ≡ true → sum n (inside X (at a d)) ≡ d
at_in n X {a} d b h =
    omega (
      arith,
      sum_bump n {g = inside X (at a d)} {h = λ x. 0} d b (omega (arith, at_same a d, ap (λ (t : Bool). cond t (at a d a) 0) h)) (λ x bx ne. cond_none (X x) (λ e. at_other a d x ne)),
      sum_0 n,
    )

at_off : (n : ℕ) (X : ℕ → Bool) {a : ℕ} (d : ℕ) → X a ≡ false → sum n (inside X (at a d)) ≡ 0
at_off n X {a} d h = sum_none n (λ x b. cond_none (X x) (λ e. at_other a d x (λ q. true≢false (sym e ∙ ap X q ∙ h))))

-- ---- a hop straight from a source to t

module _ {n m : ℕ} {cap : ℕ → ℕ → ℕ} {thr : ℕ → ℕ} {out inn : ℕ → ℕ → ℕ} {X : ℕ → Bool} {t k c i d : ℕ} (f : FlowFrom n m cap thr out inn X t k) (bi : i < n) (bt : t < n) (bc : c < m)
    (le : d ≤ carry n (cap c) (thr c) (out c) (inn c) i t) where
  pub direct_sends : out c i + d ≤ cap c i + inn c i
  unfolding up
  direct_sends = omega (arith, carry_up n (cap c) (thr c) (out c) (inn c) i t, (f.column c bc).out_fits i bi)

  pub direct_takes : inn c t + d ≤ cap c t + out c t
  unfolding down
  direct_takes = omega (arith, carry_down n (cap c) (thr c) (out c) (inn c) i t, (f.column c bc).inn_fits t bt)

  -- It makes the flow larger by what it carries.
  pub direct : {out' inn' : ℕ → ℕ → ℕ} → X i ≡ true → X t ≡ false → Hopped n m out inn out' inn' c i t d → FlowFrom n m cap thr out' inn' X t (k + d)
  direct xi xt h = record {
    column = hop_columns bc bi bt ne h f.column direct_sends direct_takes (omega (arith, carry_most n (cap c) (thr c) (out c) (inn c) i t));
    through = λ x b nx nt. omega (arith, hop_net bc bi bt ne h x b, f.through x b nx nt, at_other i d x (λ e. true≢false (sym xi ∙ ap X (sym e) ∙ nx)), at_other t d x nt);
    source = omega (arith, hop_net_from bc bi bt ne h X, f.source, at_in n X d bi xi, at_off n X d xt);
  }
    where
      ne : i ≢ t
      ne e = true≢false (sym xi ∙ ap X e ∙ xt)

-- ---- a path

module _ (n m : ℕ) (cap : ℕ → ℕ → ℕ) (thr : ℕ → ℕ) (out inn : ℕ → ℕ → ℕ) (X : ℕ → Bool) (R : ℕ → Bool) (from via turn width : ℕ → ℕ) (t k d : ℕ) where
  -- A flow of k units from X to t, and d units more from j to t; what lies before j is as it was.
  pub record Pushing (out' inn' : ℕ → ℕ → ℕ) (j : ℕ) : Type 0 where
    pub column : (c : ℕ) → c < m → ColumnFlow n (cap c) (thr c) (out' c) (inn' c)
    pub net : (x : ℕ) → x < n → X x ≡ false → x ≢ t → total m out' x ≡ at j d x + total m inn' x
    pub source : sum n (inside X (total m out')) ≡ k + sum n (inside X (at j d)) + sum n (inside X (total m inn'))
    pub fresh_out : (x : ℕ) → x < n → turn x < turn j → (c : ℕ) → c < m → out' c x ≡ out c x
    pub fresh_inn : (x : ℕ) → x < n → turn x < turn j → (c : ℕ) → c < m → inn' c x ≡ inn c x
    pub more_out : (c : ℕ) → c < m → out c j ≤ out' c j
    pub less_inn : (c : ℕ) → c < m → inn' c j ≤ inn c j
    pub unused : (x : ℕ) → R x ≡ true → X x ≡ false → turn (from x) < turn j → 0 < room n (cap (via x)) (thr (via x)) (out (via x)) (inn (via x)) → sum n (out' (via x)) ≡ sum n (out (via x))
    pub held : R j ≡ true
    pub enough : d ≤ width j

module _ {n m : ℕ} {cap : ℕ → ℕ → ℕ} {thr : ℕ → ℕ} {out inn : ℕ → ℕ → ℕ} {X : ℕ → Bool} {R : ℕ → Bool} {from via turn width : ℕ → ℕ} where
  pub push_start : {t k d : ℕ} → FlowFrom n m cap thr out inn X t k → X t ≡ false → R t ≡ true → d ≤ width t → Pushing n m cap thr out inn X R from via turn width t k d out inn t
  push_start {t} {k} {d} f ne r le = record {
    column = f.column;
    net = λ x b nx nt. omega (arith, f.through x b nx nt, at_other t d x nt);
    source = omega (arith, f.source, at_off n X d ne);
    fresh_out = λ x b l c h. refl;
    fresh_inn = λ x b l c h. refl;
    more_out = λ c h. omega arith;
    less_inn = λ c h. omega arith;
    unused = λ x r q l p. refl;
    held = r;
    enough = le;
  }

  -- It ends at a taxon of X.
  pub push_end : {out' inn' : ℕ → ℕ → ℕ} {t k d j : ℕ} → Pushing n m cap thr out inn X R from via turn width t k d out' inn' j → j < n → X j ≡ true → FlowFrom n m cap thr out' inn' X t (k + d)
  push_end {t = t} {k = k} {d = d} {j = j} p b h = record {
    column = p.column;
    through = λ x bx nx nt. omega (arith, p.net x bx nx nt, at_other j d x (λ e. true≢false (sym h ∙ ap X (sym e) ∙ nx)));
    source = omega (arith, p.source, at_in n X d b h);
  }

  module _ {out' inn' : ℕ → ℕ → ℕ} {t k d j : ℕ} (tree : Tree n m cap thr out inn X R from via turn width)
      (p : Pushing n m cap thr out inn X R from via turn width t k d out' inn' j) (ns : X j ≡ false) where
    l : Link n m cap thr out inn X R from via turn width j
    l = tree.link j p.held ns

    abbrev c : ℕ
    c = via j

    abbrev i : ℕ
    i = from j

    bj : j < n
    bj = tree.low j p.held

    pub apart : from j ≢ j
    apart e = omega (arith, l.earlier, ap turn e)

    col : ColumnFlow n (cap c) (thr c) (out' c) (inn' c)
    col = p.column c l.via_m

    carried : d ≤ carry n (cap c) (thr c) (out c) (inn c) i j
    carried = omega (arith, l.carried, p.enough)

    -- The entries of i are as they were.
    i_out : (e : ℕ) → e < m → out' e i ≡ out e i
    i_out = p.fresh_out i l.from_n l.earlier

    i_inn : (e : ℕ) → e < m → inn' e i ≡ inn e i
    i_inn = p.fresh_inn i l.from_n l.earlier

    pub sends : out' (via j) (from j) + d ≤ cap (via j) (from j) + inn' (via j) (from j)
    unfolding up
    sends = omega (arith, carried, carry_up n (cap c) (thr c) (out c) (inn c) i j, i_out c l.via_m, i_inn c l.via_m, col.out_fits i l.from_n)

    pub takes : inn' (via j) j + d ≤ cap (via j) j + out' (via j) j
    unfolding down
    takes = omega (arith, carried, carry_down n (cap c) (thr c) (out c) (inn c) i j, p.more_out c l.via_m, p.less_inn c l.via_m, col.inn_fits j bj)

    -- The column has the room it had, or had none.
    room_kept : room n (cap c) (thr c) (out c) (inn c) ≤ room n (cap c) (thr c) (out' c) (inn' c)
    unfolding room
    room_kept = go (dec_lt 0 (thr c - sum n (out c)))
      where
        go : Dec (0 < thr c - sum n (out c)) → thr c - sum n (out c) ≤ thr c - sum n (out' c)
        go (yes q) = omega (arith, p.unused j p.held ns l.earlier q)
        go (no q) = omega arith

    turned : d ≤ most n (cap c) (thr c) (out' c) (inn' c) i j
    unfolding most
    turned = omega (arith, carried, carry_most n (cap c) (thr c) (out c) (inn c) i j, room_kept, i_inn c l.via_m, p.more_out c l.via_m)

    module _ {out'' inn'' : ℕ → ℕ → ℕ} (h : Hopped n m out' inn' out'' inn'' (via j) (from j) j d) where
      -- A taxon before i is neither i nor j.
      before_i : (x : ℕ) → turn x < turn i → (x ≢ i) × (x ≢ j)
      before_i x q = (λ e. omega (arith, ap turn e), λ e. omega (arith, ap turn e, l.earlier))

      fresh_out : (x : ℕ) → x < n → turn x < turn i → (e : ℕ) → e < m → out'' e x ≡ out e x
      fresh_out x b q e be =
          ⊎_elim (λ f. rw f (h.here.rest_out x b (before_i x q).0 (before_i x q).1)) (λ f. h.rest_out e be f x b) (same? e c)
          ∙ p.fresh_out x b (omega (arith, l.earlier)) e be

      fresh_inn : (x : ℕ) → x < n → turn x < turn i → (e : ℕ) → e < m → inn'' e x ≡ inn e x
      fresh_inn x b q e be =
          ⊎_elim (λ f. rw f (h.here.rest_inn x b (before_i x q).0 (before_i x q).1)) (λ f. h.rest_inn e be f x b) (same? e c)
          ∙ p.fresh_inn x b (omega (arith, l.earlier)) e be

      more_out : (e : ℕ) → e < m → out e i ≤ out'' e i
      more_out e b = ⊎_elim (λ f. rw f (omega (arith, h.here.from_out, i_out c l.via_m, col.one_way i l.from_n))) (λ f. omega (arith, h.rest_out e b f i l.from_n, i_out e b)) (same? e c)

      less_inn : (e : ℕ) → e < m → inn'' e i ≤ inn e i
      less_inn e b = ⊎_elim (λ f. rw f (omega (arith, h.here.from_inn, i_inn c l.via_m))) (λ f. omega (arith, h.rest_inn e b f i l.from_n, i_inn e b)) (same? e c)

      -- A column with room that is still ahead is not c: all that it reached have one source.
      unused : (x : ℕ) → R x ≡ true → X x ≡ false → turn (from x) < turn i → 0 < room n (cap (via x)) (thr (via x)) (out (via x)) (inn (via x)) → sum n (out'' (via x)) ≡ sum n (out (via x))
      unused x r q b f = sum_≡ n {g = out'' (via x)} {h = out' (via x)} (λ y by. h.rest_out (via x) (tree.link x r q).via_m other y by) ∙ p.unused x r q (omega (arith, l.earlier)) f
        where
          other : via x ≢ c
          other e = omega (arith, ap turn (tree.shared x j r p.held q ns e f))

      pub push_step : Pushing n m cap thr out inn X R from via turn width t k d out'' inn'' (from j)
      push_step = record {
        column = hop_columns l.via_m l.from_n bj apart h p.column sends takes turned;
        net = λ x b nx nt. omega (arith, hop_net l.via_m l.from_n bj apart h x b, p.net x b nx nt);
        source = omega (arith, hop_net_from l.via_m l.from_n bj apart h X, p.source);
        fresh_out = fresh_out;
        fresh_inn = fresh_inn;
        more_out = more_out;
        less_inn = less_inn;
        unused = unused;
        held = l.from_in;
        enough = omega (arith, p.enough, l.narrow);
      }
