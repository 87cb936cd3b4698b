-- A largest flow exists, with the taxa that hops reach past it, and the sink is none of them (`ended`): from no flow at all, as long as the tree of
-- reached taxa holds the sink, its width is pushed along the path to the sink; `weak` bounds how often. A flow is a largest exactly where hops do not
-- reach the sink (`ended_most`, `largest_misses`).
use Prim.Native.Nat.{ℕ, zero, suc, ◌+◌, ◌-◌, ◌<◌}
use mathlib.Core.Path.{◌≡◌, refl, sym, ap, ◌∙◌}
use mathlib.Core.Bool.{Bool, true, false, true≢false}
use mathlib.Core.Logic.{◌≢◌, ◌↔◌, ⊎_elim}
use native.Mathlib.Nat.{le_refl}
use native.Mathlib.Omega.{arith}
use Rattle.taxa.proofs.Sums.{sum_0}
use Rattle.method.specs.Flow.{cut_cost, Flow, Reach, start, Largest}
use Rattle.method.specs.inner.Sources.{FlowFrom, ReachFrom}
use Rattle.method.proofs.Sources.{true?, only, only_alone, alone_off, as_one, reach_one, one_reach}
use Rattle.method.proofs.Cuts.{weak, weak_from, least, min_cut}
use Rattle.method.proofs.Carry.{Hopped, put, put_at, put_off}
use Rattle.method.proofs.HopTree.{Tree, reached}
use Rattle.method.proofs.Path.{Pushing, push_start, push_step, push_end, apart}
use Rattle.method.proofs.Spread.{some_width, spanned}

-- ---- one path

-- The entries after d units more from taxon i to taxon j through column c.
abbrev sent_out : (ℕ → ℕ → ℕ) → (ℕ → ℕ → ℕ) → ℕ → ℕ → ℕ → ℕ → ℕ → ℕ → ℕ
sent_out out inn c i j d = put out c (put (put (out c) i (out c i + d - inn c i)) j (out c j - (inn c j + d)))

abbrev sent_inn : (ℕ → ℕ → ℕ) → (ℕ → ℕ → ℕ) → ℕ → ℕ → ℕ → ℕ → ℕ → ℕ → ℕ
sent_inn out inn c i j d = put inn c (put (put (inn c) i (inn c i - (out c i + d))) j (inn c j + d - out c j))

-- A function changed at i and then at j, as the value at c of a function changed there.
module _ (f : ℕ → ℕ → ℕ) (c i j u v : ℕ) (ne : i ≢ j) where
  abbrev g : ℕ → ℕ → ℕ
  g = put f c (put (put (f c) i u) j v)

  here : (x : ℕ) → g c x ≡ put (put (f c) i u) j v x
  here x = ap (λ (h : ℕ → ℕ). h x) (put_at f c (put (put (f c) i u) j v))

  at_first : g c i ≡ u
  at_first = here i ∙ put_off (put (f c) i u) j v i ne ∙ put_at (f c) i u

  at_second : g c j ≡ v
  at_second = here j ∙ put_at (put (f c) i u) j v

  at_others : (x : ℕ) → x ≢ i → x ≢ j → g c x ≡ f c x
  at_others x p q = here x ∙ put_off (put (f c) i u) j v x q ∙ put_off (f c) i u x p

  elsewhere : (e : ℕ) → e ≢ c → (x : ℕ) → g e x ≡ f e x
  elsewhere e q x = ap (λ (h : ℕ → ℕ). h x) (put_off f c (put (put (f c) i u) j v) e q)

sent : (n m : ℕ) (out inn : ℕ → ℕ → ℕ) (c i j d : ℕ) → i ≢ j → Hopped n m out inn (sent_out out inn c i j d) (sent_inn out inn c i j d) c i j d
sent n m out inn c i j d ne = record {
  here = record {
    from_out = at_first out c i j _ _ ne;
    from_inn = at_first inn c i j _ _ ne;
    to_out = at_second out c i j _ _ ne;
    to_inn = at_second inn c i j _ _ ne;
    rest_out = λ x b. at_others out c i j _ _ ne x;
    rest_inn = λ x b. at_others inn c i j _ _ ne x;
  };
  rest_out = λ e b q x bx. elsewhere out c i j _ _ ne e q x;
  rest_inn = λ e b q x bx. elsewhere inn c i j _ _ ne e q x;
}

-- A flow, with its entries.
abbrev SomeFlow : (n m : ℕ) (cap : ℕ → ℕ → ℕ) (thr : ℕ → ℕ) (X : ℕ → Bool) (t size : ℕ) → Type 0
SomeFlow n m cap thr X t size = (out : ℕ → ℕ → ℕ) × (inn : ℕ → ℕ → ℕ) × FlowFrom n m cap thr out inn X t size

module _ {n m : ℕ} {cap : ℕ → ℕ → ℕ} {thr : ℕ → ℕ} {out inn : ℕ → ℕ → ℕ} {X : ℕ → Bool} {R : ℕ → Bool} {from via turn width : ℕ → ℕ} {t k d : ℕ}
    (tree : Tree n m cap thr out inn X R from via turn width) where
  push : (f : ℕ) {out' inn' : ℕ → ℕ → ℕ} {j : ℕ} → turn j < f → Pushing n m cap thr out inn X R from via turn width t k d out' inn' j → SomeFlow n m cap thr X t (k + d)
  push zero b p = absurd (omega arith)
  push (suc f) {out'} {inn'} {j} b p =
      ⊎_elim
      (λ h. (out', inn', push_end p (tree.low j p.held) h))
      (λ ns. push f (omega (arith, (tree.link j p.held ns).earlier)) (push_step tree p ns (sent n m out' inn' (via j) (from j) j d (apart tree p ns))))
      (true? (X j))

-- ---- a largest flow

module _ (n m : ℕ) (cap : ℕ → ℕ → ℕ) (thr : ℕ → ℕ) (s t : ℕ) where
  -- A flow, and the taxa that hops reach past it, of which the sink is none.
  pub record Ended : Type 0 where
    pub out : ℕ → ℕ → ℕ
    pub inn : ℕ → ℕ → ℕ
    pub size : ℕ
    pub set : ℕ → Bool
    pub flow : Flow n m cap thr out inn s t size
    pub reached : (i : ℕ) → i < n → set i ≡ true ↔ Reach n m cap thr out inn s i
    pub missed : set t ≡ false

  module _ (bs : s < n) (ne : t ≢ s) where
    off : only s t ≡ false
    off = alone_off (only_alone s) t ne

    -- Units that can still be pushed are below f.
    more : (f : ℕ) {out inn : ℕ → ℕ → ℕ} {size : ℕ} → FlowFrom n m cap thr out inn (only s) t size → cut_cost n m cap thr (only s) < size + f → Ended
    more zero {out} {inn} flow l =
        absurd (omega (arith, weak_from n m cap thr out inn flow (only s) (λ i h. h) off))
    more (suc f) {out} {inn} {size} flow l =
        let p = spanned n m cap thr out inn (only s) (λ x h. rw ((only_alone s).one x h) bs) in
        ⊎_elim
        (λ r.
        let (out', inn', flow') = push p.tree (suc (p.notes.turn t)) (omega arith) (push_start flow off r (le_refl (p.notes.width t))) in
        more f flow' (omega (arith, some_width n m cap thr out inn (only s) p.notes p.tree t r)))
        (λ r. record { out = out; inn = inn; size = size; set = p.notes.set; flow = as_one (only_alone s) bs flow; reached = λ i b. by_s (reached p.tree flow.column p.shut i b); missed = r })
        (true? (p.notes.set t))
      where
        by_s : {i : ℕ} {A : Type 0} → A ↔ ReachFrom n m cap thr out inn (only s) i → A ↔ Reach n m cap thr out inn s i
        by_s (f, g) = (λ a. reach_one (only_alone s) (f a), λ r. g (one_reach (only_alone s) r))

    nothing : FlowFrom n m cap thr (λ c i. 0) (λ c i. 0) (only s) t 0
    nothing = record {
      column = λ c b. record {
        out_fits = λ i bi. omega arith;
        inn_fits = λ i bi. omega arith;
        one_way = λ i bi. refl;
        balance = refl;
        limit = omega (arith, sum_0 n);
      };
      through = λ i b p q. refl;
      source = omega arith;
    }

    pub ended : Ended
    ended = more (suc (cut_cost n m cap thr (only s))) nothing (omega arith)

    holds : (e : Ended) → e.set s ≡ true
    holds e = (e.reached s bs).1 start

    full : (e : Ended) → e.size ≡ cut_cost n m cap thr e.set
    full e = (min_cut n m cap thr e.out e.inn e.flow bs e.set e.reached e.missed).0

    -- Past a largest flow hops do not lead to the sink, and a flow past which they do not is a largest.
    pub ended_most : (e : Ended) → Largest n m cap thr e.out e.inn s t e.size
    ended_most e = record { flow = e.flow; most = λ out' inn' size' f. omega (arith, full e, weak n m cap thr out' inn' f bs e.set (holds e) e.missed) }

    pub largest_misses : {out inn : ℕ → ℕ → ℕ} {size : ℕ} → Largest n m cap thr out inn s t size → Reach n m cap thr out inn s t → ⊥
    largest_misses {out} {inn} {size} l r = true≢false (sym (least n m cap thr out inn l.flow bs ended.set (holds ended) ended.missed same r) ∙ ended.missed)
      where
        same : cut_cost n m cap thr ended.set ≡ size
        same = omega (arith, full ended, l.most ended.out ended.inn ended.size ended.flow, (ended_most ended).most out inn size l.flow)
