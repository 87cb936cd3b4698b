-- Two networks that agree column by column have the same flows, the same hops and the same costs.
use Prim.Native.Nat.{ℕ, ◌+◌, ◌<◌}
use mathlib.Core.Path.{◌≡◌, sym, ap, ap₂, ◌∙◌}
use mathlib.Core.Bool.{Bool}
use Rattle.taxa.specs.Sum.{sum}
use Rattle.taxa.proofs.Sums.{sum_≡}
use Rattle.method.specs.Flow.{cut, cut_cost, Flow, Reach, start, step}

module _ (n : ℕ) {m : ℕ} {cap cap' : ℕ → ℕ → ℕ} {thr thr' : ℕ → ℕ} (c-≡ : (c : ℕ) → c < m → cap c ≡ cap' c) (t-≡ : (c : ℕ) → c < m → thr c ≡ thr' c) where
  pub same_cost : (A : ℕ → Bool) → cut_cost n m cap thr A ≡ cut_cost n m cap' thr' A
  same_cost A = sum_≡ m (λ c b. ap₂ (λ (f : ℕ → ℕ) (k : ℕ). cut n f k A) (c-≡ c b) (t-≡ c b))

  module _ {out inn out' inn' : ℕ → ℕ → ℕ} (o-≡ : (c : ℕ) → c < m → out c ≡ out' c) (i-≡ : (c : ℕ) → c < m → inn c ≡ inn' c) where
    outs_of : (i : ℕ) → sum m (λ c. out' c i) ≡ sum m (λ c. out c i)
    outs_of i = sum_≡ m (λ c b. ap (λ (f : ℕ → ℕ). f i) (sym (o-≡ c b)))

    inns_of : (i : ℕ) → sum m (λ c. inn' c i) ≡ sum m (λ c. inn c i)
    inns_of i = sum_≡ m (λ c b. ap (λ (f : ℕ → ℕ). f i) (sym (i-≡ c b)))

    pub same_flow : {s t k : ℕ} → Flow n m cap thr out inn s t k → Flow n m cap' thr' out' inn' s t k
    same_flow {s} {k = k} f = record {
      column = λ c b. rw (sym (c-≡ c b), sym (t-≡ c b), sym (o-≡ c b), sym (i-≡ c b)) (f.column c b);
      through = λ i b p q. outs_of i ∙ f.through i b p q ∙ sym (inns_of i);
      source = outs_of s ∙ f.source ∙ ap (λ (x : ℕ). k + x) (sym (inns_of s));
    }

    pub same_reach : {s i : ℕ} → Reach n m cap thr out inn s i → Reach n m cap' thr' out' inn' s i
    same_reach start = start
    same_reach (step c r bc bj h) = step c (same_reach r) bc bj (rw (sym (c-≡ c bc), sym (t-≡ c bc), sym (o-≡ c bc), sym (i-≡ c bc)) h)
