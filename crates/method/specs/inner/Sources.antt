-- Flows from several taxa at once, as the search tries them: what `Flow` and `Reach` say of the source s, said of a set X of taxa.
use Rattle.std.specs.Prelude.{ℕ, ◌+◌, ◌<◌, ◌≡◌, Bool, true, false, ◌≢◌}
use Rattle.taxa.specs.Sum.{sum, inside}
use Rattle.method.specs.Flow.{ColumnFlow, Reach}

module _ (n m : ℕ) (cap : ℕ → ℕ → ℕ) (thr : ℕ → ℕ) (out inn : ℕ → ℕ → ℕ) where
  -- A flow from X to t: the net flows balance at every taxon but those of X and t, and its size is the net flow out of X.
  pub record FlowFrom (X : ℕ → Bool) (t size : ℕ) : Type 0 where
    pub column : (c : ℕ) → c < m → ColumnFlow n (cap c) (thr c) (out c) (inn c)
    pub through : (i : ℕ) → i < n → X i ≡ false → i ≢ t → sum m (λ c. out c i) ≡ sum m (λ c. inn c i)
    pub source : sum n (inside X (λ i. sum m (λ c. out c i))) ≡ size + sum n (inside X (λ i. sum m (λ c. inn c i)))

  -- The taxa that hops lead to from one of X.
  abbrev pub ReachFrom : (ℕ → Bool) → ℕ → Type 0
  ReachFrom X j = (p : ℕ) × (X p ≡ true) × Reach n m cap thr out inn p j
