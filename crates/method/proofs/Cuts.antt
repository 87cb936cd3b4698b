-- Largest flows and least cuts of a network of n taxa and m columns. A flow from a set of sources is at most what any set of taxa costs that holds them
-- (`weak_from`), and as much exactly where no hop leaves it (`strong_from`, `closed_from`). So the taxa that hops reach from one source are in every
-- set that costs least (`least`), and are the least and smallest cut (`min_cut`).
use Prim.Native.Nat.{ℕ, ◌+◌, ◌≤◌, ◌<◌}
use mathlib.Core.Path.{◌≡◌, refl, sym, ap, ◌∙◌}
use mathlib.Core.Bool.{Bool, true, false, cond, true≢false}
use mathlib.Core.Logic.{◌↔◌}
use native.Mathlib.Omega.{arith}
use Rattle.taxa.specs.Sum.{sum, ∁, inside}
use Rattle.taxa.proofs.Sums.{sum_≡, sum_≤, sum_+, sum_<}
use Rattle.taxa.proofs.Insides.{not_both, not_out, inside_swap}
use Rattle.method.specs.Flow.{cut, cut_cost, Flow, Via, Reach, start, step}
use Rattle.method.specs.inner.Sources.{FlowFrom, ReachFrom}
use Rattle.method.proofs.Sources.{total, only, only_alone, from_one, reach_one, one_reach}
use Rattle.method.proofs.Hops.{Escape, column_≤, slack_escape, escape_slack}

-- In x, which is in a, and where g is h off x in a: g over a and h over x come to what h over a and g over x come to.
swapped : (x a : Bool) {g h : ℕ} → (x ≡ true → a ≡ true) → (a ≡ true → x ≡ false → g ≡ h) → cond a g 0 + cond x h 0 ≡ cond a h 0 + cond x g 0
swapped true true i e = omega arith
swapped true false i e = absurd (true≢false (sym (i refl)))
swapped false true i e = omega (arith, e refl refl)
swapped false false i e = refl

module _ (n m : ℕ) (cap : ℕ → ℕ → ℕ) (thr : ℕ → ℕ) where
  -- What it costs to part the set `A` from the other taxa, column by column.
  abbrev cuts : (ℕ → Bool) → ℕ → ℕ
  cuts A c = cut n (cap c) (thr c) A

  abbrev cost : (ℕ → Bool) → ℕ
  cost = cut_cost n m cap thr

  module _ (out inn : ℕ → ℕ → ℕ) where
    abbrev Reached : ℕ → ℕ → Type 0
    Reached = Reach n m cap thr out inn

    -- No hop leaves the set `A`.
    abbrev pub Closed : (ℕ → Bool) → Type 0
    Closed A = (c i j : ℕ) → c < m → i < n → j < n → A i ≡ true → Via n m cap thr out inn c i j → A j ≡ true

    reach_below : {s i : ℕ} → s < n → Reached s i → i < n
    reach_below b start = b
    reach_below b (step c r bc bj h) = bj

    reach_in : {s i : ℕ} (A : ℕ → Bool) → Closed A → s < n → A s ≡ true → Reached s i → A i ≡ true
    reach_in A shut b a start = a
    reach_in A shut b a (step {i} {j} c r bc bj h) = shut c i j bc (reach_below b r) bj (reach_in A shut b a r) h

    sealed : (A : ℕ → Bool) → Closed A → (c : ℕ) → c < m → ¬ Escape n (cap c) (thr c) (out c) (inn c) A
    sealed A shut c bc (i, bi, ai, (j, bj, aj, h)) = not_both (A j) (shut c i j bc bi bj ai h) aj

    -- What runs from `A` into a column, and from a column into `A`.
    abbrev leaves : (ℕ → Bool) → ℕ → ℕ
    leaves A c = sum n (inside A (out c))

    abbrev enters : (ℕ → Bool) → ℕ → ℕ
    enters A c = sum n (inside A (inn c))

    module _ {X : ℕ → Bool} {t size : ℕ} (flow : FlowFrom n m cap thr out inn X t size) (A : ℕ → Bool) (XA : (i : ℕ) → X i ≡ true → A i ≡ true) (tA : A t ≡ false) where
      -- All that leaves `A` is all that enters it, and the flow: off the sources it balances.
      net : sum m (leaves A) ≡ size + sum m (enters A)
      net = omega (arith, inside_swap n A m out, inside_swap n A m inn, flow.source, sum_+ n (inside A (total m out)) (inside X (total m inn)), sum_+ n (inside A (total m inn)) (inside X (total m out)), even)
        where
          even : sum n (λ i. inside A (total m out) i + inside X (total m inn) i) ≡ sum n (λ i. inside A (total m inn) i + inside X (total m out) i)
          even = sum_≡ n (λ i b. swapped (X i) (A i) (XA i) (λ a x. flow.through i b x (λ e. true≢false (sym a ∙ ap A e ∙ tA))))

      at_most : (c : ℕ) → c < m → leaves A c ≤ enters A c + cuts A c
      at_most c b = column_≤ A (flow.column c b)

      -- The flow is at most what `A` costs,
      pub weak_from : size ≤ cost A
      weak_from = omega (arith, net, sum_+ m (enters A) (cuts A), sum_≤ m at_most)

      -- and as much if no hop leaves `A`,
      pub strong_from : Closed A → size ≡ cost A
      strong_from shut = omega (arith, weak_from, net, sum_+ m (enters A) (cuts A), sum_≤ m at_least)
        where
          full : (c : ℕ) → c < m → ¬ (leaves A c < enters A c + cuts A c)
          full c b lt = sealed A shut c b (slack_escape A (flow.column c b) lt)

          at_least : (c : ℕ) → c < m → enters A c + cuts A c ≤ leaves A c
          at_least c b = omega (arith, full c b)

      -- and only then.
      closed_from : size ≡ cost A → Closed A
      closed_from eq c i j bc bi bj ai hop = not_out (A j) (λ aj. omega (arith, net, sum_+ m (enters A) (cuts A), less aj))
        where
          less : ∁ A j ≡ true → sum m (leaves A) < sum m (λ c. enters A c + cuts A c)
          less aj = sum_< m at_most bc (escape_slack A (flow.column c bc) (i, bi, ai, (j, bj, aj, hop)))

      -- The taxa that hops lead to from the sources are such a set.
      pub full_from : ((i : ℕ) → i < n → A i ≡ true ↔ ReachFrom n m cap thr out inn X i) → size ≡ cost A
      full_from reached = strong_from (λ c i j bc bi bj a h. let (p, x, r) = (reached i bi).0 a in (reached j bj).1 (p, x, step c r bc bj h))

    -- The same of one source s.
    module _ {s t size : ℕ} (flow : Flow n m cap thr out inn s t size) (bs : s < n) (A : ℕ → Bool) (sA : A s ≡ true) (tA : A t ≡ false) where
      from_s : FlowFrom n m cap thr out inn (only s) t size
      from_s = from_one (only_alone s) bs flow

      s_in : (i : ℕ) → only s i ≡ true → A i ≡ true
      s_in i h = ap A ((only_alone s).one i h) ∙ sA

      pub weak : size ≤ cost A
      weak = weak_from from_s A s_in tA

      -- So the taxa that hops lead to are in every set that costs as little as the flow.
      pub least : cost A ≡ size → {i : ℕ} → Reached s i → A i ≡ true
      least eq = reach_in A (closed_from from_s A s_in tA (sym eq)) bs sA

    -- The taxa that hops lead to, if the sink is none of them, are the least set of least cost that holds the source and not the sink.
    pub record MinCut (s t : ℕ) (A : ℕ → Bool) : Type 0 where
      pub cheapest : (D : ℕ → Bool) → D s ≡ true → D t ≡ false → cost A ≤ cost D
      pub smallest : (D : ℕ → Bool) → D s ≡ true → D t ≡ false → cost D ≡ cost A → (i : ℕ) → i < n → A i ≡ true → D i ≡ true

    module _ {s t size : ℕ} (flow : Flow n m cap thr out inn s t size) (bs : s < n) (A : ℕ → Bool) where
      pub min_cut : ((i : ℕ) → i < n → A i ≡ true ↔ Reached s i) → A t ≡ false → (size ≡ cost A) × MinCut s t A
      min_cut reached tA = (eq, record { cheapest = cheapest; smallest = smallest })
        where
          eq : size ≡ cost A
          eq =
              full_from (from_s flow bs A ((reached s bs).1 start) tA) A (s_in flow bs A ((reached s bs).1 start) tA) tA (λ i b. (λ a. one_reach (only_alone s) ((reached i b).0 a), λ r. (reached i b).1 (reach_one (only_alone s) r)))

          cheapest : (D : ℕ → Bool) → D s ≡ true → D t ≡ false → cost A ≤ cost D
          cheapest D sD tD = omega (arith, eq, weak flow bs D sD tD)

          smallest : (D : ℕ → Bool) → D s ≡ true → D t ≡ false → cost D ≡ cost A → (i : ℕ) → i < n → A i ≡ true → D i ≡ true
          smallest D sD tD e i b a = least flow bs D sD tD (e ∙ sym eq) ((reached i b).0 a)
