-- The split by listing: its division costs least, then parts the lowest taxon, then has the fewest taxa, and is the only such one (`side_best`,
-- `best_only`). It is the one of document 01's rule (`side_rule`, `rule_only`), and what a search for each taxon finds (`search_side`).
use mathlib.Core.Path.{◌≡◌, refl, sym, ap, ap₂, ◌∙◌, subst}
use mathlib.Core.Logic.{◌≢◌, inl, ⊎_elim}
use Prim.Native.Nat.{ℕ, suc, ◌+◌, ◌*◌, ◌^◌, ◌≤◌, ◌<◌}
use native.Mathlib.Nat.{suc-mul, mul-add, mul-le-mul_left, mul-le-mul_right}
use native.Mathlib.Decide.{dec_lt}
use native.Mathlib.Omega.{arith}
use Rattle.taxa.specs.Sets.{◌∈◌, ◌∉◌, ◌⊆◌, ◌∩◌, ◌∪◌, ◌∖◌, count, low}
use Rattle.taxa.proofs.Sums.{sum_≡, sum_+, sum_≤}
use Rattle.taxa.proofs.Members.{in?, in∩, in∖, in∪, ext, empty, in_pow, pow_⊆, ⊆-trans, ∩-⊆, ∩-⊆ʳ, ∖-⊆, ∪-⊆, ⊆-≤, below, low_in, low_≤, low_bound}
use Rattle.taxa.proofs.Counts.{count_le, count_pow, count_⊆, count_<, count_pos, count_tight}
use Rattle.method.specs.Split.{Column, share, Division, division, parted, division_cost, key, side, Rule}
use Rattle.method.proofs.Least.{Least, least_is}
use Rattle.method.proofs.Shares.{submodular, share_rest, division_is, parted_in}

-- ---- the key, taken apart

-- Two numbers of two digits each to the base b.
lex : (b x y r s : ℕ) → r < b → s < b → x * b + r ≤ y * b + s → (x ≤ y) × (x ≡ y → r ≤ s)
lex b x y r s l l' h = (high, λ e. omega (arith, ap (λ (n : ℕ). n * b) e))
  where
    high : x ≤ y
    high = elim (dec_lt y x) [ yes g ↦ absurd (omega (arith, mul-le-mul_right b g, suc-mul y b)) | no g ↦ omega arith ]

module _ (k : ℕ) (μ : ℕ → ℕ) (m : ℕ) (cols : ℕ → Column) (S : ℕ) where
  abbrev cost : ℕ → ℕ
  cost = division_cost k μ m cols S

  abbrev other : ℕ → ℕ
  other = parted k S

  by_key : (A D : ℕ) → key k μ m cols S A ≤ key k μ m cols S D
      → (cost A ≤ cost D) × (cost A ≡ cost D → other A ≤ other D) × (cost A ≡ cost D → other A ≡ other D → count k A ≤ count k D)
  unfolding key
  by_key A D h =
      let b = suc k in
      let x = cost A * b + other A in
      let y = cost D * b + other D in
      let (u, v) = lex b x y (count k A) (count k D) (omega (arith, count_le k A)) (omega (arith, count_le k D)) h in
      let (p, q) = lex b (cost A) (cost D) (other A) (other D) (omega (arith, low_bound k (S ∖ A))) (omega (arith, low_bound k (S ∖ D))) u in
      (p, q, λ e f. v (ap₂ (λ (n t : ℕ). n * b + t) e f))

  cost_submodular : (A D : ℕ) → A ⊆ S → D ⊆ S → cost (A ∩ D) + cost (A ∪ D) ≤ cost A + cost D
  unfolding division_cost
  cost_submodular A D a d =
      omega (arith, sum_+ m (at (A ∩ D)) (at (A ∪ D)), sum_+ m (at A) (at D), sum_≤ m (λ c l. each c))
    where
      at : ℕ → ℕ → ℕ
      at X c = (cols c).weight * share k μ S X (cols c)

      each : (c : ℕ) → at (A ∩ D) c + at (A ∪ D) c ≤ at A c + at D c
      each c =
          let w = (cols c).weight in
          let n : ℕ → ℕ = λ X. share k μ S X (cols c) in
          omega (arith, mul-add w (n (A ∩ D)) (n (A ∪ D)), mul-add w (n A) (n D), mul-le-mul_left w (submodular k μ S (cols c) A D a d))

  -- What document 01 asks of the side A.
  pub record Best (A : ℕ) : Type 0 where
    pub is_division : Division k S A
    pub cheapest : (D : ℕ) → Division k S D → cost A ≤ cost D
    pub nearest : (D : ℕ) → Division k S D → cost A ≡ cost D → other A ≤ other D
    pub smallest : (D : ℕ) → Division k S D → cost A ≡ cost D → other A ≡ other D → A ⊆ D

  -- There is only one such side.
  pub best_only : {A B : ℕ} → Best A → Best B → A ≡ B
  best_only {A} {B} a b = ext (a.smallest B b.is_division c t) (b.smallest A a.is_division (sym c) (sym t))
    where
      c : cost A ≡ cost B
      c = omega (arith, a.cheapest B b.is_division, b.cheapest A a.is_division)

      t : other A ≡ other B
      t = omega (arith, a.nearest B b.is_division c, b.nearest A a.is_division (sym c))

  module _ (fits : S < 2 ^ k) (two : 1 < count k S) where
    some_low : low k S ∈ S
    some_low = low_in k (count_pos k (omega arith)) fits

    -- The lowest taxon alone is a division.
    pub alone : Division k S (2 ^ low k S)
    alone = record { inside = pow_⊆ some_low; lowest = in_pow (low k S); proper = λ e. omega (arith, ap (count k) e, count_pow k (below k fits some_low)) }

    off : {D : ℕ} → Division k S D → other D ∈ S ∖ D
    off d = parted_in k fits d

    pub side_best : Best (side k μ m cols S)
    unfolding side
    side_best = record { is_division = is; cheapest = λ D d. (key_le D d).0; nearest = λ D d. (key_le D d).1; smallest = smallest }
      where
        A : ℕ
        A = side k μ m cols S

        found : Least (division k S) (key k μ m cols S) (2 ^ low k S) S A
        found = least_is (division k S) (key k μ m cols S) (2 ^ low k S) S

        is : Division k S A
        is = (division_is k S A).0 (found.passes ((division_is k S (2 ^ low k S)).1 alone))

        key_le : (D : ℕ) → Division k S D → (cost A ≤ cost D) × (cost A ≡ cost D → other A ≤ other D) × (cost A ≡ cost D → other A ≡ other D → count k A ≤ count k D)
        key_le D d = by_key A D (found.others D (omega (arith, ⊆-≤ d.inside)) ((division_is k S D).1 d))

        -- With D, what A shares with it and what they make together are divisions: they cost as much, and A is no larger than what it shares with D.
        smallest : (D : ℕ) → Division k S D → cost A ≡ cost D → other A ≡ other D → A ⊆ D
        smallest D d e f = subst (λ (X : ℕ). X ⊆ D) (ext (∩-⊆ A D) (record { sub = λ {i} h. all i h (in? i (A ∩ D)) })) (∩-⊆ʳ A D)
          where
            t : other A ∈ S × other A ∉ A
            t = (in∖ S A).0 (off is)

            t∉D : other A ∉ D
            t∉D = subst (λ (i : ℕ). i ∉ D) (sym f) ((in∖ S D).0 (off d)).1

            meet : Division k S (A ∩ D)
            meet = record { inside = ⊆-trans (∩-⊆ A D) is.inside; lowest = (in∩ A D).1 (is.lowest, d.lowest); proper = λ q. t.1 ((∩-⊆ A D).sub (subst (λ (X : ℕ). other A ∈ X) (sym q) t.0)) }

            join : Division k S (A ∪ D)
            join = record { inside = ∪-⊆ is.inside d.inside; lowest = (in∪ A D).1 (inl is.lowest); proper = λ q. ⊎_elim t.1 t∉D ((in∪ A D).0 (subst (λ (X : ℕ). other A ∈ X) (sym q) t.0)) }

            same : cost A ≡ cost (A ∩ D)
            same = omega (arith, cost_submodular A D is.inside d.inside, (key_le (A ∩ D) meet).0, (key_le (A ∪ D) join).0)

            near : other A ≡ other (A ∩ D)
            near = omega (arith, (key_le (A ∩ D) meet).1 same, low_≤ k (omega (arith, ⊆-≤ (∖-⊆ S (A ∩ D)))) ((in∖ S (A ∩ D)).1 (t.0, λ h. t.1 ((∩-⊆ A D).sub h))))

            all : (i : ℕ) → i ∈ A → Dec (i ∈ A ∩ D) → i ∈ A ∩ D
            all i h (yes j) = j
            all i h (no n) = absurd (omega (arith, (key_le (A ∩ D) meet).2 same near, count_< k (∩-⊆ A D) (below k fits (is.inside.sub h)) h n))

    -- No division into two non-empty sides costs less, whichever side is named.
    pub side_cheapest : (D : ℕ) → D ⊆ S → D ≢ 0 → D ≢ S → cost (side k μ m cols S) ≤ cost D
    unfolding division_cost
    side_cheapest D d some proper = go (in? (low k S) D)
      where
        rest_proper : S ∖ D ≢ S
        rest_proper e = some (empty (λ i h. ((in∖ S D).0 (subst (λ (X : ℕ). i ∈ X) (sym e) (d.sub h))).1 h))

        go : Dec (low k S ∈ D) → cost (side k μ m cols S) ≤ cost D
        go (yes h) = side_best.cheapest D (record { inside = d; lowest = h; proper = proper })
        go (no h) =
            let x = side_best.cheapest (S ∖ D) (record { inside = ∖-⊆ S D; lowest = (in∖ S D).1 (some_low, h); proper = rest_proper }) in
            omega (arith, sum_≡ m (λ c b. ap (λ (n : ℕ). (cols c).weight * n) (share_rest k μ S (cols c) D d)))

    -- It is the only division of its key.
    pub key_only : (D : ℕ) → Division k S D → key k μ m cols S D ≡ key k μ m cols S (side k μ m cols S) → D ≡ side k μ m cols S
    key_only D d e =
        let (p, q, r) = by_key (side k μ m cols S) D (omega arith) in
        let (p', q', r') = by_key D (side k μ m cols S) (omega arith) in
        let c : cost (side k μ m cols S) ≡ cost D = omega arith in
        let t : other (side k μ m cols S) ≡ other D = omega (arith, q c, q' (sym c)) in
        sym (count_tight k (omega (arith, ⊆-≤ d.inside)) (side_best.smallest D d c t) (omega (arith, r c t, r' (sym c) (sym t))))

    up_to : (D : ℕ) {i : ℕ} → i ∈ S ∖ D → other D ≤ i
    up_to D h = low_≤ k (omega (arith, ⊆-≤ (∖-⊆ S D))) h

    -- It lies in every division that costs as little and parts the same taxon.
    pub side_inner : (D : ℕ) → Division k S D → cost D ≡ cost (side k μ m cols S) → other (side k μ m cols S) ∈ S ∖ D → side k μ m cols S ⊆ D
    side_inner D d e h = side_best.smallest D d (sym e) (omega (arith, side_best.nearest D d (sym e), up_to D h))

    -- It obeys document 01's rule,
    pub side_rule : Rule k μ m cols S (side k μ m cols S) (other (side k μ m cols S))
    side_rule = record {
      is_division = side_best.is_division;
      cheapest = side_best.cheapest;
      is_parted = off side_best.is_division;
      lowest = λ D i d e h. omega (arith, side_best.nearest D d (sym e), up_to D h);
      fewest = λ D d e h. count_⊆ k (side_inner D d e h);
      only = λ D d e h l.
          let s = side_inner D d e h in
          sym (count_tight k (omega (arith, ⊆-≤ d.inside)) s (omega (arith, count_⊆ k s)));
    }

    -- which names one side and one taxon.
    pub rule_only : {A B t u : ℕ} → Rule k μ m cols S A t → Rule k μ m cols S B u → (A ≡ B) × (t ≡ u)
    rule_only {A} {B} {t} {u} a b = (sym (a.only B b.is_division e (subst (λ (i : ℕ). i ∈ S ∖ B) (sym same) b.is_parted) few), same)
      where
        e : cost B ≡ cost A
        e = omega (arith, a.cheapest B b.is_division, b.cheapest A a.is_division)

        same : t ≡ u
        same = omega (arith, a.lowest B u b.is_division e b.is_parted, b.lowest A t a.is_division (sym e) a.is_parted)

        few : count k B ≤ count k A
        few = b.fewest A a.is_division (sym e) (subst (λ (i : ℕ). i ∈ S ∖ A) same a.is_parted)

    -- What a search for each taxon t of S finds: `size t` is at most the cost of any division that parts t from the lowest taxon. If A has the least size,
    -- first met at t, as its cost, and lies in every division that costs as little and parts t, then A is the split by listing.
    pub record Search (size : ℕ → ℕ) (t A : ℕ) : Type 0 where
      pub is_division : Division k S A
      pub is_parted : t ∈ S ∖ A
      pub found : cost A ≡ size t
      pub weak : (D i : ℕ) → Division k S D → i ∈ S ∖ D → size i ≤ cost D
      pub least : (D i : ℕ) → Division k S D → i ∈ S ∖ D → size t ≤ size i
      pub first : (D i : ℕ) → Division k S D → i ∈ S ∖ D → i < t → size t < size i
      pub inner : (D : ℕ) → Division k S D → t ∈ S ∖ D → cost D ≡ cost A → A ⊆ D

    pub search_side : {size : ℕ → ℕ} {t A : ℕ} → Search size t A → (A ≡ side k μ m cols S) × (t ≡ other A)
    search_side {size} {t} {A} r = (best_only best side_best, at)
      where
        near : (D : ℕ) → Division k S D → cost A ≡ cost D → t ≤ other D
        near D d e = elim (dec_lt (other D) t) [ yes l ↦ absurd (omega (arith, r.first D (other D) d (off d) l, r.weak D (other D) d (off d), r.found)) | no l ↦ omega arith ]

        at : t ≡ other A
        at = omega (arith, near A r.is_division refl, low_≤ k (omega (arith, ⊆-≤ (∖-⊆ S A))) r.is_parted)

        best : Best A
        best = record {
          is_division = r.is_division;
          cheapest = λ D d. omega (arith, r.found, r.least D (other D) d (off d), r.weak D (other D) d (off d));
          nearest = λ D d e. omega (arith, at, near D d e);
          smallest = λ D d e f. r.inner D d (subst (λ (i : ℕ). i ∈ S ∖ D) (sym (at ∙ f)) (off d)) (sym e);
        }
