-- Flows (document 01, "The network of document 001"). A net flow between a taxon and a column is `out - inn`: `out` units into the column or `inn`
-- units out of it, never both, so that -w to w is: each at most w (C-14: w times the taxon's multiplicity). And what a flow search finds.
use Rattle.std.specs.Prelude.{ℕ, ◌+◌, ◌*◌, ◌≤◌, ◌<◌, min, ◌≡◌, Bool, cond, ◌≢◌, ◌↔◌, ◌⊎◌, ltb}
use Rattle.taxa.specs.Sum.{sum, inside, outside}
use Rattle.taxa.specs.Sets.{has, ◌∈◌, ◌⊆◌, ◌∩◌, mass, count, sizes, low}
use Rattle.method.specs.Split.{Column, parted, division_cost, side, split_cost}

-- ---- the network of a group

module _ (k S : ℕ) where
  -- "arcs between a taxon of S and its columns, the participating ones with a 1 there": the taxa that have an arc to a column.
  unfoldable pub joined : Column → ℕ
  joined c = cond (ltb 0 (count k (c.zeros ∩ S))) (c.ones ∩ S) 0

-- How many arcs of that kind there are in S: a flow takes a number for each (document 02, C-13).
unfoldable pub arc_count : ℕ → (ℕ → Column) → ℕ → ℕ
arc_count m cols S = sizes m (λ c. joined 64 S (cols c))

module _ (k : ℕ) (μ : ℕ → ℕ) (S : ℕ) where
  -- They "carry at most w", and an entry's arc "weighs the column's weight times the taxon's multiplicity"; "every other pair of taxon and column
  -- carries none".
  unfoldable pub cap : Column → ℕ → ℕ
  cap c = inside (has (joined k S c)) (λ i. c.weight * μ i)

  -- "the arc through a column at most w x z".
  unfoldable pub through : Column → ℕ
  through c = c.weight * mass k μ (c.zeros ∩ S)

-- ---- one column of a network: of each taxon i below n, cap i is what its arc carries, and thr what the column lets through

module _ (n : ℕ) (cap : ℕ → ℕ) (thr : ℕ) (out inn : ℕ → ℕ) where
  -- "It is between -w and w", times the multiplicity. "In a flow the net flows balance at every column [..], and a column's positive ones sum to at most w x z".
  pub record ColumnFlow : Type 0 where
    pub out_fits : (i : ℕ) → i < n → out i ≤ cap i
    pub inn_fits : (i : ℕ) → i < n → inn i ≤ cap i
    pub one_way : (i : ℕ) → i < n → min (out i) (inn i) ≡ 0
    pub balance : sum n out ≡ sum n inn
    pub limit : sum n out ≤ thr

  -- A unit that runs from taxon i to taxon j turns one back at i or at j, or the column lets it through.
  abbrev pub Turns : ℕ → ℕ → Type 0
  Turns i j = (0 < inn i) ⊎ (0 < out j) ⊎ (sum n out < thr)

  -- A hop: one more unit can run from taxon i through the column to taxon j. There is room at both.
  pub record Hop (i j : ℕ) : Type 0 where
    pub up : out i < cap i
    pub down : inn j < cap j
    pub turn : Turns i j

-- What a set A of taxa cuts of a column: the least of what A can send into it, what the others can take, and what it lets through.
abbrev pub cut : ℕ → (ℕ → ℕ) → ℕ → (ℕ → Bool) → ℕ
cut n cap thr A = min (sum n (inside A cap)) (min (sum n (outside A cap)) thr)

-- ---- n taxa and m columns

module _ (n m : ℕ) (cap : ℕ → ℕ → ℕ) (thr : ℕ → ℕ) where
  -- What a set A of taxa cuts of all columns.
  abbrev pub cut_cost : (ℕ → Bool) → ℕ
  cut_cost A = sum m (λ c. cut n (cap c) (thr c) A)

  module _ (out inn : ℕ → ℕ → ℕ) where
    -- A flow from s to t: the net flows balance "at every taxon but s and t", and "its size is the net flow out of s".
    pub record Flow (s t size : ℕ) : Type 0 where
      pub column : (c : ℕ) → c < m → ColumnFlow n (cap c) (thr c) (out c) (inn c)
      pub through : (i : ℕ) → i < n → i ≢ s → i ≢ t → sum m (λ c. out c i) ≡ sum m (λ c. inn c i)
      pub source : sum m (λ c. out c s) ≡ size + sum m (λ c. inn c s)

    -- The hops through column c.
    abbrev pub Via : ℕ → ℕ → ℕ → Type 0
    Via c = Hop n (cap c) (thr c) (out c) (inn c)

    -- "the taxa still reachable from s past that flow": those that hops lead to.
    pub data Reach (s : ℕ) : ℕ → Type 0 where
      start : Reach s s
      step : {i j : ℕ} (c : ℕ) → Reach s i → c < m → j < n → Via c i j → Reach s j

  -- A largest flow from s to t.
  pub record Largest (out inn : ℕ → ℕ → ℕ) (s t size : ℕ) : Type 0 where
    pub flow : Flow out inn s t size
    pub most : (out' inn' : ℕ → ℕ → ℕ) (size' : ℕ) → Flow out' inn' s t size' → size' ≤ size

-- ---- the flow search for the split of S

module _ (k : ℕ) (μ : ℕ → ℕ) (m : ℕ) (cols : ℕ → Column) (S : ℕ) where
  -- What the arcs of the network of S carry.
  abbrev pub arcs : ℕ → ℕ → ℕ
  arcs c = cap k μ S (cols c)

  -- What its columns let through.
  abbrev pub limits : ℕ → ℕ
  limits c = through k μ S (cols c)

  -- What a flow search finds: of largest flows from s, "the lowest taxon of S", to each other taxon of S, the least, first met at t; and as side A
  -- "the taxa still reachable from s past that flow".
  pub record FlowSearch (t A : ℕ) : Type 0 where
    pub size : ℕ → ℕ
    pub out : ℕ → ℕ → ℕ → ℕ
    pub inn : ℕ → ℕ → ℕ → ℕ
    pub largest : (i : ℕ) → i ∈ S → i ≢ low k S → Largest k m arcs limits (out i) (inn i) (low k S) i (size i)
    pub target : t ∈ S
    pub other : t ≢ low k S
    pub least : (i : ℕ) → i ∈ S → i ≢ low k S → size t ≤ size i
    pub first : (i : ℕ) → i ∈ S → i ≢ low k S → i < t → size t < size i
    pub reached : (i : ℕ) → i ∈ A ↔ Reach k m arcs limits (out t) (inn t) (low k S) i

  -- What is promised of the split of S: no division into two non-empty sides costs less, a flow of exactly that size exists between s and the taxon t
  -- that the split names, and a flow search finds the same division as listing: it finds one, and only that.
  pub record SplitPromise : Type 0 where
    pub cheapest : (A : ℕ) → A ⊆ S → A ≢ 0 → A ≢ S → split_cost k μ m cols S ≤ division_cost k μ m cols S A
    pub out : ℕ → ℕ → ℕ
    pub inn : ℕ → ℕ → ℕ
    pub flow : Flow k m arcs limits out inn (low k S) (parted k S (side k μ m cols S)) (split_cost k μ m cols S)
    pub found : FlowSearch (parted k S (side k μ m cols S)) (side k μ m cols S)
    pub only : {t A : ℕ} → FlowSearch t A → (t ≡ parted k S (side k μ m cols S)) × (A ≡ side k μ m cols S)
