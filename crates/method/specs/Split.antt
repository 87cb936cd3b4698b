-- One split (document 01, "One split"): "Given a group S of at least two taxa and the columns as flipped so far". Sets of taxa are numbers (crate
-- taxa), their taxa below k; taxon i stands for μ i specimens (C-14); the m columns are given by their numbers.
use Rattle.std.specs.Prelude.{◌≡◌, Bool, ◌&&◌, not, cond, ◌≢◌, List, [], ◌∷◌, ℕ, zero, suc, ◌+◌, ◌*◌, ◌^◌, ◌≤◌, ◌<◌, min, leb, ltb, eqb}
use Rattle.taxa.specs.Sum.{sum}
use Rattle.taxa.specs.Sets.{has, ◌∈◌, ◌⊆◌, ◌∩◌, ◌∪◌, ◌∖◌, within, mass, count, low}

-- "weight (2), 1-set (8), 0-set (8)"; "a taxon in neither set is unknown".
pub record Column : Type 0 where
  pub weight : ℕ
  pub ones : ℕ
  pub zeros : ℕ

-- Two columns have the same entry at taxon i.
pub record Same (c d : Column) (i : ℕ) : Type 0 where
  pub ones : has c.ones i ≡ has d.ones i
  pub zeros : has c.zeros i ≡ has d.zeros i

-- A column with its 0s in X raised to 1.
unfoldable pub raise : ℕ → Column → Column
raise X c = record { weight = c.weight; ones = c.ones ∪ (c.zeros ∩ X); zeros = c.zeros ∖ X }

-- A column with its 1s in X lowered to 0.
unfoldable pub lower : ℕ → Column → Column
lower X c = record { weight = c.weight; ones = c.ones ∖ X; zeros = c.zeros ∪ (c.ones ∩ X) }

-- Listing: of the numbers below b that pass a test, the first of least key; d, if none has a lesser key than d.
unfoldable pub least : (ℕ → Bool) → (ℕ → ℕ) → ℕ → ℕ → ℕ
least ok key d zero = d
least ok key d (suc a) = let best = least ok key d a in cond (ok a && ltb (key a) (key best)) a best

-- ---- the division

module _ (k : ℕ) where
  -- The side A of a division of S, that of "s, the lowest taxon of S".
  pub record Division (S A : ℕ) : Type 0 where
    pub inside : A ⊆ S
    pub lowest : low k S ∈ A
    pub proper : A ≢ S

  -- The same as a test.
  unfoldable pub division : ℕ → ℕ → Bool
  division S A = within A S && has A (low k S) && not (eqb A S)

  -- The lowest taxon that a division parts from s.
  abbrev pub parted : ℕ → ℕ → ℕ
  parted S A = low k (S ∖ A)

module _ (k : ℕ) (μ : ℕ → ℕ) where
  -- "a column of weight w with a ones in A, b ones in B and z zeros in S costs w x min(a, b, z)": this is min(a, b, z), and "counts a, b and z become
  -- sums of multiplicities". "A column with no 0 in S is semiuniversal and takes no part": its z is 0.
  unfoldable pub share : ℕ → ℕ → Column → ℕ
  share S A c = min (min (mass k μ (c.ones ∩ A)) (mass k μ (c.ones ∩ (S ∖ A)))) (mass k μ (c.zeros ∩ S))

  module _ (m : ℕ) (cols : ℕ → Column) (S : ℕ) where
    -- "The division costs the sum."
    unfoldable pub division_cost : ℕ → ℕ
    division_cost A = sum m (λ c. (cols c).weight * share S A (cols c))

    -- "Among all least-cost divisions let t be the lowest taxon that any of them parts from s. Among those that part s from t, take the one with the
    -- fewest taxa on the side of s": divisions go by cost, then by t, then by size, as one number, for neither of the last two is above k.
    unfoldable pub key : ℕ → ℕ
    key A = (division_cost A * suc k + parted k S A) * suc k + count k A

    -- The split by listing: the division of least key.
    unfoldable pub side : ℕ
    side = least (division k S) key (2 ^ low k S) S

    -- What the split costs.
    abbrev pub split_cost : ℕ
    split_cost = division_cost side

    -- The rule that these sentences state, for a side A and a taxon t; "there is only one".
    pub record Rule (A t : ℕ) : Type 0 where
      pub is_division : Division k S A
      pub cheapest : (D : ℕ) → Division k S D → division_cost A ≤ division_cost D
      pub is_parted : t ∈ S ∖ A
      pub lowest : (D i : ℕ) → Division k S D → division_cost D ≡ division_cost A → i ∈ S ∖ D → t ≤ i
      pub fewest : (D : ℕ) → Division k S D → division_cost D ≡ division_cost A → t ∈ S ∖ D → count k A ≤ count k D
      pub only : (D : ℕ) → Division k S D → division_cost D ≡ division_cost A → t ∈ S ∖ D → count k D ≤ count k A → D ≡ A

  -- ---- its flips

  -- "if z is at most min(a, b), raise every 0 in S to 1 [..]. Otherwise, if a is at most b, lower its ones in A. Otherwise lower its ones in B."
  -- Where a, b or z is 0, that flips nothing.
  unfoldable pub flip : ℕ → ℕ → Column → Column
  flip S A c =
      let a = mass k μ (c.ones ∩ A) in
      let b = mass k μ (c.ones ∩ (S ∖ A)) in
      let z = mass k μ (c.zeros ∩ S) in
      cond (leb z (min a b)) (raise S c) (cond (leb a b) (lower A c) (lower (S ∖ A) c))

  module _ (m : ℕ) (cols : ℕ → Column) (S : ℕ) where
    -- The columns with the flips of a division made.
    unfoldable pub flipped : ℕ → ℕ → Column
    flipped A c = flip S A (cols c)

    -- Those after the split.
    abbrev pub after : ℕ → Column
    after = flipped (side m cols S)

    -- The split flips the entry of column c at taxon i.
    pub record FlipsAt (c i : ℕ) : Type 0 where
      pub changed : ¬ Same (cols c) (after c) i

-- ---- the parts of what remains

module _ (k m : ℕ) (cols : ℕ → Column) (S : ℕ) where
  -- "taxa joined through a column's ones": column c has a 0 in S, so takes part, and ones at a and at b of S.
  pub record Joins (c a b : ℕ) : Type 0 where
    pub column : c < m
    pub zero_at : ℕ
    pub zero_in : zero_at ∈ S
    pub is_zero : zero_at ∈ (cols c).zeros
    pub from : a ∈ (cols c).ones
    pub to : b ∈ (cols c).ones
    pub to_in : b ∈ S

  -- The taxa that columns lead to from i: its "connected component".
  pub data Linked (i : ℕ) : ℕ → Type 0 where
    start : Linked i i
    step : {a b : ℕ} (c : ℕ) → Linked i a → Joins c a b → Linked i b

module _ (k : ℕ) (μ : ℕ → ℕ) where
  module _ (m : ℕ) (cols : ℕ → Column) (S : ℕ) where
    -- No column that takes part joins A to the rest of S: it has no one in A, or none in the rest.
    unfoldable pub apart : ℕ → Bool
    apart A = eqb (sum m (λ c. share k μ S A (cols c))) 0

    -- The part of taxon i: the least set that has i and is apart from the rest of S.
    unfoldable pub part : ℕ → ℕ
    part i = least (λ A. within A S && has A i && apart A) (λ A. A) S S

    -- The parts of R by lowest taxon: that of R's lowest taxon, then those of what is left. (f bounds their number.)
    unfoldable pub parts_of : ℕ → ℕ → List ℕ
    parts_of zero R = []
    parts_of (suc f) R = elim R [ zero ↦ [] | suc r ↦ let P = part (low k (suc r)) in P ∷ parts_of f (suc r ∖ P) ]

    -- "The parts are the connected components of what remains [..]. There may be more than two."
    unfoldable pub parts : List ℕ
    parts = parts_of k S

  -- The parts that the split hands on.
  abbrev pub split_parts : ℕ → (ℕ → Column) → ℕ → List ℕ
  split_parts m cols S = parts m (after k μ m cols S) S
