-- What the functions of the search of a group hand to each other: the network of the group in lists, and what has been tried.
use Rattle.std.specs.Prelude.{◌≡◌, Bool, true, false, cond, List, ◌≢◌, ℕ, ◌+◌, ◌*◌, ◌^◌, ◌≤◌, ◌<◌, ltb, ℤ, length}
use Rattle.taxa.specs.Sum.{sum}
use Rattle.taxa.specs.Sets.{has, all, ◌∩◌, ◌∖◌, mass, count, low, multiplicity_in}
use Rattle.method.specs.Flow.{cut_cost}
use Rattle.search.specs.Search.{nth, Given, DividedByFlow}
use Rattle.search.specs.inner.Network.{caps}

-- For each column below m, the taxa that it joins in S.
pub record Joins (O Z : List ℕ) (S m : ℕ) (J : List ℕ) : Type 0 where
  pub long : length J ≡ 256
  pub is : (c : ℕ) → c < m → nth J c ≡ cond (ltb 0 (count 64 (nth Z c ∩ S))) (nth O c ∩ S) 0

-- For each column below m, what it lets through.
pub record Limits (W P Z : List ℕ) (S m : ℕ) (L : List ℕ) : Type 0 where
  pub long : length L ≡ 320
  pub is : (c : ℕ) → c < m → nth L c ≡ nth W c * mass 64 (multiplicity_in P) (nth Z c ∩ S)

-- What a column of weight w that joins j weighs between taxon u and those of l: w, if it joins u with one of them.
abbrev pub tie : ℕ → ℕ → ℕ → ℕ → ℕ
tie w j l u = cond (has j u) (cond (ltb 0 (j ∩ l)) w 0) 0

-- What all columns weigh there: a set with all of l and without u costs that at least.
abbrev pub ties : List ℕ → List ℕ → ℕ → ℕ → ℕ → ℕ
ties W J m l u = sum m (λ c. tie (nth W c) (nth J c) l u)

-- What the columns that join u weigh.
abbrev pub weighs : List ℕ → List ℕ → ℕ → ℕ → ℕ
weighs W J m u = sum m (λ c. cond (has (nth J c) u) (nth W c) 0)

-- Behind the limits of 256 columns L holds what ties each taxon of S to the lower ones of S, by m columns.
pub record Ties (W J : List ℕ) (m S : ℕ) (L : List ℕ) : Type 0 where
  pub long : length L ≡ 320
  pub ties_at : (u : ℕ) → has S u ≡ true → nth L (256 + u) ≡ ties W J m (S ∩ all u) u

-- With that, B holds what all columns weigh that join it: those that it is the lowest of.
pub record Weighed (W J : List ℕ) (m S : ℕ) (L B : List ℕ) : Type 0 where
  pub long : length B ≡ 256
  pub weighs_at : (u : ℕ) → has S u ≡ true → nth L (256 + u) + nth B u ≡ weighs W J m u

-- The most that a sum may be for one weight more to fit 32 bits.
abbrev pub sum_most : ℕ
sum_most = 4294901760

-- No number of either is above k.
pub record Few (k : ℕ) (L B : List ℕ) : Type 0 where
  pub ties_few : (u : ℕ) → u < 64 → nth L (256 + u) ≤ k
  pub own_few : (u : ℕ) → u < 64 → nth B u ≤ k

-- The limits of the columns are as they were.
pub record SameLimits (L L' : List ℕ) : Type 0 where
  pub long : length L' ≡ 320
  pub same : (c : ℕ) → c < 256 → nth L' c ≡ nth L c

-- The taxa of x are tied by a weight w.
pub record Added (x w : ℕ) (L L' : List ℕ) : Type 0 where
  pub limits : SameLimits L L'
  pub ties_at : (u : ℕ) → u < 64 → nth L' (256 + u) ≡ nth L (256 + u) + cond (has x u) w 0

-- A column of weight w that joins x ties its taxa but the lowest, and is the lowest's own.
pub record ColumnAdded (x w : ℕ) (L L' B B' : List ℕ) : Type 0 where
  pub tied : Added (x ∖ 2 ^ low 64 x) w L L'
  pub long : length B' ≡ 256
  pub own_at : (u : ℕ) → u < 64 → nth B' u + cond (has (x ∖ 2 ^ low 64 x) u) w 0 ≡ nth B u + cond (has x u) w 0

-- What the columns weigh that join some taxon of S but its lowest, times what that stands for, is less than k: to part it alone costs no more than that.
pub record Loose (P L B : List ℕ) (S k : ℕ) : Type 0 where
  pub taxon : ℕ
  pub inside : has S taxon ≡ true
  pub not_lowest : taxon ≢ low 64 S
  pub less : (nth L (256 + taxon) + nth B taxon) * multiplicity_in P taxon < k

-- What a set of taxa cuts of the network in the lists.
abbrev pub costs : List ℕ → List ℕ → List ℕ → List ℕ → ℕ → ℕ → (ℕ → Bool) → ℕ
costs W P J L n m = cut_cost n m (caps W P J) (nth L)

module _ (W P J L : List ℕ) (n m S s : ℕ) where
  -- Some set with s and without taxon b of S costs k.
  pub record Parts (k b : ℕ) : Type 0 where
    pub other : has S b ≡ true
    pub set : ℕ
    pub with_s : has set s ≡ true
    pub off_b : has set b ≡ false
    pub costs_k : k ≡ costs W P J L n m (has set)

  -- No set with s and without a taxon of S below u costs less than k.
  pub record AtLeast (u k : ℕ) : Type 0 where
    pub least : (D : ℕ → Bool) (i : ℕ) → D s ≡ true → D i ≡ false → has S i ≡ true → i < u → k ≤ costs W P J L n m D

  -- k parts taxon b, which is below u, and no taxon below b.
  pub record Met (u k b : ℕ) : Type 0 where
    pub best : Parts k b
    pub below : b < u
    pub first : (D : ℕ → Bool) (i : ℕ) → D s ≡ true → D i ≡ false → has S i ≡ true → i < b → k < costs W P J L n m D

  -- The taxa below u have been tried: k is the least that parts one of them from s, and b the first of those that it parts; or none costs less than the bound,
  -- and b is 64.
  pub record Trying (bound u k b : ℕ) : Type 0 where
    pub tried : AtLeast u k
    pub none : b ≡ 64 → k ≡ bound
    pub met : b ≢ 64 → Met u k b

  -- The same where one was met.
  pub record Tried (u k b : ℕ) : Type 0 where
    pub tried : AtLeast u k
    pub met : Met u k b

-- The lists hold the network of a group: cost k, side A and t divide it, whatever columns it is the network of.
pub record NetworkDivided (W P J L : List ℕ) (n m S : ℕ) (ws : List ℤ) (k t A : ℕ) : Type 0 where
  pub each : (O Z : List ℕ) → Given W P O Z S n m → Joins O Z S m J → Limits W P Z S m L → DividedByFlow W P O Z S n m ws k t A
