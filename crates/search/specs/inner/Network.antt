-- The network of a group in lists: W, J and L hold each column's weight, the taxa that it joins, and what it lets through; F where its places in the
-- workspace start (document 02, C-13), and U what runs through it. P holds the multiplicities of the taxa (document 02, C-14).
use Rattle.std.specs.Prelude.{◌≡◌, true, cond, List, ◌≢◌, ℕ, ◌+◌, ◌*◌, ◌^◌, ◌≤◌, ◌<◌, ℤ, length}
use Rattle.taxa.specs.Sum.{sum}
use Rattle.taxa.specs.Sets.{has, sizes, Positive, multiplicity_in, Tabled}
use Rattle.method.specs.Flow.{ColumnFlow}
use Rattle.search.specs.Workspace.{slot, outs, inns}
use Rattle.search.specs.Search.{nth}

-- What an arc between column c and taxon i carries: "the column's weight times the taxon's multiplicity".
abbrev pub arc : List ℕ → List ℕ → ℕ → ℕ → ℕ
arc W P c i = nth W c * multiplicity_in P i

-- The most that one carries, and the most that 256 of them do: a multiplicity is at most 127.
abbrev pub arc_most : ℕ
arc_most = 8322945

abbrev pub flow_most : ℕ
flow_most = 2130673920

-- The most that 256 columns weigh.
abbrev pub weight_most : ℕ
weight_most = 16776960

-- What runs at most between column c and taxon i, either way.
unfoldable pub caps : List ℕ → List ℕ → List ℕ → ℕ → ℕ → ℕ
caps W P J c i = cond (has (nth J c) i) (arc W P c i) 0

-- F holds the offset of each column below m, and after them how many numbers all of them take.
pub record Offsets (J F : List ℕ) (m : ℕ) : Type 0 where
  pub long : length F ≡ 257
  pub is : (c : ℕ) → c ≤ m → nth F c ≡ sizes c (nth J)

-- The pair of column c and taxon i is joined and has its place.
pub record Pair (J F : List ℕ) (ws : List ℤ) (c i : ℕ) : Type 0 where
  pub column : c < 256
  pub taxon : i < 64
  pub joins : has (nth J c) i ≡ true
  pub offsets : length F ≡ 257
  pub offset : nth F c ≡ sizes c (nth J)
  pub place : slot (nth J) c i < length ws

-- Another d from taxon i to taxon j through column c: what it asks.
pub record CanHop (J F : List ℕ) (ws : List ℤ) (c i j d : ℕ) : Type 0 where
  pub from : Pair J F ws c i
  pub to : Pair J F ws c j
  pub apart : i ≢ j
  pub out : outs ws (nth J) c i + d < 2 ^ 31
  pub inn : inns ws (nth J) c j + d < 2 ^ 31

-- Nothing is counted in the columns below m.
pub record Unused (U : List ℕ) (m : ℕ) : Type 0 where
  pub long : length U ≡ 256
  pub is : (c : ℕ) → c < m → nth U c ≡ 0

-- What the search asks of these lists.
pub record Net (W P J L F : List ℕ) (n m : ℕ) : Type 0 where
  pub taxa : n ≤ 64
  pub columns : m ≤ 256
  pub offsets : Offsets J F m
  pub weights : m ≤ length W
  pub positive : Positive (multiplicity_in P)
  pub tabled : Tabled P
  pub light : (c : ℕ) → c < m → nth W c < 65536
  pub low : (c : ℕ) → c < m → (i : ℕ) → has (nth J c) i ≡ true → i < n
  pub wide : (c : ℕ) → c < m → (i : ℕ) → has (nth J c) i ≡ true → nth W c ≤ nth L c

-- The net flows of the workspace balance at every column and keep its limits; U counts them.
pub record Ready (W P J L F : List ℕ) (n m : ℕ) (ws : List ℤ) (U : List ℕ) : Type 0 where
  pub net : Net W P J L F n m
  pub places : sizes m (nth J) ≤ length ws
  pub counts : length U ≡ 256
  pub column : (c : ℕ) → c < m → ColumnFlow n (caps W P J c) (nth L c) (outs ws (nth J) c) (inns ws (nth J) c)
  pub sums : (c : ℕ) → c < m → nth U c ≡ sum n (outs ws (nth J) c)
