-- What the search of a group asks and promises.
use Rattle.std.specs.Prelude.{◌≡◌, true, List, ◌↔◌, ℕ, ◌^◌, ◌≤◌, ◌<◌, ℤ, length, get_or}
use Rattle.taxa.specs.Sets.{has, count, low, Positive, multiplicity_in, Tabled}
use Rattle.method.specs.Split.{Column, division_cost, side, parted}
use Rattle.method.specs.Flow.{joined, cap, through, Flow, Reach}
use Rattle.search.specs.Workspace.{outs, inns}

-- Entry x of a list; past its end, 0.
abbrev pub nth : List ℕ → ℕ → ℕ
nth l x = get_or l x 0

-- The columns whose weights, ones and zeros are in the lists W, O and Z.
unfoldable pub cols_of : List ℕ → List ℕ → List ℕ → ℕ → Column
cols_of W O Z c = record { weight = nth W c; ones = nth O c; zeros = nth Z c }

-- m columns, a group S of at least two of n taxa, and multiplicities of which none is 0, with their table.
pub record Given (W P O Z : List ℕ) (S n m : ℕ) : Type 0 where
  pub taxa : n ≤ 64
  pub columns : m ≤ 256
  pub weights : m ≤ length W
  pub ones : m ≤ length O
  pub zeros : m ≤ length Z
  pub group : S < 2 ^ n
  pub two : 1 < count n S
  pub positive : Positive (multiplicity_in P)
  pub tabled : Tabled P

module _ (W P O Z : List ℕ) (S n m : ℕ) where
  -- "Arcs between a taxon of S and its columns [..] carry at most w", times the taxon's multiplicity.
  abbrev pub caps_of : ℕ → ℕ → ℕ
  caps_of c = cap n (multiplicity_in P) S (cols_of W O Z c)

  -- "The arc through a column at most w x z".
  abbrev pub through_of : ℕ → ℕ
  through_of c = through n (multiplicity_in P) S (cols_of W O Z c)

  -- The taxa that each column joins in S.
  abbrev pub joins_of : ℕ → ℕ
  joins_of c = joined 64 S (cols_of W O Z c)

  -- "before it is cleared, the workspace holds a flow of the division's cost from s to t, and side A is the taxa still reachable from s past that
  -- flow"; and cost, A and t are what listing every division gives.
  pub record DividedByFlow (ws : List ℤ) (k t A : ℕ) : Type 0 where
    pub flow : Flow n m caps_of through_of (outs ws joins_of) (inns ws joins_of) (low n S) t k
    pub reached : (i : ℕ) → i < n → has A i ≡ true ↔ Reach n m caps_of through_of (outs ws joins_of) (inns ws joins_of) (low n S) i
    pub is_side : A ≡ side n (multiplicity_in P) m (cols_of W O Z) S
    pub is_cost : k ≡ division_cost n (multiplicity_in P) m (cols_of W O Z) S A
    pub is_parted : t ≡ parted n S A
