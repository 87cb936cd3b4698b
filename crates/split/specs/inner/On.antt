-- What the files beside this one say of lists, said of a `Loaded` matrix.
use Rattle.std.specs.Prelude.{◌≡◌, List, ℕ, length, take}
use Rattle.taxa.specs.Sets.{multiplicity, multiplicity_in, Tabled}
use Rattle.method.specs.Split.{Column}
use Rattle.method.specs.Flow.{arc_count}
use Rattle.method.specs.Tree as method
use Rattle.search.specs.Search as search
use Rattle.search.specs.Search.{cols_of}
use Rattle.split.specs.Columns.{matrix_in}
use Rattle.split.specs.declared.loaded.Loaded.{Loaded}
use Rattle.split.specs.inner.Handing as handing

-- The weights of its columns, and as many entries of a list.
abbrev pub weights : Loaded → List ℕ
weights x = take x.m x.weights

abbrev pub entries : Loaded → List ℕ → List ℕ
entries x xs = take x.m xs

-- Its columns, and what each taxon stands for.
abbrev pub columns : Loaded → ℕ → Column
columns x = cols_of (weights x) (entries x x.ones) (entries x x.zeros)

abbrev pub multiplicities : Loaded → ℕ → ℕ
multiplicities x = multiplicity_in x.planes

-- How many arcs the network of a group has.
abbrev pub arcs : Loaded → ℕ → ℕ
arcs x S = arc_count (length (weights x)) (columns x) S

-- A group of at least two of its taxa, to be divided.
abbrev pub Given : Loaded → ℕ → Type 0
Given x S = search.Given (weights x) x.planes (entries x x.ones) (entries x x.zeros) S x.n (length (weights x))

-- An entry for each column in the lists of ones and zeros, as they became.
abbrev pub Parallel : Loaded → Loaded → Type 0
Parallel x y = handing.Parallel (weights x) (entries x y.ones) (entries x y.zeros)

-- Nothing but ones and zeros may have changed.
pub record Kept (x y : Loaded) : Type 0 where
  pub planes : y.planes ≡ x.planes
  pub weights : y.weights ≡ x.weights
  pub taxa : y.n ≡ x.n
  pub columns : y.m ≡ x.m

-- The columns are those of y after the split of S, and the first places of a list its parts, which are `number`.
abbrev pub HandsOn : Loaded → Loaded → ℕ → List ℕ → List ℕ → ℕ → ℕ → Type 0
HandsOn x y S list list' cost number =
    handing.HandsOn (weights x) x.planes (entries x x.ones) (entries x x.zeros) (entries x y.ones) (entries x y.zeros) S list list' cost number

-- The n taxa and m columns of a file stand in it.
pub record Holds (file : List ℕ) (n m : ℕ) (x : Loaded) : Type 0 where
  pub taxa_are : x.n ≡ n
  pub columns_are : x.m ≡ m
  pub sized : length (weights x) ≡ m
  pub parallel : Parallel x x
  pub is : columns x ≡ method.column (matrix_in file).columns
  pub stand_for : multiplicities x ≡ multiplicity (matrix_in file).multiplicities
  pub tabled : Tabled x.planes
