-- The columns of trees: "Every inner vertex but the root gives a column", "Trees give columns in file order, vertices in order of their opening bracket".
use Rattle.std.specs.Prelude.{List, [], ◌∷◌, ◌++◌, map, ℕ}
use Rattle.grammar.specs.Trees.{Tree, Trees, leaf, inner, one, then}

-- A name, as the bytes of the file.
abbrev pub Bytes : Type 0
Bytes = List ℕ

-- The names of a tree from left to right.
unfoldable mutual
  pub names : Tree → List Bytes
  names (leaf n) = n ∷ []
  names (inner ts t) = all_names ts ++ names t

  pub all_names : Trees → List Bytes
  all_names (one t) = names t
  all_names (then ts t) = all_names ts ++ names t

-- The clades of a tree's inner vertices, by opening bracket: a vertex stands before those under it.
unfoldable mutual
  pub clades : Tree → List (List Bytes)
  clades (leaf n) = []
  clades (inner ts t) = (all_names ts ++ names t) ∷ (all_clades ts ++ clades t)

  pub all_clades : Trees → List (List Bytes)
  all_clades (one t) = clades t
  all_clades (then ts t) = all_clades ts ++ clades t

-- A column: the names under the vertex, of the names of its tree.
pub record Column : Type 0 where
  pub ones : List Bytes
  pub tree : List Bytes

-- "Every inner vertex but the root", which stands first, "gives a column".
unfoldable pub columns : Tree → List Column
columns (leaf n) = []
columns (inner ts t) = map (λ c. record { ones = c; tree = all_names ts ++ names t }) (all_clades ts ++ clades t)

-- "Trees give columns in file order".
unfoldable pub all_columns : Trees → List Column
all_columns (one t) = columns t
all_columns (then ts t) = all_columns ts ++ columns t
