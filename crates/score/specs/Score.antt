-- The score (document 01, "Score"; document 000, equations 1 to 3): for each column with a 1 the flips that bring it to one node of the tree.
use Rattle.std.specs.Prelude.{◌≡◌, Bool, ◌||◌, ◌&&◌, cond, List, ℕ, zero, suc, ◌+◌, ◌*◌, ◌^◌, ◌≤◌, ◌<◌, ltb, eqb, get_or}
use Rattle.taxa.specs.Sum.{sum}
use Rattle.taxa.specs.Sets.{◌∩◌, ◌∖◌, mass}
use Rattle.matrix.specs.declared.Column.{Column}

-- Taxon i stands for μ i specimens, and a flip of its entry counts so often (document 02, C-14: "the score follows").
-- Of a column with 0-set Z and 1-set O and a node with cluster X: flips from 0 to 1, "the taxa in both Z and X", ..
abbrev pub raises_at : (ℕ → ℕ) → Column → ℕ → ℕ
raises_at μ c X = mass 64 μ (c.zeros ∩ X)

-- .. and flips from 1 to 0, "the taxa of O outside X".
abbrev pub lowers_at : (ℕ → ℕ) → Column → ℕ → ℕ
lowers_at μ c X = mass 64 μ (c.ones ∖ X)

-- "The distance is [the one] plus [the other], times w" (equation 1).
unfoldable pub distance : (ℕ → ℕ) → Column → ℕ → ℕ
distance μ c X = c.weight * (raises_at μ c X + lowers_at μ c X)

-- The cluster of a leaf.
abbrev pub leaf : ℕ → ℕ
leaf i = 2 ^ i

-- The clusters of a tree with n leaves and the first k of the groups: "leaves included".
pub data Node (n : ℕ) (groups : List ℕ) (k : ℕ) : ℕ → Type 0 where
  at_leaf : (i : ℕ) → i < n → Node n groups k (leaf i)
  at_group : (i : ℕ) → i < k → Node n groups k (get_or groups i 0)

-- "The column's score is the least over all nodes" (equation 2); "among equal ones the node with fewest raises counts".
pub record Counts (μ : ℕ → ℕ) (c : Column) (Node : ℕ → Type 0) (X : ℕ) : Type 0 where
  pub is_node : Node X
  pub least : (Y : ℕ) → Node Y → distance μ c X ≤ distance μ c Y
  pub fewest : (Y : ℕ) → Node Y → distance μ c Y ≡ distance μ c X → raises_at μ c X ≤ raises_at μ c Y

-- The same by going through the nodes: whether X counts before Y, ..
unfoldable pub nearer : (ℕ → ℕ) → Column → ℕ → ℕ → Bool
nearer μ c X Y = ltb (distance μ c X) (distance μ c Y) || (eqb (distance μ c X) (distance μ c Y) && ltb (raises_at μ c X) (raises_at μ c Y))

-- .. the one of two that does, ..
abbrev pub nearest : (ℕ → ℕ) → Column → ℕ → ℕ → ℕ
nearest μ c X best = cond (nearer μ c X best) X best

-- .. and the one of `best` and the clusters 0 to k - 1.
unfoldable pub nearest_in : (ℕ → ℕ) → Column → (ℕ → ℕ) → ℕ → ℕ → ℕ
nearest_in μ c cluster zero best = best
nearest_in μ c cluster (suc k) best = nearest μ c (cluster k) (nearest_in μ c cluster k best)

-- The node that counts for a column, in a tree of n leaves and the first k of the groups.
unfoldable pub node_for : (ℕ → ℕ) → ℕ → List ℕ → ℕ → Column → ℕ
node_for μ n groups k c = nearest_in μ c (λ i. get_or groups i 0) k (nearest_in μ c leaf n (leaf 0))

-- A column's score: the two directions apart.
pub record ColumnScore : Type 0 where
  pub raises : ℕ
  pub lowers : ℕ

-- The score "literally from equations 1 and 2": the flips that bring a column to its node, "each times its weight".
abbrev pub literal_score : (ℕ → ℕ) → Column → ℕ → ColumnScore
literal_score μ c X = record { raises = c.weight * raises_at μ c X; lowers = c.weight * lowers_at μ c X }

-- "A column with an empty 1-set now scores 0 raises and 0 lowers. No other column's score may change" (document 02, C-12).
unfoldable pub column_score : (ℕ → ℕ) → Column → ℕ → ColumnScore
column_score μ c X = cond (eqb c.ones 0) (record { raises = 0; lowers = 0 }) (literal_score μ c X)

-- Raises of a matrix: the sum over its columns (equation 3), each at its node.
unfoldable pub raises_of : (ℕ → ℕ) → (ℕ → Column) → (Column → ℕ) → ℕ → ℕ
raises_of μ column node m = sum m (λ j. (column_score μ (column j) (node (column j))).raises)

-- Lowers, alike.
unfoldable pub lowers_of : (ℕ → ℕ) → (ℕ → Column) → (Column → ℕ) → ℕ → ℕ
lowers_of μ column node m = sum m (λ j. (column_score μ (column j) (node (column j))).lowers)

-- ---- what fits the code's numbers
