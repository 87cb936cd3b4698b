-- Taxa, and the limits of document 02: names of 1 to 32 bytes, none twice in a tree, at most 64 names and 256 columns, brackets nested at most 64.
use Rattle.std.specs.Prelude.{◌≡◌, Bool, false, ◌||◌, cond, ℕ, suc, max, ◌≤◌, length}
use mathlib.Core.List.{List, [], ◌∷◌, ◌++◌, Memᴰ}
use Rattle.record.specs.Bytes.{equal}
use Rattle.grammar.specs.Trees.{Tree, Trees, leaf, inner, one, then}
use Rattle.grammar.specs.Columns.{Bytes, names, all_names, all_columns}

-- Whether a name is one of a list.
unfoldable pub is_in : Bytes → List Bytes → Bool
is_in n [] = false
is_in n (m ∷ ms) = equal n m || is_in n ms

-- "Taxa are numbered by first appearance": the names ns, and then each of ms that is new.
unfoldable pub seen : List Bytes → List Bytes → List Bytes
seen ns [] = ns
seen ns (m ∷ ms) = seen (cond (is_in m ns) ns (ns ++ m ∷ [])) ms

-- The taxa of a file of trees.
abbrev pub taxa : Trees → List Bytes
taxa ts = seen [] (all_names ts)

-- The number of a name among taxa, where it is one.
unfoldable pub number : List Bytes → Bytes → ℕ
number [] n = 0
number (m ∷ ms) n = cond (equal n m) 0 (suc (number ms n))

-- Of ms no name stands twice, nor among ns.
pub data Distinct : List Bytes → List Bytes → Type 0 where
  end : {ns : List Bytes} → Distinct ns []
  next : {m : Bytes} {ns ms : List Bytes} → is_in m ns ≡ false → Distinct (ns ++ m ∷ []) ms → Distinct ns (m ∷ ms)

-- How deep the brackets nest.
unfoldable mutual
  pub depth : Tree → ℕ
  depth (leaf n) = 0
  depth (inner ts t) = suc (max (deepest ts) (depth t))

  pub deepest : Trees → ℕ
  deepest (one t) = depth t
  deepest (then ts t) = max (deepest ts) (depth t)

-- No name stands twice in one tree.
pub data Once : Trees → Type 0 where
  first : {t : Tree} → Distinct [] (names t) → Once (one t)
  and : {ts : Trees} {t : Tree} → Once ts → Distinct [] (names t) → Once (then ts t)

-- Trees that break no limit (each name has a byte, or it could not be spelt).
pub record Within (ts : Trees) : Type 0 where
  pub short : (n : Bytes) → Memᴰ n (all_names ts) → length n ≤ 32
  pub once : Once ts
  pub few : length (taxa ts) ≤ 64
  pub columns : length (all_columns ts) ≤ 256
  pub nested : deepest ts ≤ 64
