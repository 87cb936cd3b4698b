-- Clades of names: those of a tree, and the groups that they stand for.
use Rattle.std.specs.Prelude.{◌≡◌, ℕ, ◌≤◌, length}
use mathlib.Core.List.{List, Memᴰ}
use Rattle.taxa.specs.Sets.{◌∈◌, ◌⊆◌}
use Rattle.grammar.specs.Text.{Name}
use Rattle.grammar.specs.Trees.{Tree}
use Rattle.grammar.specs.Columns.{Bytes, clades}

-- No two taxa of A have one name.
pub record Differ (name : ℕ → Bytes) (A : ℕ) : Type 0 where
  pub differ : {i j : ℕ} → i ∈ A → j ∈ A → name i ≡ name j → i ≡ j

-- Names for the taxa of A: each is a name of at most 32 bytes, and none has two taxa.
pub record NamesFor (name : ℕ → Bytes) (A : ℕ) : Type 0 where
  pub is_name : {i : ℕ} → i ∈ A → Name (name i)
  pub short : {i : ℕ} → i ∈ A → length (name i) ≤ 32
  pub differ : Differ name A

-- The list has the names of the taxa of S, and no others.
pub record Names (name : ℕ → Bytes) (S : ℕ) (ns : List Bytes) : Type 0 where
  pub has : {i : ℕ} → i ∈ S → Memᴰ (name i) ns
  pub only : {n : Bytes} → Memᴰ n ns → (i : ℕ) × i ∈ S × (n ≡ name i)

-- Two lists have the same names.
pub record SameNames (c d : List Bytes) : Type 0 where
  pub there : {n : Bytes} → Memᴰ n c → Memᴰ n d
  pub back : {n : Bytes} → Memᴰ n d → Memᴰ n c

-- A set of names is a clade of the tree.
abbrev pub IsClade : Tree → List Bytes → Type 0
IsClade t c = (d : List Bytes) × Memᴰ d (clades t) × SameNames c d

-- It is the names of a group.
abbrev pub IsGroup : (ℕ → Bytes) → List ℕ → List Bytes → Type 0
IsGroup name gs c = (G : ℕ) × Memᴰ G gs × Names name G c

-- A list of names is that of a group inside S.
abbrev pub OfGroup : (ℕ → Bytes) → List ℕ → ℕ → List Bytes → Type 0
OfGroup name gs S c = (G : ℕ) × Memᴰ G gs × G ⊆ S × Names name G c

-- A list of clades has that of G.
abbrev pub HasClade : (ℕ → Bytes) → ℕ → List (List Bytes) → Type 0
HasClade name G cs = (c : List Bytes) × Memᴰ c cs × Names name G c
