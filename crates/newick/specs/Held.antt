-- What people hold: a text of source trees, and the matrix file and the name list that reading leaves.
use Rattle.std.specs.Prelude.{◌≡◌, ◌↔◌, ◌⊎◌, ℕ, ◌≤◌, ◌<◌, length, take, Result}
use mathlib.Core.List.{List, Memᴰ}
use Rattle.taxa.specs.Sets.{◌∈◌, ◌∉◌}
use Rattle.record.specs.declared.refusal.Refusal.{Refusal}
use Rattle.grammar.specs.Trees.{Trees}
use Rattle.grammar.specs.Text.{Newick}
use Rattle.grammar.specs.Columns.{Bytes, Column, all_columns}
use Rattle.grammar.specs.Limits.{taxa, Within}
use Rattle.matrix.specs.Matrix.{Matrix, file_of}
use Rattle.matrix.specs.declared.Column as matrix
use Rattle.names.specs.Names.{list_of}
use Rattle.newick.specs.Read.{matrix_for, returned, Reads}
use Rattle.newick.specs.declared.Derived.{Derived}

-- The source trees of a text: it spells them, and they are within the limits.
pub record SourceTrees (text : List ℕ) (ts : Trees) : Type 0 where
  pub spelt : Newick text ts
  pub within : Within ts

-- The matrix of source trees: their taxa, their columns.
abbrev pub matrix_of_trees : Trees → Matrix
matrix_of_trees ts = matrix_for (taxa ts) (all_columns ts)

-- How many bytes its file has.
abbrev pub matrix_room : Trees → ℕ
matrix_room ts = length (file_of (matrix_of_trees ts))

-- How many bytes the list of their names has.
abbrev pub names_room : Trees → ℕ
names_room ts = length (list_of (taxa ts))

-- Outputs of these lengths, for the matrix and for the names, have room for both.
abbrev pub Fit : Trees → ℕ → ℕ → Type 0
Fit ts room space = (matrix_room ts ≤ room) × (names_room ts ≤ space)

-- One of them is "shorter than what goes into it".
abbrev pub Short : Trees → ℕ → ℕ → Type 0
Short ts room space = (room < matrix_room ts) ⊎ (space < names_room ts)

-- Reading took a text, "success returns 0", and these bytes are what it wrote: as many of each output as the length that it returned.
pub record Leaves (text matrix names : List ℕ) : Type 0 where
  pub matrix_output : List ℕ
  pub names_output : List ℕ
  pub r : Result Derived Refusal
  pub matrix_output' : List ℕ
  pub names_output' : List ℕ
  pub reads : Reads text matrix_output names_output r matrix_output' names_output'
  pub success : (returned r).number ≡ 0
  pub matrix_bytes : matrix ≡ take (returned r).matrix matrix_output'
  pub names_bytes : names ≡ take (returned r).names names_output'

-- What column c says of taxon i, by its name and by the vertex that gave the column, "as source document 001 has it".
pub record Encodes (i : ℕ) (name : Bytes) (c : matrix.Column) (vertex : Column) : Type 0 where
  -- "Entry '1' indicates that the corresponding taxon is a leaf of the subtree rooted in the inner node,
  pub one : i ∈ c.ones ↔ Memᴰ name vertex.ones
  -- whereas all other taxa are encoded '0'.
  pub zero : i ∈ c.zeros ↔ (Memᴰ name vertex.tree × (Memᴰ name vertex.ones → ⊥))
  -- The state of taxa that are not part of the input tree is unknown".
  pub unknown : (i ∉ c.ones × i ∉ c.zeros) ↔ (Memᴰ name vertex.tree → ⊥)
