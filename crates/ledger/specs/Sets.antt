-- Names as sets of taxa: "Taxa are numbered by first appearance" (document 02, C-11), and what a column has, "as source document 001 has it".
use Rattle.std.specs.Prelude.{List, [], ◌∷◌, ℕ, ◌^◌}
use Rattle.taxa.specs.Sets.{◌∪◌, ◌∖◌}
use Rattle.grammar.specs.Columns.{Bytes, Column}
use Rattle.grammar.specs.Limits.{number}

-- The set of the taxa that have these names.
unfoldable pub set_of : List Bytes → List Bytes → ℕ
set_of taxa [] = 0
set_of taxa (n ∷ ns) = 2 ^ number taxa n ∪ set_of taxa ns

-- "Entry '1' indicates that the corresponding taxon is a leaf of the subtree rooted in the inner node",
abbrev pub ones_of : List Bytes → Column → ℕ
ones_of taxa c = set_of taxa c.ones

-- "whereas all other taxa are encoded '0'", but for "taxa that are not part of the input tree".
abbrev pub zeros_of : List Bytes → Column → ℕ
zeros_of taxa c = set_of taxa c.tree ∖ set_of taxa c.ones
