-- Room in the parallel lists that hold groups and flips, and what is asked of their entries.
use Rattle.std.specs.Prelude.{◌≡◌, Bool, ◌&&◌, List, ℕ, ◌≤◌, eqb, length, get_or}
use Rattle.taxa.specs.Sets.{low}
use Rattle.method.specs.Split.{Column}
use Rattle.method.specs.Tree.{Group}

-- Two lists have room for k groups.
pub record Room (k : ℕ) (taxa costs : List ℕ) : Type 0 where
  pub taxa_room : k ≤ length taxa
  pub costs_room : k ≤ length costs

-- Whether a group's lowest taxon is i.
abbrev pub starts_at : ℕ → Group → Bool
starts_at i g = eqb (low 64 g.taxa) i

-- Three lists have room for k flips.
pub record FlipRoom (k : ℕ) (columns raised lowered : List ℕ) : Type 0 where
  pub columns_room : k ≤ length columns
  pub raised_room : k ≤ length raised
  pub lowered_room : k ≤ length lowered

-- Two lists have the same entries from place k on.
pub record SameFrom (k : ℕ) (xs ys : List ℕ) : Type 0 where
  pub same : (i : ℕ) → k ≤ i → get_or ys i 0 ≡ get_or xs i 0

-- Columns by their 1-sets and 0-sets; the flip list asks for nothing else.
abbrev pub unweighed : List ℕ → List ℕ → ℕ → Column
unweighed ones zeros c = record { weight = 0; ones = get_or ones c 0; zeros = get_or zeros c 0 }

-- Whether a column has no flip.
abbrev pub unflipped : ℕ → ℕ → Bool
unflipped raised lowered = eqb raised 0 && eqb lowered 0
