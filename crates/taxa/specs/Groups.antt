-- Groups of taxa in an answer file, two at a time (document 01, "Records").
use Rattle.std.specs.Prelude.{◌≡◌, ◌⊎◌, ℕ, ◌<◌}
use Rattle.taxa.specs.Sets.{◌⊆◌, Disjoint, count, low}

-- "Any two are nested or disjoint": x and y are.
abbrev pub NestedOrDisjoint : ℕ → ℕ → Type 0
NestedOrDisjoint x y = x ⊆ y ⊎ (y ⊆ x ⊎ Disjoint x y)

-- "They stand by lowest taxon, larger first where that is equal": x, of taxa below k, stands before y.
pub data Before (k x y : ℕ) : Type 0 where
  sooner : low k x < low k y → Before k x y
  larger : low k x ≡ low k y → count k y < count k x → Before k x y
