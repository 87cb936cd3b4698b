-- Choices of flips (document 02, C-23): "the least weight of flips, over all choices of flips, that lets every column be filled to a clade of that tree
-- or to nothing".
use Rattle.std.specs.Prelude.{◌≡◌, ℕ, ◌*◌, ◌≤◌, ◌<◌}
use Rattle.taxa.specs.Sum.{sum}
use Rattle.taxa.specs.Sets.{◌⊆◌, ◌∩◌, ◌∪◌, ◌∖◌, mass}
use Rattle.method.specs.Split.{Column}
use Rattle.method.specs.Tree.{Fits}

-- A choice of flips: any set of known entries of m columns, as the set of taxa that it has in each.
pub record Choice (m : ℕ) (cols : ℕ → Column) (chosen : ℕ → ℕ) : Type 0 where
  pub known : (c : ℕ) → c < m → chosen c ⊆ (cols c).ones ∪ (cols c).zeros

-- A column with its entries at the taxa of X flipped: its 1s there are 0s now, and its 0s there are 1s.
unfoldable pub turned : ℕ → Column → Column
turned X c = record { weight = c.weight; ones = (c.ones ∖ X) ∪ (c.zeros ∩ X); zeros = (c.zeros ∖ X) ∪ (c.ones ∩ X) }

-- The columns with the flips of a choice made.
abbrev pub turned_by : (ℕ → ℕ) → (ℕ → Column) → ℕ → Column
turned_by chosen cols c = turned (chosen c) (cols c)

module _ (k : ℕ) (μ : ℕ → ℕ) (m : ℕ) (cols : ℕ → Column) where
  -- What a choice weighs: an entry's flip "the column's weight times the taxon's multiplicity".
  unfoldable pub choice_weight : (ℕ → ℕ) → ℕ
  choice_weight chosen = sum m (λ c. (cols c).weight * mass k μ (chosen c))

  -- After the flips of a choice the unknowns can be filled so that each column's 1-set in X is empty or a clade.
  pub record LetsFill (clade : ℕ → Type 0) (X : ℕ) (chosen : ℕ → ℕ) : Type 0 where
    pub choice : Choice m cols chosen
    pub fits : Fits clade m X (turned_by chosen cols)

  -- w is the least weight of such a choice: one weighs that much, and none weighs less.
  pub record LeastWeight (clade : ℕ → Type 0) (X w : ℕ) : Type 0 where
    pub best : ℕ → ℕ
    pub lets : LetsFill clade X best
    pub weighs : choice_weight best ≡ w
    pub least : (chosen : ℕ → ℕ) → LetsFill clade X chosen → w ≤ choice_weight chosen
