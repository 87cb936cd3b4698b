-- What people hold: a matrix file, and the answer file that the build leaves, with its groups, its flips and its total. And what the search leaves before
-- it is cleared.
use Rattle.std.specs.Prelude.{◌≡◌, List, ◌↔◌, ℕ, ◌<◌, ◌^◌, ℤ, length, take, Result}
use Rattle.taxa.specs.Sets.{◌∈◌, multiplicity, low, all}
use Rattle.method.specs.Flow.{joined, Flow, Reach, arcs, limits}
use Rattle.method.specs.Split.{Column}
use Rattle.method.specs.Tree.{Group, Flips, Matrix, column, RootedTree, Fits}
use Rattle.answer.specs.declared.Answer.{Answer}
use Rattle.answer.specs.Content.{content_in}
use Rattle.search.specs.Workspace.{outs, inns}
use Rattle.split.specs.Groups.{IsSplit}
use Rattle.tree.specs.Lists as lists
use Rattle.tree.specs.Build.{returned, Builds}
use Rattle.record.specs.declared.refusal.Refusal.{Refusal}
use Rattle.tree.specs.declared.Built.{Built}

-- ---- the flow search

-- The taxa that each column joins in S: their pairs have the places of the workspace (document 02, C-13).
abbrev pub joins : (ℕ → Column) → ℕ → ℕ → ℕ
joins cols S c = joined 64 S (cols c)

-- Of a group S of n taxa, with multiplicities μ, and m columns: "before it is cleared, the workspace holds a flow of the division's cost from s to t, and [..] side A is the
-- taxa still reachable from s past that flow"; cost, side and t are the method's.
pub record FlowStands (n : ℕ) (μ : ℕ → ℕ) (m : ℕ) (cols : ℕ → Column) (S : ℕ) (ws : List ℤ) (cost A t : ℕ) : Type 0 where
  pub flow : Flow n m (arcs n μ m cols S) (limits n μ m cols S) (outs ws (joins cols S)) (inns ws (joins cols S)) (low n S) t cost
  pub reached : (i : ℕ) → i < n → i ∈ A ↔ Reach n m (arcs n μ m cols S) (limits n μ m cols S) (outs ws (joins cols S)) (inns ws (joins cols S)) (low n S) i
  pub is_split : IsSplit μ m cols S cost A t

-- ---- a matrix file and its answer file

-- The build took a matrix file, "success returns 0", and these bytes are what it wrote: as many of its output as the length that it returned.
pub record Leaves (file answer : List ℕ) : Type 0 where
  pub ws : List ℤ
  pub out : List ℕ
  pub r : Result Built Refusal
  pub ws' : List ℤ
  pub out' : List ℕ
  pub builds : Builds file ws out r ws' out'
  pub success : (returned r).number ≡ 0
  pub bytes : answer ≡ take (returned r).size out'

-- The groups of an answer file, each with its split cost.
abbrev pub groups_in : List ℕ → List Group
groups_in answer = let c = content_in answer in lists.first_groups c.taxa c.costs c.groups

-- Its flips.
abbrev pub flips_in : List ℕ → List Flips
flips_in answer = let c = content_in answer in lists.first_flips c.columns c.raised c.lowered c.flips

-- Its total.
abbrev pub total_in : List ℕ → ℕ
total_in answer = (content_in answer).total

-- ---- an answer's value

-- What the type of an answer's value says of each: 63 places for groups and for costs, and a total of 4 bytes.
pub record InWidths (a : Answer) : Type 0 where
  pub taxa_places : length a.taxa ≡ 63
  pub costs_places : length a.costs ≡ 63
  pub total_fits : a.total < 2 ^ 32

-- ---- words of demand 3

-- How many columns a matrix has.
abbrev pub many : Matrix → ℕ
many M = length M.columns

-- Its column of a number.
abbrev pub columns_of : Matrix → ℕ → Column
columns_of M = column M.columns

-- What each of its taxa stands for.
abbrev pub multiplicities_of : Matrix → ℕ → ℕ
multiplicities_of M = multiplicity M.multiplicities

-- The set of its taxa.
abbrev pub known : Matrix → ℕ
known M = all M.taxa

-- "The unfilled matrix fits some rooted tree that way unflipped": its unknowns can be filled so that each column's 1-set is empty or a clade of it.
pub record FitsSomeTree (M : Matrix) : Type 1 where
  pub clade : ℕ → Type 0
  pub tree : RootedTree (known M) clade
  pub fits : Fits clade (many M) (known M) (columns_of M)
