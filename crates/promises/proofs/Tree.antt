-- Demand 3, sentence by sentence, of the answer file that the build leaves of a matrix file: "For every accepted matrix, at every group of two or more taxa
-- in the tree, with the columns as flipped up to there", and "over the whole tree".
use mathlib.Core.Path.{◌≡◌, sym, ap, ◌∙◌, subst}
use mathlib.Core.Logic.{◌≢◌}
use mathlib.Core.List.{List, [], Memᴰ}
use Prim.Native.Nat.{ℕ, ◌≤◌, ◌<◌}
use Rattle.taxa.specs.Sets.{◌⊆◌, low}
use Rattle.record.specs.Bytes.{File}
use Rattle.method.specs.Split.{Column, Rule, side, parted, division_cost, split_cost, after, split_parts}
use Rattle.method.specs.Tree.{Group, Flips, Matrix, answer, total, ComesTo, Components, made, weighed_flips, Clade, Filled, RootedTree}
use Rattle.method.specs.Flow.{Flow, arcs, limits, FlowSearch}
use Rattle.method.proofs.Promises as method
use Rattle.split.specs.Columns.{matrix_in}
use Rattle.promises.specs.Held.{Leaves, groups_in, flips_in, total_in, many, columns_of, multiplicities_of, known, FitsSomeTree}
use Rattle.promises.proofs.Answers.{sound, groups_are, flips_are, total_is}

module _ {file answerFile : List ℕ} (f : File file) (b : Leaves file answerFile) where
  abbrev M : Matrix
  M = matrix_in file

  abbrev μ : ℕ → ℕ
  μ = multiplicities_of M

  abbrev gs : List Group
  gs = groups_in answerFile

  abbrev fs : List Flips
  fs = flips_in answerFile

  in_method : {g : Group} → Memᴰ g gs → Memᴰ g (answer M).groups
  in_method {g} l = subst (λ (x : List Group). Memᴰ g x) (groups_are f b) l

  in_file_lem : {g : Group} → Memᴰ g (answer M).groups → Memᴰ g gs
  in_file_lem {g} l = subst (λ (x : List Group). Memᴰ g x) (sym (groups_are f b)) l

  -- ---- "at every group of two or more taxa in the tree, with the columns as flipped up to there"

  -- To each group of the answer file the build comes, with some columns, and with no others.
  pub group_comes : {g : Group} → Memᴰ g gs → (cols : ℕ → Column) × ComesTo M cols g.taxa × ((cols' : ℕ → Column) → ComesTo M cols' g.taxa → cols' ≡ cols)
  group_comes l = let (cols, r, e) = method.group_reached M (sound f b) (in_method l) in (cols, r, λ cols' q. method.group_columns M (sound f b) q r)

  -- Each group that the build comes to is one of the answer file, with what its split costs there.
  pub comes_listed : {cols : ℕ → Column} {S : ℕ} → ComesTo M cols S → Memᴰ (record { taxa = S; cost = split_cost 64 μ (many M) cols S }) gs
  comes_listed r = in_file_lem (method.reached_group M (sound f b) r)

  module _ {g : Group} (l : Memᴰ g gs) {cols : ℕ → Column} (r : ComesTo M cols g.taxa) where
    abbrev S : ℕ
    S = g.taxa

    abbrev A : ℕ
    A = side 64 μ (many M) cols S

    abbrev t : ℕ
    t = parted 64 S A

    -- The cost in the answer file is that of the division used, whose side is A.
    pub cost_used : g.cost ≡ division_cost 64 μ (many M) cols S A
    cost_used =
        let (cols₀, q, e) = method.group_reached M (sound f b) (in_method l) in
        e ∙ ap (λ (x : ℕ → Column). split_cost 64 μ (many M) x S) (method.group_columns M (sound f b) q r)

    -- "no division of that group into two non-empty sides costs less than the one used"
    pub no_division_costs_less : (D : ℕ) → D ⊆ S → D ≢ 0 → D ≢ S → g.cost ≤ division_cost 64 μ (many M) cols S D
    no_division_costs_less = rw cost_used (method.group_cheapest M (sound f b) r)

    -- "a flow of exactly that size exists between the two named taxa within document 01's bounds"
    pub flow_of_that_size : (out : ℕ → ℕ → ℕ) × (inn : ℕ → ℕ → ℕ) × Flow 64 (many M) (arcs 64 μ (many M) cols S) (limits 64 μ (many M) cols S) out inn (low 64 S) t g.cost
    flow_of_that_size = rw cost_used (method.group_flow M (sound f b) r)

    -- "the flow search names the same division as listing all of them would": A and t are those of the listing by document 01's rule, a flow search
    -- finds them, and it finds no others.
    pub search_names_the_listed : Rule 64 μ (many M) cols S A t × FlowSearch 64 μ (many M) cols S t A × ((t' A' : ℕ) → FlowSearch 64 μ (many M) cols S t' A' → (t' ≡ t) × (A' ≡ A))
    search_names_the_listed = let (found, only) = method.group_search M (sound f b) r in (method.group_rule M (sound f b) r, found, only)

    -- Its parts are "the connected components of what remains".
    pub parts_are_components : Components 64 (many M) (after 64 μ (many M) cols S) S A (split_parts 64 μ (many M) cols S)
    parts_are_components = method.group_parts M (sound f b) r

  -- ---- "Over the whole tree the weighed flips add up to the split costs."

  pub total_is_costs : total_in answerFile ≡ total gs
  unfolding answer
  total_is_costs = total_is f b ∙ ap total (sym (groups_are f b))

  pub weighed_flips_are_costs : weighed_flips 64 μ (columns_of M) fs ≡ total gs
  weighed_flips_are_costs =
      ap (weighed_flips 64 μ (columns_of M)) (flips_are f b) ∙ sym (method.total_flips M (sound f b)) ∙ sym (total_is f b) ∙ total_is_costs

  -- ---- "After the flips the unknowns can be filled so that each column's 1-set is empty or a clade of the tree."

  pub filled_to_clades : (c : ℕ) → c < many M → Filled (Clade (known M) gs) (known M) (made fs (columns_of M) c)
  filled_to_clades = rw (groups_are f b, flips_are f b) (method.answer_filled M (sound f b))

  pub clades_are_a_tree : RootedTree (known M) (Clade (known M) gs)
  clades_are_a_tree = rw (groups_are f b) (method.answer_tree M (sound f b))

  -- ---- "The flip list is empty exactly when the unfilled matrix fits some rooted tree that way unflipped."

  pub no_flips_exactly_when_fits : (fs ≡ [] → FitsSomeTree M) × (FitsSomeTree M → fs ≡ [])
  no_flips_exactly_when_fits = (fits, λ x. flips_are f b ∙ method.fits_no_flips M (sound f b) x.tree x.fits)
    where
      -- The answer's own tree.
      fits : fs ≡ [] → FitsSomeTree M
      fits e = let (tree, each) = method.no_flips_fits M (sound f b) (sym (flips_are f b) ∙ e) in record { clade = Clade (known M) (answer M).groups; tree = tree; fits = each }
