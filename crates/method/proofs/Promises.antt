-- What holds of the answer to a matrix that the check takes: each theorem stands for a sentence of the demands.
use mathlib.Core.Path.{◌≡◌, refl, sym, ap, ◌∙◌, subst}
use mathlib.Core.Logic.{◌≢◌, by_cases}
use mathlib.Core.List.{List, [], ◌∷◌, Memᴰ}
use Prim.Native.Nat.{ℕ, zero, suc, ◌*◌, ◌^◌, ◌≤◌, ◌<◌}
use native.Mathlib.Nat.{mul-le-mul_right}
use native.Mathlib.Decide.{dec_lt}
use native.Mathlib.Omega.{arith}
use lib.ListN.{length, get_or-eq_default}
use Rattle.taxa.specs.Sets.{◌∈◌, ◌⊆◌, Disjoint, ◌∩◌, mass, count, low, all, multiplicity}
use Rattle.taxa.specs.Groups.{NestedOrDisjoint}
use Rattle.taxa.proofs.Groups.{before_differ}
use Rattle.taxa.proofs.Sums.{term_≤}
use Rattle.taxa.proofs.Members.{none, below, low_≤, in_all, all_<, all_fits, ∩-⊆, ∪-⊆, ⊆-trans, ⊆-refl}
use Rattle.taxa.proofs.Masses.{mass_⊆, mass_all}
use Rattle.taxa.proofs.Counts.{count_all}
use Rattle.method.specs.Split.{Column, Same, Rule, side, parted, division_cost, split_cost, after, FlipsAt, split_parts}
use Rattle.method.specs.Tree.{Group, Walk, walked, node, build, ordered, Line, InFileOrder, Flips, total, Matrix, column, answer, Sound, ComesTo, Components, made, weighed_flips, Clade, Filled, RootedTree, Fits}
use Rattle.method.specs.Choices.{turned_by, choice_weight, LetsFill}
use Rattle.method.specs.Flow.{Flow, arcs, limits, FlowSearch, SplitPromise}
use Rattle.method.proofs.Flips.{Proper}
use Rattle.method.proofs.Listing.{side_rule}
use Rattle.method.proofs.Search.{split_promise}
use Rattle.method.proofs.Entries.{known, same_sym, same_trans, Heavy}
use Rattle.method.proofs.Depth.{build_node}
use Rattle.method.proofs.Walks.{cost_≤, build_tame, flips_total, total_bound}
use Rattle.method.proofs.Shape.{shape_in, line_map, lined_pair, build_shape}
use Rattle.method.proofs.Filling.{fills_same, or_more, filled}
use Rattle.method.proofs.Clades.{clades_tree}
use Rattle.method.proofs.Fitting.{fits_free, free_fits}
use Rattle.method.proofs.Order.{build_length, ordered_in, in_ordered, ordered_length, ordered_total, ordered_first, group_low, file_order}
use Rattle.method.proofs.Components.{split_components}
use Rattle.method.proofs.Comes.{comes_fits, split_of_lem, comes_listed, listed_comes, comes_one, flip_first, flip_once}
use Rattle.method.proofs.Choices.{turned_same, changes, changes_choice, changes_weigh}
use Rattle.method.proofs.FlipList.{Some, flips_are, flips_made, flips_rise, flips_none, flips_weigh}

module _ (M : Matrix) (ok : Sound M) where
  abbrev n : ℕ
  n = M.taxa

  abbrev m : ℕ
  m = length M.columns

  abbrev file : ℕ → Column
  file = column M.columns

  abbrev μ : ℕ → ℕ
  μ = multiplicity M.multiplicities

  abbrev walk : Walk
  walk = build 64 μ m file (all n)

  fits : all n < 2 ^ 64
  fits = all_fits 64 ok.few

  -- ---- the order of the groups: document 01's, and none twice

  pub groups_order : Line (InFileOrder 64) (answer M).groups
  unfolding answer
  groups_order = file_order 64 μ m file (all n) fits n

  pub groups_once : Line (λ (g h : Group). g.taxa ≢ h.taxa) (answer M).groups
  groups_once = line_map (λ x y l r b. before_differ b) groups_order

  -- ---- what the check sees to, and the walk

  size : count 64 (all n) ≡ n
  size = count_all 64 n ok.few

  proper : (c : ℕ) → Proper (file c)
  unfolding column
  proper c =
      by_cases
      (dec_lt c m)
      (λ b. record { clash = (ok.proper c b).off })
      (λ b. record { clash = λ {i} h. absurd (none (subst (λ (x : Column). i ∈ x.ones) (get_or-eq_default M.columns (record { weight = 0; ones = 0; zeros = 0 }) (omega arith)) h)) })

  heavy : Heavy m file
  heavy = record { positive = ok.weighs }

  low_below : (g : Group) → Memᴰ g walk.groups → low 64 g.taxa < n
  low_below g l = below n (all_< n) (group_low 64 μ m file (all n) fits l).1

  -- The groups of the answer are those of the walk.
  walk_in : {g : Group} → Memᴰ g (answer M).groups → Memᴰ g walk.groups
  unfolding answer
  walk_in l = (ordered_in 64 n walk.groups l).0

  in_walk : {g : Group} → Memᴰ g walk.groups → Memᴰ g (answer M).groups
  unfolding answer
  in_walk {g} l = in_ordered 64 n walk.groups l (low_below g l)

  -- ---- every group, with the columns as flipped up to there

  comes_short : {cols : ℕ → Column} {S : ℕ} → ComesTo M cols S → S < 2 ^ 64
  comes_short r = comes_fits 64 μ m fits r.comes

  -- These are the groups of the answer, each with what its split costs there.
  pub reached_group : {cols : ℕ → Column} {S : ℕ} → ComesTo M cols S → Memᴰ (split_of_lem 64 μ m cols S) (answer M).groups
  reached_group r = in_walk (comes_listed 64 μ m fits r.comes r.two)

  pub group_reached : {g : Group} → Memᴰ g (answer M).groups → (cols : ℕ → Column) × ComesTo M cols g.taxa × (g.cost ≡ split_cost 64 μ m cols g.taxa)
  group_reached l = let (cols, c, two, e) = listed_comes 64 μ m file (all n) fits (walk_in l) in (cols, record { comes = c; two = two }, e)

  -- To each it comes with one set of columns.
  pub group_columns : {cols cols' : ℕ → Column} {S : ℕ} → ComesTo M cols S → ComesTo M cols' S → cols ≡ cols'
  group_columns r q = comes_one 64 μ m fits r.comes q.comes r.two

  -- At each, no division into two non-empty sides costs less, a flow of exactly that size exists between the two named taxa within document 01's
  -- bounds, and the flow search names the same division as listing: the three statements together,
  pub group_promise : {cols : ℕ → Column} {S : ℕ} → ComesTo M cols S → SplitPromise 64 μ m cols S
  group_promise {cols} {S} r = split_promise 64 μ m cols S (comes_short r) r.two

  -- and apart.
  pub group_cheapest : {cols : ℕ → Column} {S : ℕ} → ComesTo M cols S → (A : ℕ) → A ⊆ S → A ≢ 0 → A ≢ S → split_cost 64 μ m cols S ≤ division_cost 64 μ m cols S A
  group_cheapest r = (group_promise r).cheapest

  pub group_flow : {cols : ℕ → Column} {S : ℕ} → ComesTo M cols S → (out : ℕ → ℕ → ℕ) × (inn : ℕ → ℕ → ℕ)
      × Flow 64 m (arcs 64 μ m cols S) (limits 64 μ m cols S) out inn (low 64 S) (parted 64 S (side 64 μ m cols S)) (split_cost 64 μ m cols S)
  group_flow r = let p = group_promise r in (p.out, p.inn, p.flow)

  pub group_search : {cols : ℕ → Column} {S : ℕ} → ComesTo M cols S → FlowSearch 64 μ m cols S (parted 64 S (side 64 μ m cols S)) (side 64 μ m cols S)
      × ((t A : ℕ) → FlowSearch 64 μ m cols S t A → (t ≡ parted 64 S (side 64 μ m cols S)) × (A ≡ side 64 μ m cols S))
  group_search r = let p = group_promise r in (p.found, λ t A. p.only)

  -- The side is the one of document 01's tie rule, and the parts are the connected components.
  pub group_rule : {cols : ℕ → Column} {S : ℕ} → ComesTo M cols S → Rule 64 μ m cols S (side 64 μ m cols S) (parted 64 S (side 64 μ m cols S))
  group_rule {cols} {S} r = side_rule 64 μ m cols S (comes_short r) r.two

  pub group_parts : {cols : ℕ → Column} {S : ℕ} → ComesTo M cols S → Components 64 m (after 64 μ m cols S) S (side 64 μ m cols S) (split_parts 64 μ m cols S)
  group_parts {cols} {S} r = split_components 64 μ m ok.positive cols S (comes_short r) r.two

  -- ---- the flips

  -- No two splits flip the same entry, and the one that does finds it as in the file.
  pub flipped_once : {cols cols' : ℕ → Column} {S S' : ℕ} → ComesTo M cols S → ComesTo M cols' S' → (c i : ℕ) → FlipsAt 64 μ m cols S c i → FlipsAt 64 μ m cols' S' c i → S ≡ S'
  flipped_once r q = flip_once 64 μ m ok.positive fits r.comes q.comes r.two q.two

  pub flipped_first : {cols : ℕ → Column} {S : ℕ} → ComesTo M cols S → (c i : ℕ) → FlipsAt 64 μ m cols S c i → Same (file c) (cols c) i
  flipped_first r = flip_first 64 μ m ok.positive fits r.comes r.two

  -- The total, the sum of the split costs, is the weighed flips, and fits in 31 bits.
  all_costs : (answer M).total ≡ total walk.groups
  unfolding answer
  all_costs = ordered_total 64 n walk.groups low_below

  pub total_flips : (answer M).total ≡ weighed_flips 64 μ file (answer M).flips
  unfolding answer
  total_flips = all_costs ∙ sym (flips_total 64 μ m ok.positive file (all n) fits proper) ∙ sym (flips_weigh file walk.columns 64 μ m)

  -- A taxon stands for at most 127, as all together do.
  pub multiplicity_small : (i : ℕ) → i < n → μ i ≤ 127
  multiplicity_small i b = omega (arith, term_≤ n μ b, ok.merged)

  -- A column knows taxa of the matrix only, and they stand for at most 127.
  known_small : (c : ℕ) → c < m → mass 64 μ (known (file c)) ≤ 127
  known_small c b = omega (arith, mass_⊆ 64 μ (∪-⊆ (ok.ones_in c b) (ok.zeros_in c b)), mass_all μ ok.few, ok.merged)

  pub total_small : (answer M).total < 2 ^ 31
  total_small = omega (arith, all_costs, total_bound 64 μ m ok.positive file (all n) 65535 127 fits proper ok.light known_small, mul-le-mul_right (65535 * 127) ok.columns_few)

  pub cost_small : {g : Group} → Memᴰ g (answer M).groups → g.cost < 2 ^ 31
  unfolding answer
  cost_small l = omega (arith, cost_≤ l, total_small)

  -- "Flips stand by rising column, only columns with a flip; raised and lowered share no taxon."
  pub flips_order : Line (λ (f g : Flips). f.column < g.column) (answer M).flips
  unfolding answer
  flips_order = flips_rise file walk.columns m

  pub flips_hold : {f : Flips} → Memᴰ f (answer M).flips → (f.column < m) × Some f × Disjoint f.raised f.lowered
  unfolding answer
  flips_hold l =
      let (c, b, e, s) = flips_are file walk.columns m l in
      (omega (arith, ap (λ (x : Flips). x.column) e), s, subst (λ (x : Flips). Disjoint x.raised x.lowered) (sym e) (apart c))
    where
      apart : (c : ℕ) → Disjoint ((file c).zeros ∩ (walk.columns c).ones) ((file c).ones ∩ (walk.columns c).zeros)
      apart c = record { off = λ h g. (proper c).clash ((∩-⊆ (file c).ones (walk.columns c).zeros).sub g) ((∩-⊆ (file c).zeros (walk.columns c).ones).sub h) }

  pub flips_inside : {f : Flips} → Memᴰ f (answer M).flips → (f.raised ⊆ all n) × (f.lowered ⊆ all n)
  unfolding answer
  flips_inside l =
      let (c, b, e, s) = flips_are file walk.columns m l in (
        subst (λ (x : Flips). x.raised ⊆ all n) (sym e) (⊆-trans (∩-⊆ (file c).zeros (walk.columns c).ones) (ok.zeros_in c b)),
        subst (λ (x : Flips). x.lowered ⊆ all n) (sym e) (⊆-trans (∩-⊆ (file c).ones (walk.columns c).zeros) (ok.ones_in c b)),
      )

  -- ---- the groups

  -- Fewer than taxa, of two or more of them, nested or disjoint, and the first is all taxa.
  pub groups_few : length (answer M).groups < n
  unfolding answer
  groups_few = omega (arith, ordered_length 64 n walk.groups low_below, build_length 64 μ m file (all n) fits (omega (arith, size, ok.some)), size)

  pub groups_hold : {g : Group} → Memᴰ g (answer M).groups → (g.taxa ⊆ all n) × (1 < count 64 g.taxa)
  groups_hold {g} l = let s = build_shape 64 μ m file (all n) fits in (shape_in 64 s (walk_in l), s.two g (walk_in l))

  pub groups_nested : {g h : Group} → Memᴰ g (answer M).groups → Memᴰ h (answer M).groups → NestedOrDisjoint g.taxa h.taxa
  groups_nested l r = lined_pair 64 (build_shape 64 μ m file (all n) fits).lined (walk_in l) (walk_in r)

  pub groups_first : 1 < n → (rest : List Group) × ((answer M).groups ≡ split_of_lem 64 μ m file (all n) ∷ rest)
  unfolding answer node
  groups_first two =
      let zero-low : low 64 (all n) ≤ 0 = low_≤ 64 fits (in_all n (omega arith)) in
      let (rest, e) = first n (walked (build 64 μ m) (after 64 μ m file (all n)) (split_parts 64 μ m file (all n))).groups two (omega arith) in
      (rest, ap (λ (w : Walk). ordered 64 n w.groups) (build_node 64 μ m file fits (omega (arith, size))) ∙ e)
    where
      first : (j : ℕ) (gs : List Group) → 1 < j → low 64 (all n) ≡ 0 → (rest : List Group) × (ordered 64 j (split_of_lem 64 μ m file (all n) ∷ gs) ≡ split_of_lem 64 μ m file (all n) ∷ rest)
      first zero gs l e = absurd (omega arith)
      first (suc j) gs l e = ordered_first 64 j (split_of_lem 64 μ m file (all n)) gs e

  -- ---- clades

  -- The flips of the answer, made on the matrix, give the columns after the build.
  pub flips_are_made : (c i : ℕ) → c < m → Same (made (answer M).flips file c) (walk.columns c) i
  unfolding answer
  flips_are_made = let t = build_tame 64 μ m ok.positive file (all n) fits in flips_made file walk.columns m proper (t.propers proper) t.knowns

  -- After the flips each column can be filled so that its 1-set is empty or a clade: a group of the answer or a single taxon.
  pub answer_filled : (c : ℕ) → c < m → Filled (Clade (all n) (answer M).groups) (all n) (made (answer M).flips file c)
  answer_filled c b =
      let (F, d, r, f) = filled 64 μ m ok.positive file (all n) fits proper c b in
      (F, or_more (⊆-refl (all n)) (λ g l. in_walk l) d, r, fills_same (λ i x. same_sym (flips_are_made c i b)) f)

  -- The flips of the answer are a choice of flips: it makes the columns that they make, weighs the total, and lets them be filled.
  pub answer_choice : (chosen : ℕ → ℕ) × LetsFill 64 μ m file (Clade (all n) (answer M).groups) (all n) chosen
      × ((c i : ℕ) → c < m → Same (turned_by chosen file c) (made (answer M).flips file c) i) × (choice_weight 64 μ m file chosen ≡ (answer M).total)
  answer_choice =
      let t = build_tame 64 μ m ok.positive file (all n) fits in
      let same : (c i : ℕ) → c < m → Same (turned_by (changes m file walk.columns) file c) (made (answer M).flips file c) i =
      λ c i b. same_trans (turned_same (proper c) (t.propers proper c) (t.knowns c) i) (same_sym (flips_are_made c i b)) in (
        changes m file walk.columns,
        record {
          choice = changes_choice m file walk.columns;
          fits = λ c b. let (F, d, r, f) = answer_filled c b in (F, d, r, fills_same (λ i x. same_sym (same c i b)) f);
        },
        same,
        changes_weigh m file walk.columns 64 μ proper ∙ flips_total 64 μ m ok.positive file (all n) fits proper ∙ sym all_costs,
      )

  -- The clades are a rooted tree over the n taxa.
  pub answer_tree : RootedTree (all n) (Clade (all n) (answer M).groups)
  answer_tree =
      clades_tree (record {
        some = ok.some;
        whole = λ two. let (rest, e) = groups_first two in (split_of_lem 64 μ m file (all n), rw e (Memᴰ.head refl), refl);
        two = λ l. (groups_hold l).1;
        inside = λ l. (groups_hold l).0;
        nested = groups_nested;
      })

  -- The flip list is empty where some rooted tree fits the unflipped matrix, and only there: then the answer's does.
  no_cost : (answer M).flips ≡ [] → total walk.groups ≡ 0
  unfolding weighed_flips
  no_cost e = sym all_costs ∙ total_flips ∙ ap (weighed_flips 64 μ file) e

  pub fits_no_flips : {clade : ℕ → Type 0} → RootedTree (all n) clade → Fits clade m (all n) file → (answer M).flips ≡ []
  unfolding answer
  fits_no_flips t f = flips_none file walk.columns m proper (λ c i b. (build_tame 64 μ m ok.positive file (all n) fits).calm heavy (fits_free 64 μ m ok.positive t.laminar file (all n) fits heavy f) c i b)

  pub no_flips_fits : (answer M).flips ≡ [] → RootedTree (all n) (Clade (all n) (answer M).groups) × Fits (Clade (all n) (answer M).groups) m (all n) file
  no_flips_fits e = (answer_tree, λ c b. let (F, d, r, f) = free_fits 64 μ m ok.positive file (all n) fits heavy proper (no_cost e) c b in (F, or_more (⊆-refl (all n)) (λ g l. in_walk l) d, r, f))
