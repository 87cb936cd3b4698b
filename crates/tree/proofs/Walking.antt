-- The walk over the parts of a group, as its loop meets it: what is left to walk, from the columns as they are now, comes to what all comes to
-- (`Going`); and a group, from its split and the walk over its parts (`one_taxon`, `whole_group`).
use mathlib.Core.Path.{◌≡◌, refl, sym, ap, ◌∙◌}
use mathlib.Core.List.{List, [], ◌∷◌, ◌++◌, append_assoc, append-nil}
use Prim.Native.Nat.{ℕ, ◌+◌, ◌-◌, ◌*◌, ◌^◌, ◌≤◌, ◌<◌}
use native.Mathlib.Numerals.{add-one}
use native.Mathlib.Omega.{arith}
use lib.IntN.{ℤ}
use lib.ListN.{length, get_or, take, drop, length-append, length-drop, drop_of_length-le}
use lib.Pow.{pow_mono}
use lib.Seq.{drop-cons, get_or-take, length-take-le}
use Rattle.taxa.specs.Sets.{multiplicity_in, count}
use Rattle.taxa.proofs.Members.{⊆-≤}
use Rattle.method.specs.Split.{Column, split_cost, after, split_parts}
use Rattle.record.proofs.Lists.{get_or_in}
use Rattle.method.specs.Tree.{Group, Walk, leaf, walked, node, build, now, later}
use Rattle.method.proofs.Depth.{build_leaf, build_node}
use Rattle.method.proofs.Order.{split_two, split_beside}
use Rattle.method.proofs.Parts.{inside_R}
use Rattle.method.proofs.Splits.{split_parts_lem, part_in}
use Rattle.search.specs.Search.{cols_of}
use Rattle.split.specs.inner.Handing.{Parallel}
use Rattle.tree.specs.inner.Grow.{Loaded, Ready, TurnsClear, Grown, AllSmall}

-- The next set of a list, and those after it.
drop_next : (Ps : List ℕ) (i : ℕ) → i < length Ps → drop i Ps ≡ get_or Ps i 0 ∷ drop (i + 1) Ps
drop_next Ps i l = drop-cons Ps i 0 l ∙ ap (λ (j : ℕ). get_or Ps i 0 ∷ drop j Ps) (sym (add-one i))

module _ (g : (ℕ → Column) → ℕ → Walk) (Ps : List ℕ) where
  -- One set walked, and those after it.
  walked_next : (cols : ℕ → Column) (i : ℕ) → i < length Ps → walked g cols (drop i Ps) ≡ walked g cols (get_or Ps i 0 ∷ drop (i + 1) Ps)
  walked_next cols i l = ap (walked g cols) (drop_next Ps i l)

  walked_end : (cols : ℕ → Column) (i : ℕ) → length Ps ≤ i → walked g cols (drop i Ps) ≡ leaf cols
  unfolding walked
  walked_end cols i l = ap (walked g cols) (drop_of_length-le Ps {i = i} l)

  -- Those below i have been walked from the columns old, which are now cols: the list of groups was `before` and is `here`.
  pub record Going (old cols : ℕ → Column) (before here : List Group) (at end i : ℕ) : Type 0 where
    pub columns : (walked g cols (drop i Ps)).columns ≡ (walked g old Ps).columns
    pub groups : here ++ (walked g cols (drop i Ps)).groups ≡ before ++ (walked g old Ps).groups
    pub many : end + length (walked g cols (drop i Ps)).groups ≡ at + length (walked g old Ps).groups

  pub going_start : (old : ℕ → Column) (before : List Group) (at : ℕ) → Going old old before before at at 0
  going_start old before at = record { columns = refl; groups = refl; many = refl }

  module _ {old cols : ℕ → Column} {before here : List Group} {at end i : ℕ} (h : Going old cols before here at end i) where
    -- There is room for the next.
    pub going_room : i < length Ps → end + length (g cols (get_or Ps i 0)).groups ≤ at + length (walked g old Ps).groups
    unfolding walked
    going_room l =
        let one = g cols (get_or Ps i 0) in
        let left = rw (walked_next cols i l) at h.many in
        omega (arith, length-append one.groups (walked g one.columns (drop (i + 1) Ps)).groups)

    pub going_next : i < length Ps → {new : ℕ → Column} {there : List Group} {end' : ℕ} → new ≡ (g cols (get_or Ps i 0)).columns
        → there ≡ here ++ (g cols (get_or Ps i 0)).groups → end' ≡ end + length (g cols (get_or Ps i 0)).groups → Going old new before there at end' (i + 1)
    unfolding walked
    going_next l {new} {there} {end'} c e n =
        let one = g cols (get_or Ps i 0) in
        let rest = walked g one.columns (drop (i + 1) Ps) in
        record {
          columns = rw c (rw (walked_next cols i l) at h.columns);
          groups = rw (c, e, append_assoc here one.groups rest.groups) (rw (walked_next cols i l) at h.groups);
          many = rw c (let left = rw (walked_next cols i l) at h.many in omega (arith, length-append one.groups rest.groups));
        }

    pub going_end : length Ps ≤ i → (cols ≡ (walked g old Ps).columns) × (here ≡ before ++ (walked g old Ps).groups) × (end ≡ at + length (walked g old Ps).groups)
    going_end l =
        let w = walked_end cols i l in
        (rw w at h.columns, sym (append-nil here) ∙ rw w at h.groups, let n = rw w at h.many in omega arith)

-- ---- a group

-- A set of one taxon, or of none, is no group.
pub one_taxon : (μ : ℕ → ℕ) {ws os zs : List ℕ} {space : List ℤ} {before : List Group} {at S : ℕ} → Parallel ws os zs → S < 2 ^ 64 → count 64 S ≤ 1
    → Grown ws os zs space space (build 64 μ (length ws) (cols_of ws os zs) S) before before at at
one_taxon μ {ws} {os} {zs} {before = before} p fits few =
    rw (build_leaf 64 μ (length ws) (cols_of ws os zs) fits few)
    (record { columns = refl; parallel = p; groups = sym (append-nil before); many = omega arith; workspace = refl })

-- The group, and what the walk over its parts came to.
pub whole_group : (μ : ℕ → ℕ) {ws os zs : List ℕ} {space space' : List ℤ} {before new : List Group} {at end S : ℕ} (cols mid : ℕ → Column) (Ps : List ℕ)
    → S < 2 ^ 64 → 1 < count 64 S → mid ≡ after 64 μ (length ws) cols S → Ps ≡ split_parts 64 μ (length ws) cols S
    → Grown ws os zs space space' (walked (build 64 μ (length ws)) mid Ps) (before ++ (record { taxa = S; cost = split_cost 64 μ (length ws) cols S } ∷ [])) new (at + 1) end
    → Grown ws os zs space space' (build 64 μ (length ws) cols S) before new at end
unfolding node
whole_group μ {ws} {before = before} {S = S} cols mid Ps fits two e ps w =
    rw (build_node 64 μ (length ws) cols fits two)
    (record {
      columns = rw (e, ps) at w.columns;
      parallel = w.parallel;
      groups = rw (e, ps) at w.groups ∙ append_assoc before (record { taxa = S; cost = split_cost 64 μ (length ws) cols S } ∷ []) _;
      many = let n = rw (e, ps) at w.many in omega arith;
      workspace = w.workspace;
    })

-- ---- the parts are small

-- Where a list has room for twice the group's taxa, there is room after the parts for twice those of any of them: there are two parts or more.
pub parts_small : (μ : ℕ → ℕ) (m n : ℕ) (cols : ℕ → Column) (S room : ℕ) → n ≤ 64 → S < 2 ^ n → 1 < count 64 S → 2 * count 64 S ≤ room + length (split_parts 64 μ m cols S)
    → AllSmall (split_parts 64 μ m cols S) n (count 64 S) room
parts_small μ m n cols S room l fits two enough =
    let wide : S < 2 ^ 64 = omega (arith, pow_mono l) in
    let Ps = split_parts 64 μ m cols S in
    record {
      short = λ i b. omega (arith, ⊆-≤ (inside_R 64 μ m (after 64 μ m cols S) S (split_parts_lem 64 μ m cols S wide two) (get_or_in 0 Ps i b)));
      small = λ i b. (part_in 64 μ m cols S wide two (get_or_in 0 Ps i b)).2;
      fits = λ i b. omega (arith, split_beside 64 μ m cols S wide two (get_or_in 0 Ps i b), split_two 64 μ m cols S wide two);
    }

-- A part that the list still holds is read off it.
pub still_listed : (k : ℕ) (list old : List ℕ) (i : ℕ) → take k list ≡ take k old → i < k → get_or (take k old) i 0 ≡ get_or list i 0
still_listed k list old i e l = ap (λ (ps : List ℕ). get_or ps i 0) (sym e) ∙ get_or-take k list i 0 l

-- How much stands after the parts.
pub rest_length : (k : ℕ) (list : List ℕ) → length (take (length list - k) (drop k list)) ≡ length list - k
rest_length k list = length-take-le (length list - k) (drop k list) (omega (arith, length-drop k list))

-- ---- what the walk asks of each part

pub loaded_as : {ws P os zs os' zs' : List ℕ} {n : ℕ} → Loaded ws P os zs n → Parallel ws os' zs' → Loaded ws P os' zs' n
loaded_as h p = record { parallel = p; columns = h.columns; positive = h.positive; tabled = h.tabled; taxa = h.taxa }

module _ {ws P os zs : List ℕ} {space : List ℤ} (Ps : List ℕ) {i : ℕ} (l : i < length Ps) (h : TurnsClear ws P os zs (drop i Ps) space) where
  turns : TurnsClear ws P os zs (get_or Ps i 0 ∷ drop (i + 1) Ps) space
  turns = rw (drop_next Ps i l) at h

  -- The turn is the next part's,
  pub part_ready : {os₀ zs₀ : List ℕ} {n : ℕ} {space' : List ℤ} → Loaded ws P os₀ zs₀ n → Parallel ws os zs → get_or Ps i 0 < 2 ^ n → space' ≡ space → Ready ws P os zs (get_or Ps i 0) n space'
  part_ready r p f e = rw e (record { loaded = loaded_as r p; group = f; clear = turns.clear _ _ now })

  -- and then that of those after it, with the columns that it left.
  pub turns_on : {os' zs' : List ℕ} → cols_of ws os' zs' ≡ (build 64 (multiplicity_in P) (length ws) (cols_of ws os zs) (get_or Ps i 0)).columns → TurnsClear ws P os' zs' (drop (i + 1) Ps) space
  turns_on e = record { clear = λ mid Q t. turns.clear mid Q (later (rw e at t)) }

pub ready_wide : {ws P os zs : List ℕ} {S n : ℕ} {space : List ℤ} → Ready ws P os zs S n space → S < 2 ^ 64
ready_wide r = omega (arith, r.group, pow_mono r.loaded.taxa)

-- A group is one group more than those of its parts.
pub node_length : (μ : ℕ → ℕ) (m : ℕ) (cols : ℕ → Column) {S : ℕ} → S < 2 ^ 64 → 1 < count 64 S
    → length (build 64 μ m cols S).groups ≡ 1 + length (walked (build 64 μ m) (after 64 μ m cols S) (split_parts 64 μ m cols S)).groups
unfolding node
node_length μ m cols fits two = rw (build_node 64 μ m cols fits two) (omega arith)
