-- The answer to a sound matrix keeps the rules of an answer (`answer_lawful`), so writing it is never refused but for room.
use mathlib.Core.Path.{◌≡◌, refl, sym, ap, ◌∙◌}
use mathlib.Core.List.{List, [], ◌∷◌, map, Memᴰ}
use mathlib.Core.Logic.{⊎_elim}
use Prim.Native.Nat.{ℕ, zero, suc, ◌+◌, ◌≤◌, ◌<◌}
use native.Mathlib.Omega.{arith}
use lib.ListN.{length, get_or, length-map, get_or-map}
use Rattle.taxa.specs.Sum.{sum}
use Rattle.taxa.proofs.Sums.{sum_first}
use Rattle.record.proofs.Lists.{get_or_in}
use Rattle.method.specs.Tree.{Group, Flips, Line, end, and, Matrix, Sound, answer, total}
use Rattle.method.proofs.Promises as promises
use Rattle.answer.specs.Content.{Content, length_of}
use Rattle.answer.specs.Lawful.{LawfulHead, LawfulGroups, LawfulFlips, Lawful}
use Rattle.tree.specs.Build.{content_with, with_flips, tree_for, content_for, tree_room, room_for}
use Rattle.tree.proofs.Lists.{list_few}

-- ---- elements by their number

module _ {A : Type 0} (d : A) where
  -- An element and any later one.
  line_later : {R : A → A → Type 0} {l : List A} → Line R l → (i j : ℕ) → i < j → j < length l → R (get_or l i d) (get_or l j d)
  line_later end i j l b = absurd (omega arith)
  line_later (and h t) i zero l b = absurd (omega arith)
  line_later (and {x} {xs} h t) zero (suc j) l b = h (get_or xs j d) (get_or_in d xs j (omega arith))
  line_later (and h t) (suc i) (suc j) l b = line_later t i j (omega arith) (omega arith)

none_group : Group
none_group = record { taxa = 0; cost = 0 }

none_flips : Flips
none_flips = record { column = 0; raised = 0; lowered = 0 }

-- The total of groups is the sum of their costs.
total_sum : (gs : List Group) → total gs ≡ sum (length gs) (λ i. get_or (map (λ (g : Group). g.cost) gs) i 0)
unfolding total sum
total_sum [] = refl
total_sum (g ∷ gs) = ap (◌+◌ g.cost) (total_sum gs) ∙ sym (sum_first (length gs) (λ i. get_or (map (λ (x : Group). x.cost) (g ∷ gs)) i 0))

module _ (M : Matrix) (ok : Sound M) where
  abbrev n : ℕ
  n = M.taxa

  abbrev m : ℕ
  m = length M.columns

  abbrev gs : List Group
  gs = (answer M).groups

  abbrev fs : List Flips
  fs = (answer M).flips

  abbrev c : Content
  c = content_with n m gs fs

  pub flips_few : (content_for M).flips ≤ m
  unfolding content_for answer
  flips_few = list_few _ _ m

  -- There is room in an output that is not refused.
  pub answer_fits : length_of (content_for M) ≤ room_for n m
  unfolding content_for
  answer_fits = omega (arith, promises.groups_few M ok, flips_few)

  -- ---- group i and flips j, and where they stand

  at_group : ℕ → Group
  at_group i = get_or gs i none_group

  group_in : {i : ℕ} → i < length gs → Memᴰ (at_group i) gs
  unfolding at_group
  group_in {i} b = get_or_in none_group gs i b

  taxa_at : (i : ℕ) → get_or c.taxa i 0 ≡ (at_group i).taxa
  unfolding at_group none_group
  taxa_at i = get_or-map (λ (g : Group). g.taxa) gs i none_group

  at_flips : ℕ → Flips
  at_flips j = get_or fs j none_flips

  flips_in_lem : {j : ℕ} → j < length fs → Memᴰ (at_flips j) fs
  unfolding at_flips
  flips_in_lem {j} b = get_or_in none_flips fs j b

  column_at_lem : (j : ℕ) → get_or c.columns j 0 ≡ (at_flips j).column
  unfolding at_flips none_flips
  column_at_lem j = get_or-map (λ (f : Flips). f.column) fs j none_flips

  raised_at : (j : ℕ) → get_or c.raised j 0 ≡ (at_flips j).raised
  unfolding at_flips none_flips
  raised_at j = get_or-map (λ (f : Flips). f.raised) fs j none_flips

  lowered_at : (j : ℕ) → get_or c.lowered j 0 ≡ (at_flips j).lowered
  unfolding at_flips none_flips
  lowered_at j = get_or-map (λ (f : Flips). f.lowered) fs j none_flips

  -- ---- the rules

  head_lawful : LawfulHead c
  unfolding content_for
  head_lawful =
      let few = promises.groups_few M ok in
      record {
        some_taxa = ok.some;
        few_taxa = ok.few;
        few_columns = ok.columns_few;
        none_for_one = λ e. omega arith;
        some_groups = λ two. let (rest, is) = promises.groups_first M ok two in omega (arith, ap length is);
        few_groups = λ two. omega arith;
        few_flips = flips_few;
      }

  groups_lawful : LawfulGroups c
  unfolding at_group
  groups_lawful =
      record {
        two_or_more = λ i b. rw (taxa_at i) (promises.groups_hold M ok (group_in b)).1;
        known = λ i b. rw (taxa_at i) (promises.groups_hold M ok (group_in b)).0;
        in_order = λ i j l b. rw (taxa_at i, taxa_at j) (line_later none_group (promises.groups_order M ok) i j l b);
        nested_or_disjoint = λ i j b d. rw (taxa_at i, taxa_at j) (promises.groups_nested M ok (group_in b) (group_in d));
        first_is_all = λ two. let (rest, is) = promises.groups_first M ok two in taxa_at 0 ∙ ap (λ (l : List Group). (get_or l 0 none_group).taxa) is;
      }

  flips_lawful : LawfulFlips c
  unfolding at_flips
  flips_lawful =
      record {
        rising = λ i j l b. rw (column_at_lem i, column_at_lem j) (line_later none_flips (promises.flips_order M ok) i j l b);
        column_known = λ j b. rw (column_at_lem j) (promises.flips_hold M ok (flips_in_lem b)).0;
        not_both_empty = λ j b (up, down). ⊎_elim (λ l. omega (arith, raised_at j)) (λ l. omega (arith, lowered_at j)) (promises.flips_hold M ok (flips_in_lem b)).1;
        apart = λ j b. rw (raised_at j, lowered_at j) (promises.flips_hold M ok (flips_in_lem b)).2;
        raised_known = λ j b. rw (raised_at j) (promises.flips_inside M ok (flips_in_lem b)).0;
        lowered_known = λ j b. rw (lowered_at j) (promises.flips_inside M ok (flips_in_lem b)).1;
      }

  total_is : (answer M).total ≡ total gs
  unfolding answer
  total_is = refl

  -- The answer to a sound matrix keeps the rules of an answer.
  pub answer_lawful : Lawful (content_for M)
  unfolding content_for
  answer_lawful =
      record {
        sized = record {
          taxa_sized = length-map gs _;
          costs_sized = length-map gs _;
          columns_sized = length-map fs _;
          raised_sized = length-map fs _;
          lowered_sized = length-map fs _;
          total_fits = omega (arith, total_is, promises.total_small M ok);
        };
        head_lawful = head_lawful;
        groups_lawful = groups_lawful;
        flips_lawful = flips_lawful;
        total_is_sum = total_sum gs;
      }

-- Without its flips a lawful answer is lawful.
tree_lawful_of : {c : Content} → Lawful c → Lawful (with_flips c [])
tree_lawful_of h =
    let head = h.head_lawful in
    let groups = h.groups_lawful in
    record {
      sized = record {
        taxa_sized = h.sized.taxa_sized;
        costs_sized = h.sized.costs_sized;
        columns_sized = refl;
        raised_sized = refl;
        lowered_sized = refl;
        total_fits = h.sized.total_fits;
      };
      head_lawful = record {
        some_taxa = head.some_taxa;
        few_taxa = head.few_taxa;
        few_columns = head.few_columns;
        none_for_one = head.none_for_one;
        some_groups = head.some_groups;
        few_groups = head.few_groups;
        few_flips = omega arith;
      };
      groups_lawful = record {
        two_or_more = groups.two_or_more;
        known = groups.known;
        in_order = groups.in_order;
        nested_or_disjoint = groups.nested_or_disjoint;
        first_is_all = groups.first_is_all;
      };
      flips_lawful = record {
        rising = λ i j l b. absurd (omega arith);
        column_known = λ j b. absurd (omega arith);
        not_both_empty = λ j b e. omega arith;
        apart = λ j b. absurd (omega arith);
        raised_known = λ j b. absurd (omega arith);
        lowered_known = λ j b. absurd (omega arith);
      };
      total_is_sum = h.total_is_sum;
    }

-- The tree is the answer without its flips, and the answer is the tree with them.
pub answer_of_tree : (M : Matrix) → content_for M ≡ with_flips (tree_for M) (answer M).flips
unfolding content_for tree_for
answer_of_tree M = refl

pub tree_lawful : (M : Matrix) → Sound M → Lawful (tree_for M)
unfolding content_for tree_for
tree_lawful M ok = tree_lawful_of (answer_lawful M ok)

pub tree_fits : (M : Matrix) → Sound M → length_of (tree_for M) ≤ tree_room M.taxa
unfolding tree_for
tree_fits M ok = omega (arith, promises.groups_few M ok)
