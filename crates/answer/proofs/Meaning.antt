-- What the tests mean: they pass exactly when the rules of an answer hold (`passes_exactly`; each way `passes_lawful` and `lawful_passes`).
use mathlib.Core.Path.{◌≡◌, refl, sym, ◌∙◌}
use mathlib.Core.Bool.{Bool, true, false, ◌||◌, ◌&&◌, cond, and-eq-true_iff}
use mathlib.Core.List.{List, []}
use mathlib.Core.Logic.{◌≢◌, ◌↔◌, ◌⊎◌, inl, inr, by_cases}
use Prim.Native.Nat.{ℕ, zero, suc, ◌+◌, ◌*◌, ◌≤◌, ◌<◌}
use native.Mathlib.Decide.{dec_lt}
use native.Mathlib.Omega.{arith}
use lib.Dec.{ltb, eqb}
use lib.ListN.{get_or}
use borrow.Author.Count.{below_more}
use borrow.Author.Tests.{ltb-true, eqb-true, eqb-false, lt-ltb, eq-eqb}
use Rattle.taxa.specs.Sets.{◌∩◌, ◌∪◌, ◌⊆◌, Disjoint, within, count, low, all}
use Rattle.taxa.specs.Groups.{NestedOrDisjoint, Before, sooner, larger}
use Rattle.taxa.proofs.Groups.{pair_sym, before_trans, before_differ}
use Rattle.taxa.proofs.Members.{within_⊆, ∩-disjoint, disjoint_∩, ⊆-refl, ⊆-≤, in∪}
use Rattle.record.specs.declared.Cursor.{Cursor}
use Rattle.answer.specs.Content.{Content, length_of}
use Rattle.answer.specs.Lawful.{Sized, LawfulHead, LawfulGroups, LawfulFlips, Lawful}
use Rattle.answer.specs.Rules.{counted, follows, placed, compatible, compatible_all, group_fault, floor_of, entry_fault, sum_of, total_fault}
use Rattle.answer.specs.Tests.{as_given, walk, head_test, group_test, entry_test, flips_test, end_test, tests}
use Rattle.answer.proofs.Kept.{HeadKept, GroupKept, group_keeps, EntryKept, total_keeps}
use Rattle.answer.proofs.Rows as rows
use Rattle.answer.proofs.Walks.{walk_each, walk_passes, no_fault, through_judge, given_group}
use Rattle.answer.proofs.Stages.{Staged, staged, ends_with}
use Rattle.answer.proofs.Outcomes.{given_head_kept, given_entry_kept}
use Rattle.std.specs.Prelude.{None, Ok}

-- ---- one test, one rule

either : (a b : Bool) → (a || b) ≡ true → (a ≡ true) ⊎ (b ≡ true)
either true b e = inl refl
either false b e = inr e

or_right : (a : Bool) {b : Bool} → b ≡ true → (a || b) ≡ true
or_right true e = refl
or_right false e = e

follows_before : (x y : ℕ) → (follows x y ≡ true) ↔ Before 64 x y
unfolding follows
follows_before x y = (λ e. says (either (ltb (low 64 x) (low 64 y)) (eqb (low 64 x) (low 64 y) && ltb (count 64 y) (count 64 x)) e), holds)
  where
    says : (ltb (low 64 x) (low 64 y) ≡ true) ⊎ ((eqb (low 64 x) (low 64 y) && ltb (count 64 y) (count 64 x)) ≡ true) → Before 64 x y
    says (inl l) = sooner (ltb-true _ _ l)
    says (inr r) = let (same, more) = (and-eq-true_iff (eqb (low 64 x) (low 64 y)) (ltb (count 64 y) (count 64 x))).0 r in larger (eqb-true _ _ same) (ltb-true _ _ more)

    holds : Before 64 x y → (ltb (low 64 x) (low 64 y) || (eqb (low 64 x) (low 64 y) && ltb (count 64 y) (count 64 x))) ≡ true
    holds (sooner l) = rw (lt-ltb _ _ l)
    holds (larger e l) = or_right (ltb (low 64 x) (low 64 y)) (rw (eq-eqb _ _ e, lt-ltb _ _ l))

compatible_nested : (x y : ℕ) → (compatible x y ≡ true) ↔ NestedOrDisjoint x y
unfolding compatible
compatible_nested x y = (λ e. says (either (within x y) (within y x || eqb (x ∩ y) 0) e), holds)
  where
    rest : (within y x ≡ true) ⊎ (eqb (x ∩ y) 0 ≡ true) → y ⊆ x ⊎ Disjoint x y
    rest (inl w) = inl ((within_⊆ y x).0 w)
    rest (inr d) = inr (∩-disjoint (eqb-true _ _ d))

    says : (within x y ≡ true) ⊎ ((within y x || eqb (x ∩ y) 0) ≡ true) → NestedOrDisjoint x y
    says (inl w) = inl ((within_⊆ x y).0 w)
    says (inr r) = inr (rest (either (within y x) (eqb (x ∩ y) 0) r))

    holds : NestedOrDisjoint x y → (within x y || (within y x || eqb (x ∩ y) 0)) ≡ true
    holds (inl s) = rw ((within_⊆ x y).1 s)
    holds (inr (inl s)) = or_right (within x y) (rw ((within_⊆ y x).1 s))
    holds (inr (inr s)) = or_right (within x y) (or_right (within y x) (eq-eqb _ _ (disjoint_∩ s)))

compatible_each : (taxa : List ℕ) (x k : ℕ) → (compatible_all taxa x k ≡ true) ↔ ((i : ℕ) → i < k → NestedOrDisjoint (get_or taxa i 0) x)
unfolding compatible_all
compatible_each taxa x zero = (λ e i l. absurd (omega arith), λ h. refl)
compatible_each taxa x (suc k) = (
  λ e i l.
      let (before, last) = (and-eq-true_iff (compatible_all taxa x k) (compatible (get_or taxa k 0) x)).0 e in
      below_more (λ i. NestedOrDisjoint (get_or taxa i 0) x) k ((compatible_each taxa x k).0 before) ((compatible_nested (get_or taxa k 0) x).0 last) i (omega arith),
  λ h. rw ((compatible_each taxa x k).1 (λ i l. h i (omega arith))) ((compatible_nested (get_or taxa k 0) x).1 (h k (omega arith))),
)

some_in_∪ : (x y : ℕ) → (x ∪ y ≢ 0) ↔ ((x ≡ 0) × (y ≡ 0) → ⊥)
unfolding ◌∪◌
some_in_∪ x y = (
  λ some (x-none, y-none). some (rw (x-none, y-none)),
  λ some e.
      let left : x ⊆ x ∪ y = record { sub = λ h. (in∪ x y).1 (inl h) } in
      let right : y ⊆ x ∪ y = record { sub = λ h. (in∪ x y).1 (inr h) } in
      some (omega (arith, ⊆-≤ left), omega (arith, ⊆-≤ right)),
)

-- ---- from neighbours to any two

from_neighbours : (R : ℕ → ℕ → Type 0) → ((i j k : ℕ) → R i j → R j k → R i k) → (n : ℕ) → ((i : ℕ) → suc i < n → R i (suc i)) → (i j : ℕ) → i < j → j < n → R i j
from_neighbours R trans n next i zero l b = absurd (omega arith)
from_neighbours R trans n next i (suc j) l b =
    below_more (λ i. R i (suc j)) j (λ i h. trans i j (suc j) (from_neighbours R trans n next i j h (omega arith)) (next j b)) (next j b) i (omega arith)

-- ---- tests that pass

module _ {c : Content} (sized : Sized c) (listed : ℕ) {last : Cursor} (passed : Ok last ≡ tests as_given c listed) where
  abbrev stages : Staged as_given c listed last
  stages = staged as_given c listed passed

  head_kept : HeadKept c.n c.m c.groups c.flips listed
  head_kept = given_head_kept c listed [] passed

  group_kept : (i : ℕ) → i < c.groups → GroupKept c.n c.taxa i
  group_kept i l =
      let it = walk_each (group_test as_given c.n c.taxa) stages.first c.groups stages.groups_passed i l in
      group_keeps _ _ _ (given_group c.n c.taxa i it.here it.passed).0

  entry_kept : (j : ℕ) → j < c.flips → EntryKept c.n c.m (floor_of c.columns j) (get_or c.columns j 0) (get_or c.raised j 0) (get_or c.lowered j 0)
  entry_kept = given_entry_kept c listed [] passed

  next_before : (i : ℕ) → suc i < c.groups → Before 64 (get_or c.taxa i 0) (get_or c.taxa (suc i) 0)
  unfolding placed
  next_before i l = (follows_before _ _).0 (group_kept (suc i) l).well_placed

  first_all : 0 < c.groups → get_or c.taxa 0 0 ≡ all c.n
  unfolding placed
  first_all l = eqb-true _ _ (group_kept 0 l).well_placed

  later_nested : (i j : ℕ) → i < j → j < c.groups → NestedOrDisjoint (get_or c.taxa i 0) (get_or c.taxa j 0)
  later_nested i j l b = (compatible_each c.taxa (get_or c.taxa j 0) j).0 (group_kept j b).fits_all i l

  all_nested : (i j : ℕ) → i < c.groups → j < c.groups → NestedOrDisjoint (get_or c.taxa i 0) (get_or c.taxa j 0)
  all_nested i j h b =
      by_cases (dec_lt i j) (λ l. later_nested i j l b) (λ g.
      by_cases (dec_lt j i) (λ l. pair_sym (later_nested j i l h)) (λ k.
      let same : i ≡ j = omega arith in rw same (inl (⊆-refl (get_or c.taxa j 0)))))

  next_rises : (j : ℕ) → suc j < c.flips → get_or c.columns j 0 < get_or c.columns (suc j) 0
  unfolding floor_of
  next_rises j l = omega (arith, (entry_kept (suc j) l).rises)

  total_sum : c.total ≡ sum_of c.costs c.groups
  unfolding end_test
  total_sum = total_keeps c.total c.costs c.groups (through_judge (total_fault c.total c.costs c.groups) _ _ stages.end_passed_lem).0

  -- What passes the tests keeps the rules.
  pub passes_lawful : Lawful c
  passes_lawful =
      let k = head_kept in
      record {
        sized = sized;
        head_lawful = record {
          some_taxa = k.some;
          few_taxa = k.few;
          few_columns = k.columns;
          none_for_one = λ e. omega arith;
          some_groups = k.some_groups;
          few_groups = λ l. omega arith;
          few_flips = k.flips_fit;
        };
        groups_lawful = record {
          two_or_more = λ i l. (group_kept i l).large;
          known = λ i l. (group_kept i l).known;
          in_order = from_neighbours (λ i j. Before 64 (get_or c.taxa i 0) (get_or c.taxa j 0)) (λ i j k. before_trans) c.groups next_before;
          nested_or_disjoint = all_nested;
          first_is_all = λ l. first_all (k.some_groups l);
        };
        flips_lawful = record {
          rising = from_neighbours (λ i j. get_or c.columns i 0 < get_or c.columns j 0) (λ i j k l h. omega arith) c.flips next_rises;
          column_known = λ j l. (entry_kept j l).column_fits;
          not_both_empty = λ j l. (some_in_∪ _ _).0 (entry_kept j l).some_flip;
          apart = λ j l. ∩-disjoint (entry_kept j l).apart;
          raised_known = λ j l. (entry_kept j l).raised_known;
          lowered_known = λ j l. (entry_kept j l).lowered_known;
        };
        total_is_sum = total_sum;
      }

-- ---- rules that hold

module _ {c : Content} (lawful : Lawful c) where
  abbrev head : LawfulHead c
  head = lawful.head_lawful

  abbrev groups : LawfulGroups c
  groups = lawful.groups_lawful

  abbrev flips : LawfulFlips c
  flips = lawful.flips_lawful

  count_holds : counted c.n c.groups ≡ true
  unfolding counted
  count_holds = go (eqb c.n 1) refl
    where
      go : (one : Bool) → eqb c.n 1 ≡ one → cond one (eqb c.groups 0) (ltb 0 c.groups && ltb c.groups c.n) ≡ true
      go true one = eq-eqb _ _ (head.none_for_one (eqb-true _ _ one))
      go false one =
          let two : 2 ≤ c.n = omega (arith, head.some_taxa, eqb-false c.n 1 one) in
          rw (lt-ltb 0 c.groups (head.some_groups two)) (lt-ltb c.groups c.n (omega (arith, head.few_groups two)))

  pub fewer_groups : c.groups < c.n
  fewer_groups = by_cases (dec_lt 1 c.n) (λ two. omega (arith, head.few_groups two)) (λ one. omega (arith, head.some_taxa, head.none_for_one (omega (arith, head.some_taxa))))

  -- "None twice."
  pub none_twice : (i j : ℕ) → i < j → j < c.groups → get_or c.taxa i 0 ≢ get_or c.taxa j 0
  none_twice i j l b = before_differ (groups.in_order i j l b)

  place_holds : (i : ℕ) → i < c.groups → placed c.n c.taxa i ≡ true
  unfolding placed
  place_holds zero b = eq-eqb _ _ (groups.first_is_all (omega (arith, fewer_groups)))
  place_holds (suc i) b = (follows_before _ _).1 (groups.in_order i (suc i) (omega arith) b)

  group_holds : (i : ℕ) → i < c.groups → None ≡ group_fault c.n c.taxa i
  group_holds i b =
      rows.group_kept c.n c.taxa i ((within_⊆ _ _).1 (groups.known i b)) (groups.two_or_more i b) (place_holds i b)
      ((compatible_each c.taxa (get_or c.taxa i 0) i).1 (λ j l. groups.nested_or_disjoint j i (omega arith) b))

  floor_holds : (j : ℕ) → j < c.flips → floor_of c.columns j ≤ get_or c.columns j 0
  unfolding floor_of
  floor_holds zero b = omega arith
  floor_holds (suc j) b = omega (arith, flips.rising j (suc j) (omega arith) b)

  entry_holds : (j : ℕ) → j < c.flips → None ≡ entry_fault c.n c.m (floor_of c.columns j) (get_or c.columns j 0) (get_or c.raised j 0) (get_or c.lowered j 0)
  entry_holds j b =
      rows.flips_kept c.n c.m _ _ _ _ ((within_⊆ _ _).1 (flips.raised_known j b)) ((within_⊆ _ _).1 (flips.lowered_known j b))
      (sym (rows.some_flip c.m _ _ _ _ (flips.column_known j b) (floor_holds j b) ((some_in_∪ _ _).1 (flips.not_both_empty j b))) ∙ eq-eqb _ _ (disjoint_∩ (flips.apart j b)))

  module _ (listed : ℕ) (enough : c.flips ≤ listed) where
    head_passes : Ok (record { at = 16 }) ≡ head_test as_given c.n c.m c.groups c.flips listed
    unfolding head_test
    head_passes =
        no_fault 0 16 (sym (rows.head_kept c.n c.m c.groups c.flips listed (omega (arith, head.some_taxa)) head.few_taxa head.few_columns count_holds head.few_flips enough)) refl

    groups_pass : Ok (record { at = 16 + 16 * c.groups }) ≡ walk (group_test as_given c.n c.taxa) c.groups (record { at = 16 })
    unfolding group_test
    groups_pass = walk_passes (group_test as_given c.n c.taxa) 16 c.groups (λ i b at. no_fault at (at + 4 + 12) (sym (group_holds i b)) (omega arith)) 16

    flips_pass : Ok (record { at = 16 + 16 * c.groups + 22 * c.flips })
        ≡ walk (flips_test as_given c.n c.m c.columns c.raised c.lowered) c.flips (record { at = 16 + 16 * c.groups })
    unfolding entry_test
    flips_pass =
        walk_passes (flips_test as_given c.n c.m c.columns c.raised c.lowered) 22 c.flips
        (λ j b at. no_fault at (at + 4 + 18) (sym (entry_holds j b)) (omega arith)) (16 + 16 * c.groups)

    end_passes : Ok (record { at = length_of c }) ≡ end_test as_given c.total c.costs c.groups (record { at = 16 + 16 * c.groups + 22 * c.flips })
    unfolding end_test
    end_passes = no_fault _ _ (rw (eq-eqb _ _ lawful.total_is_sum)) (omega arith)

    -- What keeps the rules passes the tests, and they end where its file ends.
    pub lawful_passes : Ok (record { at = length_of c }) ≡ tests as_given c listed
    lawful_passes = end_passes ∙ ends_with as_given c listed head_passes groups_pass flips_pass

-- The tests pass exactly when the rules hold.
pub passes_exactly : {c : Content} → Sized c → (Ok (record { at = length_of c }) ≡ tests as_given c c.flips) ↔ Lawful c
passes_exactly {c} sized = (passes_lawful sized c.flips, λ lawful. lawful_passes lawful c.flips (omega arith))
