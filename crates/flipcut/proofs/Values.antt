-- A value that is put into 131 numbers is the value in them (`value_put`), and the value of a file that is read has its 63 places (`read_long`).
use mathlib.Core.Path.{◌≡◌, refl, ◌∙◌}
use mathlib.Core.List.{List, [], ◌∷◌}
use mathlib.Core.Logic.{⊎_elim}
use Prim.Native.Nat.{ℕ, zero, suc, ◌+◌, ◌≤◌, ◌<◌}
use native.Mathlib.Nat.{eq-or-lt_of_le}
use native.Mathlib.Omega.{arith}
use lib.Dec.{lit<, lit≤}
use lib.ListN.{length, length-set, get_or, set, replicate}
use lib.Seq.{get_or-set_same, get_or-set_other}
use Rattle.record.specs.declared.Cursor.{Cursor}
use Rattle.record.proofs.Over.{length_over}
use Rattle.record.proofs.Passing.{through}
use Rattle.answer.specs.declared.Answer.{Answer}
use Rattle.answer.specs.Content.{content_in, flip_count, taxa_in, costs_in, padded}
use Rattle.answer.specs.Tests.{in_file, tests}
use Rattle.answer.specs.Reading.{file_tests, read_tests}
use Rattle.answer.proofs.Files.{head_of, head_leads}
use Rattle.answer.proofs.Runs.{length_entries, entries_are}
use Rattle.flipcut.specs.Packed.{groups_at, costs_at, with_groups, value_after}
use Rattle.flipcut.specs.Unpacked.{value_in}
use Rattle.std.specs.Prelude.{Ok}

-- ---- the groups and costs in their places
module _ (taxa costs xs : List ℕ) (long : length xs ≡ 131) where
  -- After k groups, and after the next group, before its cost.
  abbrev put : ℕ → List ℕ
  put k = with_groups k taxa costs xs

  abbrev half : ℕ → List ℕ
  half k = set (put k) (groups_at + k) (get_or taxa k 0)

  still_long : (k : ℕ) → length (put k) ≡ 131
  unfolding with_groups
  still_long zero = long
  still_long (suc k) = length-set (half k) (costs_at + k) (get_or costs k 0) ∙ length-set (put k) (groups_at + k) (get_or taxa k 0) ∙ still_long k

  -- Place j has v: so it is after one more group, where neither of its two places is j.
  kept_more : (j k : ℕ) → (j ≡ groups_at + k → ⊥) → (j ≡ costs_at + k → ⊥) → {v : ℕ} → get_or (put k) j 0 ≡ v → get_or (put (suc k)) j 0 ≡ v
  unfolding with_groups
  kept_more j k no_group_lem no_cost e =
      get_or-set_other (half k) (costs_at + k) j (get_or costs k 0) 0 no_cost ∙ get_or-set_other (put k) (groups_at + k) j (get_or taxa k 0) 0 no_group_lem ∙ e

  head_kept : (j k : ℕ) → j < groups_at → get_or (put k) j 0 ≡ get_or xs j 0
  unfolding with_groups
  head_kept j zero l = refl
  head_kept j (suc k) l = kept_more j k (λ e. omega arith) (λ e. omega arith) (head_kept j k l)

  new_cost : (k : ℕ) → k < 63 → get_or (put (suc k)) (costs_at + k) 0 ≡ get_or costs k 0
  unfolding with_groups
  new_cost k l =
      let same = length-set (put k) (groups_at + k) (get_or taxa k 0) in
      get_or-set_same (half k) (costs_at + k) (get_or costs k 0) 0 (omega (arith, same, still_long k))

  new_group : (k : ℕ) → k < 63 → get_or (put (suc k)) (groups_at + k) 0 ≡ get_or taxa k 0
  unfolding with_groups
  new_group k l =
      get_or-set_other (half k) (costs_at + k) (groups_at + k) (get_or costs k 0) 0 (λ e. omega arith)
      ∙ get_or-set_same (put k) (groups_at + k) (get_or taxa k 0) 0 (omega (arith, still_long k))

  group_at : (k i : ℕ) → k ≤ 63 → i < k → get_or (put k) (groups_at + i) 0 ≡ get_or taxa i 0
  group_at zero i l b = absurd (omega arith)
  group_at (suc k) i l b =
      let below : i ≤ k = omega arith in
      let before : i < k → get_or (put (suc k)) (groups_at + i) 0 ≡ get_or taxa i 0
      = λ less. kept_more (groups_at + i) k (λ e. omega arith) (λ e. omega arith) (group_at k i (omega arith) less) in
      ⊎_elim (λ e. rw e (new_group k (omega arith))) before (eq-or-lt_of_le below)

  cost_at : (k i : ℕ) → k ≤ 63 → i < k → get_or (put k) (costs_at + i) 0 ≡ get_or costs i 0
  cost_at zero i l b = absurd (omega arith)
  cost_at (suc k) i l b =
      let below : i ≤ k = omega arith in
      let before : i < k → get_or (put (suc k)) (costs_at + i) 0 ≡ get_or costs i 0
      = λ less. kept_more (costs_at + i) k (λ e. omega arith) (λ e. omega arith) (cost_at k i (omega arith) less) in
      ⊎_elim (λ e. rw e (new_cost k (omega arith))) before (eq-or-lt_of_le below)

-- ---- the whole value

-- Five numbers, each set, in a list that is long enough.
five_set : (xs : List ℕ) → length xs ≡ 131 → (a b c d e : ℕ) → let ys = set (set (set (set (set xs 0 a) 1 b) 2 c) 3 d) 4 e in
    (length ys ≡ 131) × (get_or ys 0 0 ≡ a) × (get_or ys 1 0 ≡ b) × (get_or ys 2 0 ≡ c) × (get_or ys 3 0 ≡ d) × (get_or ys 4 0 ≡ e)
five_set (u ∷ v ∷ w ∷ x ∷ y ∷ zs) long a b c d e = (long, refl, refl, refl, refl, refl)
five_set [] long a b c d e = absurd (omega arith)
five_set (u ∷ []) long a b c d e = absurd (omega arith)
five_set (u ∷ v ∷ []) long a b c d e = absurd (omega arith)
five_set (u ∷ v ∷ w ∷ []) long a b c d e = absurd (omega arith)
five_set (u ∷ v ∷ w ∷ x ∷ []) long a b c d e = absurd (omega arith)

pub value_put : (a : Answer) (before : List ℕ) → length before ≡ 131 → length a.taxa ≡ 63 → length a.costs ≡ 63 → value_in (value_after (Ok a) before) ≡ a
value_put a before long full full' =
    let five : List ℕ = set (set (set (set (set before 0 a.n) 1 a.m) 2 a.groups) 3 a.flips) 4 a.total in
    let after : ℕ → ℕ = λ j. get_or (value_after (Ok a) before) j 0 in
    let (long', n, m, groups, flips, total) = five_set before long a.n a.m a.groups a.flips a.total in
    let kept : (j : ℕ) → j < groups_at → after j ≡ get_or five j 0 = λ j l. head_kept a.taxa a.costs five long' j 63 l in
    let taxa : (k : ℕ) → k < 63 → after (groups_at + k) ≡ get_or a.taxa k 0 = λ k l. group_at a.taxa a.costs five long' 63 k (lit≤ tt) l in
    let costs : (k : ℕ) → k < 63 → after (costs_at + k) ≡ get_or a.costs k 0 = λ k l. cost_at a.taxa a.costs five long' 63 k (lit≤ tt) l in
    λ i. record {
      n = (kept 0 (lit< tt) ∙ n) i;
      m = (kept 1 (lit< tt) ∙ m) i;
      groups = (kept 2 (lit< tt) ∙ groups) i;
      flips = (kept 3 (lit< tt) ∙ flips) i;
      total = (kept 4 (lit< tt) ∙ total) i;
      taxa = entries_are (λ k. after (groups_at + k)) 63 a.taxa full taxa i;
      costs = entries_are (λ k. after (costs_at + k)) 63 a.costs full' costs i;
    }

-- ---- a file that is read

pub read_long : (file : List ℕ) (room : ℕ) (here : Cursor) → Ok here ≡ read_tests file room
    → (length (padded (content_in file).taxa) ≡ 63) × (length (padded (content_in file).costs) ≡ 63)
unfolding read_tests file_tests tests taxa_in costs_in
read_long file room here e =
    let (end, passed, after) = through (file_tests file) e in
    let (last, tested, nothing) = through (tests (in_file file) (content_in file) (flip_count file)) passed in
    let (first, headed, rest) = through (head_of file) tested in
    let (kept, at, long) = head_leads file headed in
    let fits : (xs : List ℕ) → length xs ≡ (content_in file).groups → length (padded xs) ≡ 63
    = λ xs n. length_over xs 0 (replicate 63 0) (omega (arith, n, kept.few, kept.fewer)) in
    (fits _ (length_entries _ _), fits _ (length_entries _ _))
