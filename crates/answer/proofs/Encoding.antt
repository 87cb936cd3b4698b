-- The file of a lawful content is taken (`file_taken`) and holds that content (`file_holds`).
use mathlib.Core.Path.{◌≡◌, refl, sym, ap, ◌∙◌}
use mathlib.Core.List.{List, [], ◌++◌, append_assoc, append-nil}
use Prim.Native.Nat.{ℕ, ◌+◌, ◌*◌, ◌^◌, ◌<◌}
use native.Mathlib.Omega.{arith}
use lib.Dec.{lit<}
use lib.ListN.{get_or, drop, length-append}
use Rattle.taxa.specs.Sets.{◌⊆◌, all}
use Rattle.taxa.proofs.Members.{set_fits}
use Rattle.taxa.proofs.Sums.{sum_next, sum_mono}
use Rattle.record.specs.Bytes.{number_at, bytes_of}
use Rattle.record.specs.Records as records
use Rattle.record.specs.Records.{record_of, record_bytes, payload, step, Passed}
use Rattle.record.specs.declared.Cursor.{Cursor}
use Rattle.record.specs.declared.Step.TheVariants.{Payload}
use Rattle.record.proofs.Numbers.{length_bytes, field_read}
use Rattle.record.proofs.Steps.{content_stands, record_taken, none_after}
use Rattle.answer.specs.Content.{Content, run, head_bytes, group_bytes, flips_bytes, end_bytes, group_record, flips_record, file_of, length_of, content_in, group_count, flip_count, taxa_in, costs_in, columns_from, raised_from, lowered_from, flips_start}
use Rattle.answer.specs.Lawful.{Lawful}
use Rattle.answer.specs.Tests.{in_file, as_given, walk, head_test, group_test, entry_test, flips_test, end_test, tests}
use Rattle.answer.specs.Reading.{file_tests}
use Rattle.answer.proofs.Runs.{run_holds, run_past, entries_are}
use Rattle.answer.proofs.Pieces.{length_group, length_flips, length_file}
use Rattle.answer.proofs.Walks.{walk_carries, given_head, given_group, given_entry, given_groups_move, given_flips_move}
use Rattle.answer.proofs.Stages.{Staged, staged, ends_with}
use Rattle.answer.proofs.Files.{ends}
use Rattle.answer.proofs.Meaning.{fewer_groups, passes_exactly}
use Rattle.std.specs.Prelude.{Ok}

-- A record that a step takes is met in a file as it is met as given.
alike : (file : List ℕ) (kind : ℕ) (here : Cursor) (go : Cursor → Passed) {at : ℕ} → Payload at (record { at = here.at + 4 + payload kind }) ≡ step file here.at (record_of kind)
    → as_given kind here go ≡ in_file file kind here go
alike file kind here go e = rw (← e)

module _ {c : Content} (lawful : Lawful c) where
  abbrev file : List ℕ
  file = file_of c

  abbrev stages : Staged as_given c c.flips (record { at = length_of c })
  stages = staged as_given c c.flips ((passes_exactly lawful.sized).1 lawful)

  known_fits : {x : ℕ} → x ⊆ all c.n → x < 256 ^ 8
  known_fits = set_fits lawful.head_lawful.few_taxa

  -- Each cost is at most the total.
  cost_fits : (i : ℕ) → i < c.groups → get_or c.costs i 0 < 256 ^ 4
  cost_fits i l =
      omega (arith, lawful.total_is_sum, sum_next i (λ i. get_or c.costs i 0), sum_mono (λ i. get_or c.costs i 0) {j = i + 1} {k = c.groups} (omega arith), lawful.sized.total_fits)

  -- ---- the head

  abbrev flips_part : List ℕ
  flips_part = run (flips_record c.columns c.raised c.lowered) c.flips ++ end_bytes

  abbrev after_head : List ℕ
  after_head = run (group_record c.taxa c.costs) c.groups ++ flips_part

  abbrev head_payload : List ℕ
  head_payload = bytes_of 2 c.n ++ bytes_of 2 c.m ++ bytes_of 2 c.groups ++ bytes_of 2 c.flips ++ bytes_of 4 c.total

  head_stands : drop 0 file ≡ record_bytes (record_of records.answer_head) head_payload ++ after_head
  unfolding file_of head_bytes
  head_stands = simp append_assoc

  numbers : (number_at 2 file 4 ≡ c.n) × (number_at 2 file 6 ≡ c.m) × (group_count file ≡ c.groups) × (flip_count file ≡ c.flips) × (number_at 4 file 12 ≡ c.total) × (drop 16 file ≡ after_head)
  numbers =
      let h = lawful.head_lawful in
      let start = simp append_assoc at (content_stands file head_payload after_head 0 (record_of records.answer_head) head_stands) in
      let (n-is, e₁) = field_read 2 c.n file (bytes_of 2 c.m ++ (bytes_of 2 c.groups ++ (bytes_of 2 c.flips ++ (bytes_of 4 c.total ++ after_head)))) 4 {after = 6} (omega (arith, h.few_taxa)) start refl in
      let (m-is, e₂) = field_read 2 c.m file (bytes_of 2 c.groups ++ (bytes_of 2 c.flips ++ (bytes_of 4 c.total ++ after_head))) 6 {after = 8} (omega (arith, h.few_columns)) e₁ refl in
      let (g-is, e₃) = field_read 2 c.groups file (bytes_of 2 c.flips ++ (bytes_of 4 c.total ++ after_head)) 8 {after = 10} (omega (arith, h.few_taxa, fewer_groups lawful)) e₂ refl in
      let (f-is, e₄) = field_read 2 c.flips file (bytes_of 4 c.total ++ after_head) 10 {after = 12} (omega (arith, h.few_columns, h.few_flips)) e₃ refl in
      let (t-is, e₅) = field_read 4 c.total file after_head 12 {after = 16} lawful.sized.total_fits e₄ refl in
      (n-is, m-is, g-is, f-is, t-is, e₅)

  head_alike : head_test as_given c.n c.m c.groups c.flips c.flips ≡ head_test (in_file file) c.n c.m c.groups c.flips c.flips
  unfolding head_test
  head_alike =
      alike file records.answer_head (record { at = 0 }) _
      (record_taken file head_payload after_head 0 (record_of records.answer_head) head_stands (lit< tt) (lit< tt) (simp (length-append, length_bytes)))

  -- ---- the groups

  group_at : (i : ℕ) → i < c.groups → (r : List ℕ) × (drop (16 + 16 * i) file ≡ group_record c.taxa c.costs i ++ r)
  group_at = run_holds file 16 16 (group_record c.taxa c.costs) (λ i. length_group _ _) c.groups flips_part numbers.5

  module _ (i : ℕ) (l : i < c.groups) where
    abbrev group_payload : List ℕ
    group_payload = bytes_of 8 (get_or c.taxa i 0) ++ bytes_of 4 (get_or c.costs i 0)

    group_fields : (number_at 8 file (20 + 16 * i) ≡ get_or c.taxa i 0) × (number_at 4 file (28 + 16 * i) ≡ get_or c.costs i 0)
    unfolding group_bytes
    group_fields =
        let (r, e) = group_at i l in
        let at : 16 + 16 * i + 4 ≡ 20 + 16 * i = omega arith in
        let start = rw at at (simp append_assoc at (content_stands file group_payload r (16 + 16 * i) (record_of records.group) e)) in
        let (t-is, e₁) = field_read 8 (get_or c.taxa i 0) file (bytes_of 4 (get_or c.costs i 0) ++ r) (20 + 16 * i) {after = 28 + 16 * i} (known_fits (lawful.groups_lawful.known i l)) start (omega arith) in
        let (c-is, e₂) = field_read 4 (get_or c.costs i 0) file r (28 + 16 * i) {after = 32 + 16 * i} (cost_fits i l) e₁ (omega arith) in
        (t-is, c-is)

    group_alike : (here : Cursor) → here.at ≡ 16 + 16 * i → group_test as_given c.n c.taxa i here ≡ group_test (in_file file) c.n c.taxa i here
    unfolding group_test group_bytes
    group_alike here at =
        let (r, e) = group_at i l in
        alike file records.group here _
        (record_taken file group_payload r here.at (record_of records.group) (rw at e) (lit< tt) (lit< tt) (simp (length-append, length_bytes)))

  groups_alike : Ok stages.flips ≡ walk (group_test (in_file file) c.n c.taxa) c.groups stages.first
  groups_alike =
      let at₁ = (given_head _ _ _ _ _ stages.head_passed).1 in
      walk_carries (group_test (in_file file) c.n c.taxa) (group_test as_given c.n c.taxa) 16 (λ i here next e. (given_group c.n c.taxa i here e).1)
      c.groups stages.first (λ i here next l at e. e ∙ group_alike i l here (omega arith)) stages.groups_passed

  -- ---- the flips

  abbrev flips_at : ℕ
  flips_at = flips_start c.groups

  flips_stand : drop flips_at file ≡ flips_part
  flips_stand = run_past file 16 16 (group_record c.taxa c.costs) (λ i. length_group _ _) c.groups flips_part numbers.5

  entry_at : (j : ℕ) → j < c.flips → (r : List ℕ) × (drop (flips_at + 22 * j) file ≡ flips_record c.columns c.raised c.lowered j ++ r)
  entry_at = run_holds file flips_at 22 (flips_record c.columns c.raised c.lowered) (λ j. length_flips _ _ _) c.flips end_bytes flips_stand

  module _ (j : ℕ) (l : j < c.flips) where
    abbrev entry_payload : List ℕ
    entry_payload = bytes_of 2 (get_or c.columns j 0) ++ bytes_of 8 (get_or c.raised j 0) ++ bytes_of 8 (get_or c.lowered j 0)

    entry_fields : (number_at 2 file (flips_at + 22 * j + 4) ≡ get_or c.columns j 0) × (number_at 8 file (flips_at + 22 * j + 6) ≡ get_or c.raised j 0)
        × (number_at 8 file (flips_at + 22 * j + 14) ≡ get_or c.lowered j 0)
    unfolding flips_bytes
    entry_fields =
        let (r, e) = entry_at j l in
        let k = lawful.flips_lawful in
        let at = flips_at + 22 * j in
        let start = simp append_assoc at (content_stands file entry_payload r at (record_of records.flips) e) in
        let (c-is, e₁) = field_read 2 (get_or c.columns j 0) file (bytes_of 8 (get_or c.raised j 0) ++ (bytes_of 8 (get_or c.lowered j 0) ++ r)) (at + 4) {after = at + 6} (omega (arith, k.column_known j l, lawful.head_lawful.few_columns)) start (omega arith) in
        let (r-is, e₂) = field_read 8 (get_or c.raised j 0) file (bytes_of 8 (get_or c.lowered j 0) ++ r) (at + 6) {after = at + 14} (known_fits (k.raised_known j l)) e₁ (omega arith) in
        let (l-is, e₃) = field_read 8 (get_or c.lowered j 0) file r (at + 14) {after = at + 22} (known_fits (k.lowered_known j l)) e₂ (omega arith) in
        (c-is, r-is, l-is)

    entry_alike : (here : Cursor) → here.at ≡ flips_at + 22 * j
        → flips_test as_given c.n c.m c.columns c.raised c.lowered j here ≡ flips_test (in_file file) c.n c.m c.columns c.raised c.lowered j here
    unfolding entry_test flips_bytes
    entry_alike here at =
        let (r, e) = entry_at j l in
        alike file records.flips here _
        (record_taken file entry_payload r here.at (record_of records.flips) (rw at e) (lit< tt) (lit< tt) (simp (length-append, length_bytes)))

  flips_alike : Ok stages.end ≡ walk (flips_test (in_file file) c.n c.m c.columns c.raised c.lowered) c.flips stages.flips
  flips_alike =
      let at₁ = (given_head _ _ _ _ _ stages.head_passed).1 in
      let at₂ = given_groups_move c.n c.groups c.taxa stages.first stages.groups_passed in
      walk_carries (flips_test (in_file file) c.n c.m c.columns c.raised c.lowered) (flips_test as_given c.n c.m c.columns c.raised c.lowered) 22
      (λ j here next e. (given_entry c.n c.m _ _ _ _ here e).1)
      c.flips stages.flips (λ j here next l at e. e ∙ entry_alike j l here (omega arith)) stages.flips_passed

  -- ---- the end

  end_at : stages.end.at ≡ flips_at + 22 * c.flips
  end_at =
      let at₁ = (given_head _ _ _ _ _ stages.head_passed).1 in
      let at₂ = given_groups_move c.n c.groups c.taxa stages.first stages.groups_passed in
      omega (arith, given_flips_move c.n c.m c.flips c.columns c.raised c.lowered stages.flips stages.flips_passed)

  end_alike : end_test as_given c.total c.costs c.groups stages.end ≡ end_test (in_file file) c.total c.costs c.groups stages.end
  unfolding end_test end_bytes
  end_alike =
      let e = run_past file flips_at 22 (flips_record c.columns c.raised c.lowered) (λ j. length_flips _ _ _) c.flips end_bytes flips_stand in
      alike file records.answer_end stages.end _
      (record_taken file [] [] stages.end.at (record_of records.answer_end) (rw end_at (e ∙ sym (append-nil end_bytes))) (lit< tt) (lit< tt) refl)

  -- ---- the whole file

  passes_in_file : Ok (record { at = length_of c }) ≡ tests (in_file file) c c.flips
  passes_in_file =
      stages.end_passed_lem ∙ end_alike ∙ ends_with (in_file file) c c.flips (stages.head_passed ∙ head_alike) groups_alike flips_alike

  -- ".. and reads back to it."
  pub file_holds : content_in file ≡ c
  unfolding taxa_in costs_in columns_from raised_from lowered_from
  file_holds =
      let (n-is, m-is, g-is, f-is, t-is, rest) = numbers in
      rw (n-is, m-is, g-is, f-is, t-is)
      (λ i. record {
        n = c.n;
        m = c.m;
        groups = c.groups;
        flips = c.flips;
        total = c.total;
        taxa = entries_are (λ i. number_at 8 file (20 + 16 * i)) c.groups c.taxa lawful.sized.taxa_sized (λ i l. (group_fields i l).0) i;
        costs = entries_are (λ i. number_at 4 file (28 + 16 * i)) c.groups c.costs lawful.sized.costs_sized (λ i l. (group_fields i l).1) i;
        columns = entries_are (λ j. number_at 2 file (flips_at + 22 * j + 4)) c.flips c.columns lawful.sized.columns_sized (λ j l. (entry_fields j l).0) i;
        raised = entries_are (λ j. number_at 8 file (flips_at + 22 * j + 6)) c.flips c.raised lawful.sized.raised_sized (λ j l. (entry_fields j l).1) i;
        lowered = entries_are (λ j. number_at 8 file (flips_at + 22 * j + 14)) c.flips c.lowered lawful.sized.lowered_sized (λ j l. (entry_fields j l).2) i;
      })

  -- "The encoding of any content that keeps the rules is accepted .."
  pub file_taken : Ok (record { at = length_of c }) ≡ file_tests file
  file_taken =
      let same = ap (λ (x : Content). tests (in_file file) x x.flips) (sym file_holds) in
      none_after file (record { at = length_of c }) (omega (arith, length_file c)) ∙ ends file (passes_in_file ∙ same)
