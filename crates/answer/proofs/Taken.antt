-- A file that passes is the file of its content (`taken_is_file`), so two files that pass and hold the same content are the same bytes
-- (`same_content_same_file`).
use mathlib.Core.Path.{◌≡◌, refl, sym, ap, ◌∙◌}
use mathlib.Core.List.{List, [], ◌++◌, append_assoc, append-nil}
use Prim.Native.Nat.{ℕ, ◌+◌, ◌*◌, ◌≤◌}
use native.Mathlib.Omega.{arith}
use lib.ListN.{length, drop, drop_of_length-le}
use Rattle.record.specs.Bytes.{number_at, File}
use Rattle.record.specs.Records as records
use Rattle.record.specs.Records.{record_of}
use Rattle.record.specs.declared.Cursor.{Cursor}
use Rattle.record.proofs.Numbers.{read_then}
use Rattle.record.proofs.Steps.{Held, record_bytes_lem}
use Rattle.answer.specs.Content.{run, head_bytes, group_bytes, flips_bytes, end_bytes, group_record, flips_record, file_of, length_of, content_in, group_count, flip_count, taxa_in, costs_in, columns_from, raised_from, lowered_from, flips_start}
use Rattle.answer.specs.Rules.{total_fault}
use Rattle.answer.specs.Tests.{in_file, walk, group_test, flips_test, end_test}
use Rattle.answer.specs.Reading.{file_tests}
use Rattle.answer.proofs.Runs.{entry, run_stands}
use Rattle.answer.proofs.Walks.{met, head_met, group_met, entry_met, walk_each, groups_move, flips_move, taxa_there}
use Rattle.answer.proofs.Files.{groups_lead, flips_lead, read_through}
use Rattle.std.specs.Prelude.{Ok}

module _ {file : List ℕ} (f : File file) where
  -- ---- the records that were passed stand in the file

  head_stands : {next : Cursor} → Held file 0 (record_of records.answer_head) 4 next
      → file ≡ head_bytes (number_at 2 file 4) (number_at 2 file 6) (group_count file) (flip_count file) (number_at 4 file 12) ++ drop 16 file
  unfolding head_bytes
  head_stands h =
      let long : 16 ≤ length file = h.ends in
      let total = read_then 4 12 f long refl refl in
      let flips = read_then 2 10 f (omega arith) refl total in
      let groups = read_then 2 8 f (omega arith) refl flips in
      let m = read_then 2 6 f (omega arith) refl groups in
      let n = read_then 2 4 f (omega arith) refl m in
      record_bytes_lem _ _ f h (n ∙ simp append_assoc)

  group_stands : {at : ℕ} {next : Cursor} → Held file at (record_of records.group) (at + 4) next
      → drop at file ≡ group_bytes (number_at 8 file (at + 4)) (number_at 4 file (at + 12)) ++ drop (at + 16) file
  unfolding group_bytes
  group_stands {at} h =
      let long : at + 16 ≤ length file = omega (arith, h.ends) in
      let cost = read_then 4 (at + 12) {after = at + 16} f long (omega arith) refl in
      let taxa = read_then 8 (at + 4) {after = at + 12} f (omega arith) (omega arith) cost in
      record_bytes_lem _ _ f h (taxa ∙ simp append_assoc)

  flips_stand : {at : ℕ} {next : Cursor} → Held file at (record_of records.flips) (at + 4) next
      → drop at file ≡ flips_bytes (number_at 2 file (at + 4)) (number_at 8 file (at + 6)) (number_at 8 file (at + 14)) ++ drop (at + 22) file
  unfolding flips_bytes
  flips_stand {at} h =
      let long : at + 22 ≤ length file = omega (arith, h.ends) in
      let lowered = read_then 8 (at + 14) {after = at + 22} f long (omega arith) refl in
      let raised = read_then 8 (at + 6) {after = at + 14} f (omega arith) (omega arith) lowered in
      let column = read_then 2 (at + 4) {after = at + 6} f (omega arith) (omega arith) raised in
      record_bytes_lem _ _ f h (column ∙ simp append_assoc)

  end_stands : {at b : ℕ} {next : Cursor} → Held file at (record_of records.answer_end) b next → drop at file ≡ end_bytes ++ drop b file
  unfolding end_bytes
  end_stands h = record_bytes_lem [] _ f h refl

  -- ---- the groups and the flips

  abbrev g : ℕ
  g = group_count file

  abbrev k : ℕ
  k = flip_count file

  groups_stand : (n : ℕ) (first : Cursor) {flips : Cursor} → first.at ≡ 16 → 16 ≤ length file → Ok flips ≡ walk (group_test (in_file file) n (taxa_in file g)) g first
      → drop 16 file ≡ run (group_record (taxa_in file g) (costs_in file g)) g ++ drop (flips_start g) file
  unfolding costs_in
  groups_stand n first at₁ long passed =
      run_stands file 16 16 (group_record (taxa_in file g) (costs_in file g)) g (λ i l.
      let it = walk_each (group_test (in_file file) n (taxa_in file g)) first g passed i l in
      let at = (groups_move file n i (taxa_in file g) first it.led (omega arith)).0 in
      let here : it.here.at ≡ 16 + 16 * i = omega arith in
      let stands = rw here at (group_stands (group_met file n (taxa_in file g) i it.here it.passed).1) in
      let t : 16 + 16 * i + 4 ≡ 20 + 16 * i = omega arith in
      let c : 16 + 16 * i + 12 ≡ 28 + 16 * i = omega arith in
      rw (taxa_there file g i l, entry (λ i. number_at 4 file (28 + 16 * i)) g i l, ← t, ← c) stands)

  flips_all_stand : (n m : ℕ) (from : Cursor) {end : Cursor} (at : ℕ) → from.at ≡ at → at ≤ length file
      → Ok end ≡ walk (flips_test (in_file file) n m (columns_from file at k) (raised_from file at k) (lowered_from file at k)) k from
      → drop at file ≡ run (flips_record (columns_from file at k) (raised_from file at k) (lowered_from file at k)) k ++ drop (at + 22 * k) file
  unfolding columns_from raised_from lowered_from
  flips_all_stand n m from at at₁ long passed =
      run_stands file at 22 (flips_record (columns_from file at k) (raised_from file at k) (lowered_from file at k)) k (λ j l.
      let it = walk_each (flips_test (in_file file) n m (columns_from file at k) (raised_from file at k) (lowered_from file at k)) from k passed j l in
      let moved = (flips_move file n m j (columns_from file at k) (raised_from file at k) (lowered_from file at k) from it.led (omega arith)).0 in
      let here : it.here.at ≡ at + 22 * j = omega arith in
      let stands = rw here at (flips_stand (entry_met file n m _ _ _ _ it.here it.passed).1) in
      rw (
        entry (λ j. number_at 2 file (at + 22 * j + 4)) k j l,
        entry (λ j. number_at 8 file (at + 22 * j + 6)) k j l,
        entry (λ j. number_at 8 file (at + 22 * j + 14)) k j l,
      )
      stands)

  -- The end record, and nothing after it.
  end_all : (here : Cursor) {last : Cursor} → Ok last ≡ end_test (in_file file) (number_at 4 file 12) (costs_in file g) g here → length file ≤ last.at
      → (drop here.at file ≡ end_bytes) × (length file ≡ here.at + 4)
  unfolding end_test
  end_all here e l =
      let h = (met file records.answer_end here (total_fault (number_at 4 file 12) (costs_in file g) g) here.at e).1 in
      (end_stands h ∙ ap (◌++◌ end_bytes) (drop_of_length-le file {i = here.at + 4} (omega arith)) ∙ append-nil end_bytes, omega arith)

  -- ---- the whole file

  -- "An accepted file is the encoding of its content."
  pub taken_is_file : {next : Cursor} → Ok next ≡ file_tests file → file ≡ file_of (content_in file)
  unfolding file_of
  taken_is_file e =
      let r = read_through file e in
      let s = r.stages in
      let (kept, h) = head_met file _ _ _ _ _ s.head_passed in
      let (at₂, fits₂) = groups_lead file s.head_passed s.groups_passed in
      let (at₃, fits₃) = flips_lead file s.flips_passed fits₂ in
      let (ends, long) = end_all s.end s.end_passed_lem r.all_read in
      let end_at : s.end.at ≡ flips_start g + 22 * k = omega arith in
      let groups = groups_stand (number_at 2 file 4) s.first h.moves h.ends s.groups_passed in
      let flips = flips_all_stand (number_at 2 file 4) (number_at 2 file 6) s.flips (flips_start g) at₂ (omega arith) s.flips_passed in
      let head = head_stands h in
      let c = content_in file in
      let head-part : List ℕ = head_bytes c.n c.m c.groups c.flips c.total in
      let groups-part : List ℕ = run (group_record c.taxa c.costs) c.groups in
      let flips_part : List ℕ = run (flips_record c.columns c.raised c.lowered) c.flips in
      head ∙ ap (◌++◌ head-part) (groups ∙ ap (◌++◌ groups-part) (flips ∙ ap (◌++◌ flips_part) (rw end_at at ends))) ∙ simp append_assoc

  pub taken_length : {next : Cursor} → Ok next ≡ file_tests file → length file ≡ length_of (content_in file)
  taken_length e =
      let r = read_through file e in
      let s = r.stages in
      let (at₂, fits₂) = groups_lead file s.head_passed s.groups_passed in
      let (at₃, fits₃) = flips_lead file s.flips_passed fits₂ in
      let (ends, long) = end_all s.end s.end_passed_lem r.all_read in
      omega arith

-- No two accepted files carry the same content.
pub same_content_same_file : {file file' : List ℕ} {next next' : Cursor} → File file → File file' → Ok next ≡ file_tests file → Ok next' ≡ file_tests file'
    → content_in file ≡ content_in file' → file ≡ file'
same_content_same_file f f' t t' e = taken_is_file f t ∙ ap file_of e ∙ sym (taken_is_file f' t')
