-- The tests of a file: where each stage leads, and what a file that passes them all has passed (`Read`, `read_through`).
use mathlib.Core.Path.{◌≡◌}
use mathlib.Core.List.{List}
use Prim.Native.Nat.{ℕ, ◌+◌, ◌*◌, ◌≤◌}
use native.Mathlib.Omega.{arith}
use lib.Dec.{ltb}
use lib.ListN.{length}
use borrow.Author.Tests.{ltb-false}
use Rattle.record.specs.Bytes.{number_at}
use Rattle.record.specs.Records.{left, nothing_after, Passed}
use Rattle.record.specs.declared.Cursor.{Cursor}
use Rattle.record.specs.declared.refusal.Refusal.{Refusal}
use Rattle.record.proofs.Passing.{unless, through}
use Rattle.answer.specs.Content.{content_in, group_count, flip_count, taxa_in, columns_from, raised_from, lowered_from, flips_start}
use Rattle.answer.specs.Tests.{in_file, tests}
use Rattle.answer.specs.Reading.{file_tests}
use Rattle.answer.proofs.Kept.{HeadKept}
use Rattle.answer.proofs.Walks.{head_met, groups_move, flips_move}
use Rattle.answer.proofs.Stages as stages
use Rattle.answer.proofs.Stages.{Staged, staged}
use Rattle.std.specs.Prelude.{Ok, Err}

module _ (file : List ℕ) where
  abbrev pub head_of : Passed
  head_of = stages.head_of (in_file file) (content_in file) (flip_count file)

  abbrev pub groups_of : Cursor → Passed
  groups_of = stages.groups_of (in_file file) (content_in file) (flip_count file)

  abbrev pub flips_of : Cursor → Passed
  flips_of = stages.flips_of (in_file file) (content_in file) (flip_count file)

  abbrev pub end_of : Cursor → Passed
  end_of = stages.end_of (in_file file) (content_in file) (flip_count file)

  -- ---- where each stage leads

  pub head_leads : {first : Cursor} → Ok first ≡ head_of
      → HeadKept (number_at 2 file 4) (number_at 2 file 6) (group_count file) (flip_count file) (flip_count file) × (first.at ≡ 16) × (16 ≤ length file)
  head_leads e = let (k, h) = head_met file _ _ _ _ _ e in (k, h.moves, h.ends)

  pub groups_lead : {first flips : Cursor} → Ok first ≡ head_of → Ok flips ≡ groups_of first → (flips.at ≡ flips_start (group_count file)) × (flips.at ≤ length file)
  groups_lead {first} {flips} h g =
      let (k, at, long) = head_leads h in
      let (moved, fits) = groups_move file (number_at 2 file 4) (group_count file) (taxa_in file (group_count file)) first g (omega arith) in
      (omega arith, fits)

  pub flips_lead : {flips end : Cursor} → Ok end ≡ flips_of flips → flips.at ≤ length file → (end.at ≡ flips.at + 22 * flip_count file) × (end.at ≤ length file)
  flips_lead {flips} f l =
      let at = flips_start (group_count file) in
      let k = flip_count file in
      flips_move file (number_at 2 file 4) (number_at 2 file 6) k (columns_from file at k) (raised_from file at k) (lowered_from file at k) flips f l

  -- ---- the whole file

  pub stops : {why : Refusal} → Err why ≡ tests (in_file file) (content_in file) (flip_count file) → Err why ≡ file_tests file
  unfolding file_tests
  stops e = rw (← e)

  pub ends : {last : Cursor} → Ok last ≡ tests (in_file file) (content_in file) (flip_count file) → nothing_after file last ≡ file_tests file
  unfolding file_tests
  ends e = rw (← e)

  pub record Read : Type 0 where
    pub last : Cursor
    pub stages : Staged (in_file file) (content_in file) (flip_count file) last
    pub all_read : length file ≤ last.at

  pub read_through : {next : Cursor} → Ok next ≡ file_tests file → Read
  unfolding file_tests nothing_after
  read_through e =
      let (last, passed, after) = through (tests (in_file file) (content_in file) (flip_count file)) e in
      let (none, e₄) = unless (ltb 0 (left file last.at)) _ _ after in
      record { last = last; stages = staged (in_file file) (content_in file) (flip_count file) passed; all_read = omega (arith, ltb-false 0 (left file last.at) none) }
