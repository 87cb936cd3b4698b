-- What is taken is lawful: the content of a file that passes (`taken_lawful`), and what is given to writing and passes (`given_lawful`). So a file
-- passes exactly when it is the file of a lawful content (`taken_exactly`).
use mathlib.Core.Path.{◌≡◌, ◌∙◌}
use mathlib.Core.List.{List, []}
use mathlib.Core.Logic.{◌↔◌}
use Prim.Native.Nat.{ℕ, ◌+◌, ◌^◌, ◌≤◌, ◌<◌}
use native.Mathlib.Omega.{arith}
use lib.ListN.{length, length-take}
use Rattle.record.specs.Bytes.{File}
use Rattle.record.specs.Records as records
use Rattle.record.specs.declared.Cursor.{Cursor}
use Rattle.record.proofs.Numbers.{at_lt}
use Rattle.answer.specs.declared.Answer.{Answer}
use Rattle.answer.specs.Content.{Content, content_in, content_of, file_of, length_of, group_count, flip_count, taxa_in, costs_in, columns_from, raised_from, lowered_from}
use Rattle.answer.specs.Lawful.{Sized, Lawful}
use Rattle.answer.specs.Rules.{head_fault, total_fault}
use Rattle.answer.specs.Tests.{in_file, as_given, walk, head_test, group_test, entry_test, flips_test, end_test, tests}
use Rattle.answer.specs.Reading.{listed, file_tests}
use Rattle.answer.proofs.Runs.{length_entries}
use Rattle.answer.proofs.Walks.{walk_carries, no_fault, met, group_met, entry_met}
use Rattle.answer.proofs.Stages.{Staged, ends_with}
use Rattle.answer.proofs.Files.{read_through}
use Rattle.answer.proofs.Outcomes.{given_head_kept}
use Rattle.answer.proofs.Meaning.{passes_lawful}
use Rattle.answer.proofs.Taken.{taken_is_file}
use Rattle.answer.proofs.Encoding.{file_taken}
use Rattle.std.specs.Prelude.{Ok}

pub given_lawful : (a : Answer) (columns raised lowered : List ℕ) → length a.taxa ≡ 63 → length a.costs ≡ 63 → a.total < 2 ^ 32
    → {last : Cursor} → Ok last ≡ tests as_given (content_of a columns raised lowered) (listed columns raised lowered) → Lawful (content_of a columns raised lowered)
given_lawful a columns raised lowered t s fits e =
    let c = content_of a columns raised lowered in
    let all = listed columns raised lowered in
    let k = given_head_kept c all [] e in
    let few : a.groups ≤ 63 = omega (arith, k.few, k.fewer) in
    let there : a.flips ≤ all = k.all_listed in
    passes_lawful {c = c}
    (record {
      taxa_sized = length-take a.groups a.taxa ∙ omega arith;
      costs_sized = length-take a.groups a.costs ∙ omega arith;
      columns_sized = length-take a.flips columns ∙ omega arith;
      raised_sized = length-take a.flips raised ∙ omega arith;
      lowered_sized = length-take a.flips lowered ∙ omega arith;
      total_fits = fits;
    })
    all e

-- ---- what a file holds

module _ (file : List ℕ) {next : Cursor} (e : Ok next ≡ file_tests file) where
  abbrev c : Content
  c = content_in file

  abbrev read : Staged (in_file file) c (flip_count file) (read_through file e).last
  read = (read_through file e).stages

  head_given : Ok read.first ≡ head_test as_given c.n c.m c.groups c.flips c.flips
  unfolding head_test
  head_given =
      let (none, h) = met file records.answer_head (record { at = 0 }) (head_fault c.n c.m c.groups c.flips c.flips) 0 read.head_passed in
      no_fault 0 16 none h.moves

  groups_given : Ok read.flips ≡ walk (group_test as_given c.n c.taxa) c.groups read.first
  unfolding group_test
  groups_given =
      walk_carries (group_test as_given c.n c.taxa) (group_test (in_file file) c.n c.taxa) 16
      (λ i here next p. let h = (group_met file c.n c.taxa i here p).1 in omega arith)
      c.groups read.first
      (λ i here next l at p. let (none, h) = group_met file c.n c.taxa i here p in no_fault here.at (here.at + 4 + 12) none h.moves)
      read.groups_passed

  flips_given_lem : Ok read.end ≡ walk (flips_test as_given c.n c.m c.columns c.raised c.lowered) c.flips read.flips
  unfolding entry_test
  flips_given_lem =
      walk_carries (flips_test as_given c.n c.m c.columns c.raised c.lowered) (flips_test (in_file file) c.n c.m c.columns c.raised c.lowered) 22
      (λ j here next p. let h = (entry_met file c.n c.m _ _ _ _ here p).1 in omega arith)
      c.flips read.flips
      (λ j here next l at p. let (none, h) = entry_met file c.n c.m _ _ _ _ here p in no_fault here.at (here.at + 4 + 18) none h.moves)
      read.flips_passed

  end_given : Ok (read_through file e).last ≡ end_test as_given c.total c.costs c.groups read.end
  unfolding end_test
  end_given =
      let here = read.end in
      let (none, h) = met file records.answer_end here (total_fault c.total c.costs c.groups) here.at read.end_passed_lem in
      no_fault here.at (here.at + 4 + 0) none h.moves

  contents_sized : File file → Sized c
  unfolding taxa_in costs_in columns_from raised_from lowered_from
  contents_sized f =
      record {
        taxa_sized = length_entries _ (group_count file);
        costs_sized = length_entries _ (group_count file);
        columns_sized = length_entries _ (flip_count file);
        raised_sized = length_entries _ (flip_count file);
        lowered_sized = length_entries _ (flip_count file);
        total_fits = at_lt 4 12 f;
      }

  pub taken_lawful : File file → Lawful c
  taken_lawful f = passes_lawful (contents_sized f) c.flips (end_given ∙ ends_with as_given c c.flips head_given groups_given flips_given_lem)

-- A file is taken exactly when it is the file of a lawful content.
pub taken_exactly : (file : List ℕ) → File file → ((next : Cursor) × (Ok next ≡ file_tests file)) ↔ ((c : Content) × Lawful c × (file ≡ file_of c))
taken_exactly file f = (
  λ (next, e). (content_in file, taken_lawful file e f, taken_is_file f e),
  λ (c, lawful, is). (record { at = length_of c }, rw is (file_taken lawful)),
)
