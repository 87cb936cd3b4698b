-- What reading and writing come to, by how their tests end.
use mathlib.Core.Path.{◌≡◌, refl}
use mathlib.Core.List.{List, []}
use Prim.Native.Nat.{ℕ, ◌+◌, ◌*◌, ◌≤◌, ◌<◌}
use native.Mathlib.Omega.{arith}
use lib.ListN.{length, get_or, take, replicate}
use lib.Seq.{get_or-take}
use borrow.Author.Tests.{lt-ltb, le-ltb}
use Rattle.record.specs.Bytes.{number_at, over}
use Rattle.record.specs.Refusals.{refused}
use Rattle.record.proofs.Over.{length_over}
use Rattle.record.specs.declared.Cursor.{Cursor}
use Rattle.record.specs.declared.refusal.Refusal.{Refusal}
use Rattle.answer.specs.declared.Answer.{Answer}
use Rattle.answer.specs.Content.{Content, content_in, content_of, answer_of, group_count, flip_count, flips_start, taxa_in, file_of, length_of}
use Rattle.answer.specs.Rules.{floor_of}
use Rattle.answer.specs.Tests.{judge, as_given, flips_test, tests}
use Rattle.answer.specs.Reading.{listed, file_tests, read_tests, reading, Reads}
use Rattle.answer.specs.Writing.{writing, write_tests, Writes}
use Rattle.answer.proofs.Runs.{front_is}
use Rattle.answer.proofs.Kept.{HeadKept, EntryKept, entry_keeps}
use Rattle.answer.proofs.Walks.{length_taxa, walk_each, given_head, given_entry}
use Rattle.answer.proofs.Stages.{staged}
use Rattle.answer.proofs.Files.{head_leads, groups_lead, flips_lead, read_through}
use Rattle.std.specs.Prelude.{Ok, Err}
use Rattle.record.specs.declared.refusal.Reason.TheVariants as reason

module _ (file columns raised lowered : List ℕ) where
  abbrev room : ℕ
  room = listed columns raised lowered

  refuses : {why : Refusal} → Err why ≡ read_tests file room → Reads file columns raised lowered (Err why) columns raised lowered
  unfolding reading
  refuses e = record { answers = rw (← e); numbers = rw (← e); columns_after = refl; raised_after = refl; lowered_after = refl }

  pub file_refused : {why : Refusal} → Err why ≡ file_tests file → Reads file columns raised lowered (Err why) columns raised lowered
  unfolding read_tests
  file_refused e = refuses (rw (← e))

  module _ {here : Cursor} (passed : Ok here ≡ file_tests file) where
    pub no_room : room < flip_count file → Reads file columns raised lowered (Err (refused reason.Room 0)) columns raised lowered
    unfolding read_tests judge
    no_room l = refuses (rw (← passed, lt-ltb _ _ l))

    pub taken : {a : Answer} {columns' raised' lowered' : List ℕ} → flip_count file ≤ room → a ≡ answer_of (content_in file)
        → columns' ≡ over (content_in file).columns 0 columns → raised' ≡ over (content_in file).raised 0 raised → lowered' ≡ over (content_in file).lowered 0 lowered
        → Reads file columns raised lowered (Ok a) columns' raised' lowered'
    unfolding reading read_tests judge
    taken l value c' r' l' =
        rw value (record { answers = rw (← passed, le-ltb _ _ l); numbers = rw (← passed, le-ltb _ _ l); columns_after = c'; raised_after = r'; lowered_after = l' })

-- Where the parts of a file that passes lie.
pub record Laid (file : List ℕ) : Type 0 where
  pub head_kept : HeadKept (number_at 2 file 4) (number_at 2 file 6) (group_count file) (flip_count file) (flip_count file)
  pub first_at : 16 ≤ length file
  pub flips_at : flips_start (group_count file) ≤ length file
  pub end_at : flips_start (group_count file) + 22 * flip_count file ≤ length file

pub laid : (file : List ℕ) {here : Cursor} → Ok here ≡ file_tests file → Laid file
laid file e =
    let r = (read_through file e).stages in
    let (kept, at, long) = head_leads file r.head_passed in
    let (at₂, fits) = groups_lead file r.head_passed r.groups_passed in
    let (at₃, fits₃) = flips_lead file r.flips_passed fits in
    record { head_kept = kept; first_at = long; flips_at = omega arith; end_at = omega arith }

-- The places of the value hold all groups, and the groups are the first of them.
module _ (file : List ℕ) {a : Answer} (value : a ≡ answer_of (content_in file)) where
  pub groups_placed : group_count file ≤ 63 → a.groups ≤ length a.taxa
  groups_placed l =
      let k = length_taxa file (group_count file) in
      let zeros : List ℕ = replicate 63 0 in
      let r : length zeros ≡ 63 = refl in
      rw value (omega (arith, length_over (taxa_in file (group_count file)) 0 zeros (omega (arith, k, r)), r))

  pub groups_first : take a.groups a.taxa ≡ (content_in file).taxa
  groups_first = rw value (front_is (content_in file).taxa (replicate 63 0) (group_count file) (length_taxa file (group_count file)))

-- ---- writing

module _ (c : Content) (entries : ℕ) (out : List ℕ) where
  pub given_refused : {why : Refusal} → Err why ≡ tests as_given c entries → Writes c entries out (Err why) out
  unfolding writing write_tests
  given_refused e = record { answers = rw (← e); numbers = rw (← e); out_after = refl }

  module _ {last : Cursor} (passed : Ok last ≡ tests as_given c entries) where
    pub no_output_room : length out < length_of c → Writes c entries out (Err (refused reason.Room 0)) out
    unfolding writing write_tests judge
    no_output_room l = record { answers = rw (← passed, lt-ltb _ _ l); numbers = rw (← passed, lt-ltb _ _ l); out_after = refl }

    pub written_out : length_of c ≤ length out → {out' : List ℕ} → out' ≡ over (file_of c) 0 out → Writes c entries out (Ok (length_of c)) out'
    unfolding writing write_tests judge
    written_out l e = record { answers = rw (← passed, le-ltb _ _ l); numbers = rw (← passed, le-ltb _ _ l); out_after = e }

    -- What is given and passes keeps the head's rules, and its columns fit a file.
    pub given_head_kept : HeadKept c.n c.m c.groups c.flips entries
    given_head_kept = (given_head _ _ _ _ _ (staged as_given c entries passed).head_passed).0

    pub given_entry_kept : (j : ℕ) → j < c.flips → EntryKept c.n c.m (floor_of c.columns j) (get_or c.columns j 0) (get_or c.raised j 0) (get_or c.lowered j 0)
    given_entry_kept j l =
        let s = staged as_given c entries passed in
        let it = walk_each (flips_test as_given c.n c.m c.columns c.raised c.lowered) s.flips c.flips s.flips_passed j l in
        entry_keeps _ _ _ _ _ _ (given_entry _ _ _ _ _ _ it.here it.passed).0

-- Entry j of a list as given, where its cut passes.
pub column_fits : (a : Answer) (columns raised lowered : List ℕ) (entries : ℕ) {last : Cursor} → Ok last ≡ tests as_given (content_of a columns raised lowered) entries
    → (j : ℕ) → j < a.flips → get_or columns j 0 < 65536
column_fits a columns raised lowered entries e j l =
    let c = content_of a columns raised lowered in
    let k = given_entry_kept c entries [] e j l in
    omega (arith, get_or-take a.flips columns j 0 l, k.column_fits, (given_head_kept c entries [] e).columns)
