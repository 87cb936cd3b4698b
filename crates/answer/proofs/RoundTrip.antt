-- The two operations undo each other: the file of a lawful content reads back (`reads_back`), reading what was written gives back what was written
-- (`reading_what_was_written`), and writing what was read gives back the file (`writing_what_was_read`).
use mathlib.Core.Path.{◌≡◌, refl, sym, ap, ◌∙◌}
use mathlib.Core.Bool.{cond}
use mathlib.Core.List.{List}
use Prim.Native.Nat.{ℕ, ◌^◌, ◌≤◌, ◌<◌}
use native.Mathlib.Omega.{arith}
use lib.Dec.{ltb}
use lib.ListN.{length, take, replicate}
use borrow.Author.Tests.{le-ltb, ltb-false}
use Rattle.record.specs.Bytes.{over, File}
use Rattle.record.specs.declared.Cursor.{Cursor}
use Rattle.record.proofs.Over.{length_over}
use Rattle.record.proofs.Passing.{through}
use Rattle.answer.specs.declared.Answer.{Answer}
use Rattle.answer.specs.Content.{Content, content_in, content_of, answer_of, file_of, length_of, flip_count}
use Rattle.answer.specs.Lawful.{Lawful}
use Rattle.answer.specs.Tests.{judge, as_given, tests}
use Rattle.answer.specs.Reading.{listed, file_tests, read_tests, reading, answered, Reads}
use Rattle.answer.specs.Writing.{writing, write_tests, ended, put, Writes}
use Rattle.answer.proofs.Kept.{unless}
use Rattle.answer.proofs.Runs.{front_is}
use Rattle.answer.proofs.Pieces.{length_file}
use Rattle.answer.proofs.Walks.{through_judge}
use Rattle.answer.proofs.Outcomes.{written_out}
use Rattle.answer.proofs.Meaning.{lawful_passes}
use Rattle.answer.proofs.Taken.{taken_is_file}
use Rattle.answer.proofs.Encoding.{file_taken, file_holds}
use Rattle.answer.proofs.Accepted.{given_lawful, taken_lawful}
use Rattle.std.specs.Prelude.{Some, None, Result, Ok, Err}
use Rattle.record.specs.declared.refusal.Reason.TheVariants as reason
use Rattle.record.specs.declared.refusal.Refusal.{Refusal}
use Rattle.record.specs.Records.{Passed}

-- ---- the file of a content

pub reads_back : {c : Content} → Lawful c → (room : ℕ) → c.flips ≤ room → reading (file_of c) room ≡ Ok (answer_of c)
unfolding reading read_tests judge
reads_back {c} lawful room l =
    let holds = file_holds lawful in
    let few : flip_count (file_of c) ≤ room = rw (ap (λ (x : Content). x.flips) holds) l in
    rw (← file_taken lawful, le-ltb _ _ few) (ap (λ (x : Content). Ok (answer_of x)) holds)

-- ---- reading what was written

-- Where a length came back, all tests were passed.
pub wrote : {size n : ℕ} (p : Passed) → Ok size ≡ ended n p → (here : Cursor) × (Ok here ≡ p) × (size ≡ n)
wrote (Ok here) e = (here, refl, cc)
wrote (Err why) e = absurd (let z : ◌≡◌ {A = ℕ} 0 1 = cc in omega arith)

pub reading_what_was_written : (a : Answer) (columns raised lowered : List ℕ) → length a.taxa ≡ 63 → length a.costs ≡ 63 → a.total < 2 ^ 32
    → {out out' : List ℕ} {size : ℕ} → Writes (content_of a columns raised lowered) (listed columns raised lowered) out (Ok size) out'
    → (take size out' ≡ file_of (content_of a columns raised lowered))
    × (content_in (take size out') ≡ content_of a columns raised lowered)
    × ((room : ℕ) → a.flips ≤ room → reading (take size out') room ≡ Ok (answer_of (content_of a columns raised lowered)))
unfolding writing write_tests
reading_what_was_written a columns raised lowered t s fits {out} {out'} {size} w =
    let c = content_of a columns raised lowered in
    let (here, passed, size_is) = wrote (write_tests c (listed columns raised lowered) (length out)) w.answers in
    let (last, given, rest) = through (tests as_given c (listed columns raised lowered)) passed in
    let lawful = given_lawful a columns raised lowered t s fits given in
    let file-is : take size out' ≡ file_of c = ap (take size) w.out_after ∙ front_is (file_of c) out size (length_file c ∙ sym size_is) in
    (file-is, ap content_in file-is ∙ file_holds lawful, λ room l. ap (λ (f : List ℕ). reading f room) file-is ∙ reads_back lawful room l)

-- ---- writing what was read

-- A reading that is taken passed its tests.
pub took : (c : Content) (p : Passed) {a : Answer} → answered c p ≡ Ok a → (here : Cursor) × (Ok here ≡ p)
took c (Ok here) e = (here, refl)
took c (Err why) e = absurd (let z : ◌≡◌ {A = ℕ} 0 1 = cc in omega arith)

-- Its value is the content's.
value_is : (p : Passed) (a : Answer) (c : Content) {here : Cursor} → Ok here ≡ p → answered c p ≡ Ok a → a ≡ answer_of c
value_is (Ok there) a c here e = cc
value_is (Err why) a c here e = cc

-- The value and the list of a content hold that content.
content_back : {c : Content} → Lawful c → (columns raised lowered : List ℕ) → content_of (answer_of c) (over c.columns 0 columns) (over c.raised 0 raised) (over c.lowered 0 lowered) ≡ c
content_back {c} lawful columns raised lowered =
    λ i. record {
      n = c.n;
      m = c.m;
      groups = c.groups;
      flips = c.flips;
      total = c.total;
      taxa = front_is c.taxa (replicate 63 0) c.groups lawful.sized.taxa_sized i;
      costs = front_is c.costs (replicate 63 0) c.groups lawful.sized.costs_sized i;
      columns = front_is c.columns columns c.flips lawful.sized.columns_sized i;
      raised = front_is c.raised raised c.flips lawful.sized.raised_sized i;
      lowered = front_is c.lowered lowered c.flips lawful.sized.lowered_sized i;
    }

-- What a reading that took a file left.
record Left (file columns raised lowered : List ℕ) (a : Answer) (columns' raised' lowered' : List ℕ) : Type 0 where
  next : Cursor
  passed : Ok next ≡ file_tests file
  roomy : flip_count file ≤ listed columns raised lowered
  answer_is : a ≡ answer_of (content_in file)
  columns_are : columns' ≡ over (content_in file).columns 0 columns
  raised_are : raised' ≡ over (content_in file).raised 0 raised
  lowered_are : lowered' ≡ over (content_in file).lowered 0 lowered

left : {file columns raised lowered : List ℕ} {r : Result Answer Refusal} {a : Answer} {columns' raised' lowered' : List ℕ} → Reads file columns raised lowered r columns' raised' lowered' → r ≡ Ok a
    → Left file columns raised lowered a columns' raised' lowered'
unfolding reading read_tests
left {file} {columns} {raised} {lowered} {a = a} reads t =
    let room = listed columns raised lowered in
    let given : answered (content_in file) (read_tests file room) ≡ Ok a = sym reads.answers ∙ t in
    let (here, p) = took (content_in file) (read_tests file room) given in
    let (last, passed, j) = through (file_tests file) p in
    let (none, same) = through_judge (cond (ltb room (flip_count file)) (Some reason.Room) None) 0 last j in
    record {
      next = last;
      passed = passed;
      roomy = ltb-false _ _ (unless (ltb room (flip_count file)) reason.Room None none).0;
      answer_is = value_is _ a (content_in file) p given;
      columns_are = reads.columns_after ∙ rw t;
      raised_are = reads.raised_after ∙ rw t;
      lowered_are = reads.lowered_after ∙ rw t;
    }

module _ {file columns raised lowered : List ℕ} {r : Result Answer Refusal} {a : Answer} {columns' raised' lowered' : List ℕ} (f : File file)
    (reads : Reads file columns raised lowered r columns' raised' lowered') (t : r ≡ Ok a) where
  abbrev read : Left file columns raised lowered a columns' raised' lowered'
  read = left reads t

  abbrev lawful : Lawful (content_in file)
  lawful = taken_lawful file read.passed f

  -- What reading left holds the file's content.
  pub read_content : content_of a columns' raised' lowered' ≡ content_in file
  read_content = rw (read.answer_is, read.columns_are, read.raised_are, read.lowered_are) (content_back lawful columns raised lowered)

  enough : flip_count file ≤ listed columns' raised' lowered'
  enough =
      let c = content_in file in
      let room = read.roomy in
      let a = ap length read.columns_are ∙ length_over c.columns 0 columns (omega (arith, lawful.sized.columns_sized)) in
      let b = ap length read.raised_are ∙ length_over c.raised 0 raised (omega (arith, lawful.sized.raised_sized)) in
      let d = ap length read.lowered_are ∙ length_over c.lowered 0 lowered (omega (arith, lawful.sized.lowered_sized)) in
      omega arith

  -- "Writing what was read gives back the file."
  pub writing_what_was_read : {out out' : List ℕ} {w : Result ℕ Refusal} → length file ≤ length out → Writes (content_of a columns' raised' lowered') (listed columns' raised' lowered') out w out'
      → (w ≡ Ok (length file)) × (out' ≡ over file 0 out)
  writing_what_was_read {out} {out'} {w} room writes =
      let c = content_in file in
      let entries = listed columns' raised' lowered' in
      let is-file = taken_is_file f read.passed in
      let size : length file ≡ length_of c = ap length is-file ∙ length_file c in
      let done = written_out c entries out (lawful_passes lawful entries enough) (omega arith) {out' = over (file_of c) 0 out} refl in
      let w-is : w ≡ Ok (length_of c) = writes.answers ∙ ap (λ (x : Content). writing x entries (length out)) read_content ∙ sym done.answers in (
        w-is ∙ ap Ok (sym size),
        writes.out_after ∙ ap (λ (x : Content). put w (file_of x) out) read_content ∙ ap (λ (x : Result ℕ Refusal). put x (file_of c) out) w-is ∙ ap (λ (x : List ℕ). over x 0 out) (sym is-file),
      )
