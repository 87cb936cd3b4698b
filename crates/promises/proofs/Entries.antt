-- Demand 2, and demand 1's refusals, of document 01's own form of an answer: "the flip list is a lent list of entries, each a column with its raised and lowered
-- taxa". What is proved of three lists holds of a list of entries, which is read and written as its three lists are.
use mathlib.Core.Path.{◌≡◌, refl, sym, ap, ◌∙◌}
use mathlib.Core.Logic.{◌≢◌, ◌↔◌}
use mathlib.Core.List.{List, ◌++◌}
use Prim.Native.Nat.{ℕ, ◌≤◌}
use native.Mathlib.Omega.{arith}
use lib.ListN.{length, take, drop}
use Rattle.record.specs.Bytes.{over, File}
use Rattle.answer.specs.declared.Answer.{Answer}
use Rattle.answer.specs.Content.{Content, content_in, answer_of}
use Rattle.answer.specs.Reading as reading
use Rattle.answer.specs.Writing as writing
use Rattle.answer.specs.Writing.{Writes}
use Rattle.answer.proofs.RoundTrip as lists
use Rattle.entries.specs.declared.Flip.{Flip}
use Rattle.entries.specs.Entries.{entry_columns, entry_raised, entry_lowered, entries_of, entry_content, stored, ReadsEntries, WritesEntries}
use Rattle.entries.proofs.Apart.{listed_entries, entries_given, first_entries, apart_read, taken_entries}
use Rattle.split.specs.Columns.{matrix_in}
use Rattle.tree.specs.Build.{content_for}
use Rattle.promises.specs.Held.{Leaves, InWidths}
use Rattle.promises.proofs.Numbers.{reading_succeeds, writing_succeeds}
use Rattle.promises.proofs.Refusals.{refused_write}
use Rattle.promises.proofs.Answers.{answer_content, answer_taken}
use Rattle.promises.proofs.OneAnswer.{one_write, no_two_answer_files}
use Rattle.std.specs.Prelude.{Result, Ok, Err}
use Rattle.record.specs.declared.refusal.Refusal.{Refusal}

-- What writing promises of a list of entries, as it promises it of three lists.
apart_written : (a : Answer) (list : List Flip) {out : List ℕ} {w : Result ℕ Refusal} {out' : List ℕ} → WritesEntries a list out w out'
    → Writes (entry_content a list) (reading.listed (entry_columns list) (entry_raised list) (entry_lowered list)) out w out'
apart_written a list w = rw (listed_entries list) w

-- "Success returns 0."
taken : {file : List ℕ} {list : List Flip} {r : Result Answer Refusal} {list' : List Flip} → ReadsEntries file list r list' → (reading.returned r).number ≡ 0
    → r ≡ Ok (reading.returned r).answer
taken {r = Ok a} x success = refl
taken {file} {list} {r = Err why} x success = let (a, e) = (reading_succeeds file (length list) x.answers).0 success in absurd (let z : ◌≡◌ {A = ℕ} 0 1 = cc in omega arith)

-- ---- "Answer files read back to what was written"

-- Of what a writing that succeeded wrote, any reading into a list with room for its flips is taken: it returns the value that was written, places past the last
-- group 0, and leaves in the first places of the list the entries that were written, the rest as it was.
pub reading_entries_written : {a : Answer} (list : List Flip) → InWidths a → {out : List ℕ} {w : Result ℕ Refusal} {out' : List ℕ} → WritesEntries a list out w out' → (writing.returned w).number ≡ 0
    → {lent : List Flip} {r : Result Answer Refusal} {lent' : List Flip} → ReadsEntries (take (writing.returned w).size out') lent r lent' → a.flips ≤ length lent
    → (r ≡ Ok (answer_of (entry_content a list)))
    × (take a.flips lent' ≡ take a.flips list)
    × (drop a.flips lent' ≡ drop a.flips lent)
reading_entries_written {a} list fits {w = Ok size} writes success {lent} x room =
    let apart = apart_written a list writes in
    let (_, holds, reads) = lists.reading_what_was_written a (entry_columns list) (entry_raised list) (entry_lowered list) fits.taxa_places fits.costs_places fits.total_fits apart in
    let is = x.answers ∙ reads (length lent) room in
    let (first, rest) = taken_entries x is holds in
    (is, first ∙ entries_given a list, rest)
reading_entries_written list fits {w = Err why} writes success x room =
    let (size, e) = (writing_succeeds writes).0 success in absurd (let z : ◌≡◌ {A = ℕ} 0 1 = cc in omega arith)

-- Writing what a reading took gives back the file: its length is returned, and it stands in the output, the rest as it was.
pub writing_entries_read : {file : List ℕ} {list : List Flip} {r : Result Answer Refusal} {list' : List Flip} → File file → ReadsEntries file list r list' → (reading.returned r).number ≡ 0
    → {out : List ℕ} {w : Result ℕ Refusal} {out' : List ℕ} → WritesEntries (reading.returned r).answer list' out w out' → length file ≤ length out → (w ≡ Ok (length file)) × (out' ≡ over file 0 out)
writing_entries_read {r = r} {list' = list'} f x success w room = lists.writing_what_was_read f (apart_read x) (taken x success) room (apart_written (reading.returned r).answer list' w)

-- The build's own answer file: with room for its flips any reading of it is taken, and what it returns and leaves in the list is the method's answer.
module _ {file answerFile : List ℕ} (f : File file) (b : Leaves file answerFile) where
  abbrev c : Content
  c = content_for (matrix_in file)

  pub answer_reads_back_as_entries : {list : List Flip} {r : Result Answer Refusal} {list' : List Flip} → ReadsEntries answerFile list r list' → c.flips ≤ length list
      → (r ≡ Ok (answer_of c)) × (take c.flips list' ≡ entries_of c) × (drop c.flips list' ≡ drop c.flips list)
  answer_reads_back_as_entries {list} x room =
      let holds = answer_content f b in
      let is = x.answers ∙ answer_taken f b (length list) (rw (ap (λ (c : Content). c.flips) holds) room) in
      let (first, rest) = taken_entries x is holds in
      (is, first, rest)

-- ---- "no two accepted files, matrix or answer, carry the same content"

-- Two answer files from which readings take the same value and the same entries are the same.
pub no_two_answer_files_of_entries : {file file₁ : List ℕ} {list list₁ : List Flip} {r r₁ : Result Answer Refusal} {list' list₁' : List Flip} → File file → File file₁
    → ReadsEntries file list r list' → ReadsEntries file₁ list₁ r₁ list₁' → (reading.returned r).number ≡ 0 → (reading.returned r₁).number ≡ 0
    → (reading.returned r).answer ≡ (reading.returned r₁).answer → take (reading.returned r).answer.flips list' ≡ take (reading.returned r₁).answer.flips list₁' → file ≡ file₁
no_two_answer_files_of_entries {r = r} {r₁ = r₁} {list' = list'} {list₁' = list₁'} f f₁ x y success success₁ e es =
    no_two_answer_files f f₁ (apart_read x) (apart_read y) (taken x success) (taken y success₁) (first_entries (reading.returned r).answer list' ∙ (λ i. entry_content (e i) (es i)) ∙ sym (first_entries (reading.returned r₁).answer list₁'))

-- ---- two results that a contract allows coincide

pub one_read_of_entries : {file : List ℕ} {list : List Flip} {r r' : Result Answer Refusal} {list' list'' : List Flip} → ReadsEntries file list r list' → ReadsEntries file list r' list''
    → (r ≡ r') × (list' ≡ list'')
one_read_of_entries {file} {list} x y =
    let es = entries_of (content_in file) in
    let same = x.answers ∙ sym y.answers in
    (same, x.list_after ∙ ap (λ (r : Result Answer Refusal). stored r es ++ drop (length (stored r es)) list) same ∙ sym y.list_after)

pub one_write_of_entries : (a : Answer) (list : List Flip) {out : List ℕ} {r r' : Result ℕ Refusal} {out' out'' : List ℕ} → WritesEntries a list out r out' → WritesEntries a list out r' out''
    → (r ≡ r') × (out' ≡ out'')
one_write_of_entries a list x y = one_write x y

-- ---- the number that is returned

-- 0 exactly on success.
pub reading_of_entries_succeeds : {file : List ℕ} {list : List Flip} {r : Result Answer Refusal} {list' : List Flip} → ReadsEntries file list r list'
    → (reading.returned r).number ≡ 0 ↔ ((a : Answer) × (r ≡ Ok a))
reading_of_entries_succeeds {file} {list} x = reading_succeeds file (length list) x.answers

pub writing_of_entries_succeeds : (a : Answer) (list : List Flip) {out : List ℕ} {r : Result ℕ Refusal} {out' : List ℕ} → WritesEntries a list out r out'
    → (writing.returned r).number ≡ 0 ↔ ((size : ℕ) × (r ≡ Ok size))
writing_of_entries_succeeds a list x = writing_succeeds x

-- On any other, "0 for every other number", "and then all lent memory is as before".
pub refused_read_of_entries : {file : List ℕ} {list : List Flip} {r : Result Answer Refusal} {list' : List Flip} → ReadsEntries file list r list' → (reading.returned r).number ≢ 0
    → ((reading.returned r).answer ≡ answer_of reading.empty) × (list' ≡ list)
refused_read_of_entries {r = Ok a} x some = absurd (some refl)
refused_read_of_entries {r = Err why} x some = (refl, x.list_after)

pub refused_write_of_entries : (a : Answer) (list : List Flip) {out : List ℕ} {r : Result ℕ Refusal} {out' : List ℕ} → WritesEntries a list out r out' → (writing.returned r).number ≢ 0
    → ((writing.returned r).size ≡ 0) × (out' ≡ out)
refused_write_of_entries a list x some = refused_write x some
