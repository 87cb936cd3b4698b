-- The operation "write an answer": "the tests of reading on what it is given, placed as in the file, then 10".
use Rattle.std.specs.Prelude.{◌≡◌, cond, List, ℕ, ltb, length, Some, None, Result, Ok, Err}
use Rattle.record.specs.Bytes.{over}
use Rattle.record.specs.Records.{onward, Passed}
use Rattle.record.specs.Refusals.{refusal_number}
use Rattle.record.specs.declared.refusal.Reason.TheVariants.{Room}
use Rattle.record.specs.declared.refusal.Refusal.{Refusal}
use Rattle.answer.specs.declared.Answer.{Answer}
use Rattle.answer.specs.Content.{Content, content_of, file_of, length_of}
use Rattle.answer.specs.Tests.{judge, as_given, tests}
use Rattle.answer.specs.Reading.{listed}

-- All tests of writing; `listed` is how many entries the flip list has, `room` how many bytes the output.
unfoldable pub write_tests : Content → ℕ → ℕ → Passed
write_tests c listed room = onward (tests as_given c listed) (judge (cond (ltb room (length_of c)) (Some Room) None) 0)

-- The length where the tests passed, and else the refusal.
abbrev pub ended : ℕ → Passed → Result ℕ Refusal
ended size (Ok here) = Ok size
ended size (Err why) = Err why

-- What writing a content answers.
unfoldable pub writing : Content → ℕ → ℕ → Result ℕ Refusal
writing c listed room = ended (length_of c) (write_tests c listed room)

-- What the output holds at the end: on a refusal what it held; "output past the written length stays as it was".
abbrev pub put : Result ℕ Refusal → List ℕ → List ℕ → List ℕ
put (Ok size) file old = over file 0 old
put (Err why) file old = old

-- Document 01's numbers for each case: "success returns 0, place 0 and, for write, length".
pub record Returned : Type 0 where
  pub number : ℕ
  pub place : ℕ
  pub size : ℕ

-- These numbers, by the case.
abbrev pub returned : Result ℕ Refusal → Returned
returned (Ok size) = record { number = 0; place = 0; size = size }
returned (Err why) = record { number = refusal_number why.reason; place = why.place; size = 0 }

-- The numbers that writing a content returns.
abbrev pub write_numbers : Content → ℕ → ℕ → Returned
write_numbers c listed room = returned (writing c listed room)

-- What writing promises of its answer and of the output at the end.
pub record Writes (c : Content) (entries : ℕ) (out : List ℕ) (r : Result ℕ Refusal) (out' : List ℕ) : Type 0 where
  pub answers : r ≡ writing c entries (length out)
  pub numbers : returned r ≡ write_numbers c entries (length out)
  pub out_after : out' ≡ put r (file_of c) out

-- The same of a value and a flip list that stands in three parts.
abbrev pub WritesLists : Answer → List ℕ → List ℕ → List ℕ → List ℕ → Result ℕ Refusal → List ℕ → Type 0
WritesLists a columns raised lowered out r out' = Writes (content_of a columns raised lowered) (listed columns raised lowered) out r out'
