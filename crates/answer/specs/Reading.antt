-- The operation "read an answer": refusals 1 to 4, 6, 12, 13, 14, then 8, then 10 (document 01, "Operations and refusals").
use Rattle.std.specs.Prelude.{◌≡◌, cond, List, [], ℕ, min, ltb, length, Some, None, Result, Ok, Err}
use Rattle.record.specs.Bytes.{over}
use Rattle.record.specs.Records.{onward, nothing_after, Passed}
use Rattle.record.specs.Refusals.{refusal_number}
use Rattle.record.specs.declared.refusal.Reason.TheVariants.{Room}
use Rattle.record.specs.declared.refusal.Refusal.{Refusal}
use Rattle.answer.specs.declared.Answer.{Answer}
use Rattle.answer.specs.Content.{Content, content_in, flip_count, answer_of}
use Rattle.answer.specs.Tests.{judge, in_file, tests}

-- How many entries a lent list has that stands in three parts.
abbrev pub listed : List ℕ → List ℕ → List ℕ → ℕ
listed columns raised lowered = min (length columns) (min (length raised) (length lowered))

-- The file's own tests, on what it says; "14 comes before 8".
unfoldable pub file_tests : List ℕ → Passed
file_tests file = onward (tests (in_file file) (content_in file) (flip_count file)) (nothing_after file)

-- "Read, list shorter than the flipped column count" (10), last.
unfoldable pub read_tests : List ℕ → ℕ → Passed
read_tests file room = onward (file_tests file) (judge (cond (ltb room (flip_count file)) (Some Room) None) 0)

-- The content's value where the tests passed, and else the refusal.
abbrev pub answered : Content → Passed → Result Answer Refusal
answered c (Ok here) = Ok (answer_of c)
answered c (Err why) = Err why

-- What reading a file answers, for a list with room for so many entries.
unfoldable pub reading : List ℕ → ℕ → Result Answer Refusal
reading file room = answered (content_in file) (read_tests file room)

-- What a lent list holds at the end: on a refusal what it held; "list entries past the last stay as they were".
abbrev pub filled : Result Answer Refusal → List ℕ → List ℕ → List ℕ
filled (Ok answer) new old = over new 0 old
filled (Err why) new old = old

-- What a refusal returns beside its number and place: "0 for every other number".
abbrev pub empty : Content
empty = record { n = 0; m = 0; groups = 0; flips = 0; total = 0; taxa = []; costs = []; columns = []; raised = []; lowered = [] }

-- Document 01's numbers for each case: "success returns 0, place 0" and the value.
pub record Returned : Type 0 where
  pub number : ℕ
  pub place : ℕ
  pub answer : Answer

-- These numbers, by the case.
abbrev pub returned : Result Answer Refusal → Returned
returned (Ok answer) = record { number = 0; place = 0; answer = answer }
returned (Err why) = record { number = refusal_number why.reason; place = why.place; answer = answer_of empty }

-- The numbers that reading a file returns.
abbrev pub read_numbers : List ℕ → ℕ → Returned
read_numbers file room = returned (reading file room)

-- What reading promises of its answer and of the lent list at the end.
pub record Reads (file columns raised lowered : List ℕ) (r : Result Answer Refusal) (columns' raised' lowered' : List ℕ) : Type 0 where
  pub answers : r ≡ reading file (listed columns raised lowered)
  pub numbers : returned r ≡ read_numbers file (listed columns raised lowered)
  pub columns_after : columns' ≡ filled r (content_in file).columns columns
  pub raised_after : raised' ≡ filled r (content_in file).raised raised
  pub lowered_after : lowered' ≡ filled r (content_in file).lowered lowered
