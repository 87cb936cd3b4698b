-- A refusal of reading or of writing an answer has a number above 0 (`file_numbered`, `read_numbered`, `write_numbered`): 0 is left for success.
use mathlib.Core.Path.{◌≡◌}
use mathlib.Core.List.{List}
use Prim.Native.Nat.{ℕ, ◌<◌}
use Rattle.record.specs.declared.refusal.Refusal.{Refusal}
use Rattle.record.proofs.Places.{By}
use Rattle.answer.specs.Content.{Content}
use Rattle.answer.specs.Reading.{file_tests, read_tests}
use Rattle.answer.specs.Writing.{write_tests}
use Rattle.answer.proofs.Places.{largest, Few, answer_by, read_by, write_by}
use Rattle.std.specs.Prelude.{Err}
use Rattle.record.specs.Records.{Passed}
use Rattle.record.specs.Refusals.{refusal_number}

-- Passed, or refused by a number above 0.
pub record Numbered (p : Passed) : Type 0 where
  pub above : {why : Refusal} → Err why ≡ p → 0 < refusal_number why.reason

numbered : (p : Passed) → By Few largest p → Numbered p
numbered p b = record { above = λ e. (rw (← e) at b).1.0 }

pub file_numbered : (file : List ℕ) → Numbered (file_tests file)
file_numbered file = numbered (file_tests file) (answer_by file)

pub read_numbered : (file : List ℕ) (room : ℕ) → Numbered (read_tests file room)
read_numbered file room = numbered (read_tests file room) (read_by file room)

pub write_numbered : (c : Content) (listed room : ℕ) → Numbered (write_tests c listed room)
write_numbered c listed room = numbered (write_tests c listed room) (write_by c listed room)
