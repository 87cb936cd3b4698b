-- The tests of reading, which "writing makes on what it is given, placed as in the file": record by record, each at its place.
use Rattle.std.specs.Prelude.{List, ℕ, zero, suc, ◌+◌, get_or, Option, Some, None, Ok, Err}
use Rattle.record.specs.Records as records
use Rattle.record.specs.Records.{record_of, payload, step, judged, onward, Passed}
use Rattle.record.specs.Refusals.{refused}
use Rattle.record.specs.declared.Cursor.{Cursor}
use Rattle.record.specs.declared.refusal.Reason.{Reason}
use Rattle.answer.specs.Content.{Content}
use Rattle.answer.specs.Rules.{head_fault, group_fault, floor_of, entry_fault, total_fault}

-- A record that was judged at its place: refused for its fault, or passed if it has none.
unfoldable pub judge : Option Reason → ℕ → Cursor → Passed
judge None place next = Ok next
judge (Some reason) place next = Err (refused reason place)

-- How a record of a kind is met before it is judged.
abbrev pub Meet : Type 0
Meet = ℕ → Cursor → (Cursor → Passed) → Passed

-- In a file: by a reading step.
abbrev pub in_file : List ℕ → Meet
in_file file kind here go = judged (step file here.at (record_of kind)) (λ at next. go next)

-- In what is given: it is as long as its kind says.
abbrev pub as_given : Meet
as_given kind here go = go (record { at = here.at + 4 + payload kind })

-- Records 0 to k - 1, one after the other.
unfoldable pub walk : (ℕ → Cursor → Passed) → ℕ → Cursor → Passed
walk one zero here = Ok here
walk one (suc k) here = onward (walk one k here) (one k)

-- The first place.
abbrev pub start : Cursor
start = record { at = 0 }

-- The head, at the start.
unfoldable pub head_test : Meet → ℕ → ℕ → ℕ → ℕ → ℕ → Passed
head_test meet n m groups flips listed = meet records.answer_head start (judge (head_fault n m groups flips listed) 0)

-- Group i.
unfoldable pub group_test : Meet → ℕ → List ℕ → ℕ → Cursor → Passed
group_test meet n taxa i here = meet records.group here (judge (group_fault n taxa i) here.at)

-- A flips record whose column is to be `floor` or above.
unfoldable pub entry_test : Meet → ℕ → ℕ → ℕ → ℕ → ℕ → ℕ → Cursor → Passed
entry_test meet n m floor column raised lowered here = meet records.flips here (judge (entry_fault n m floor column raised lowered) here.at)

-- Flips record j of three lists.
abbrev pub flips_test : Meet → ℕ → ℕ → List ℕ → List ℕ → List ℕ → ℕ → Cursor → Passed
flips_test meet n m columns raised lowered j = entry_test meet n m (floor_of columns j) (get_or columns j 0) (get_or raised j 0) (get_or lowered j 0)

-- The end record, where the total is judged.
unfoldable pub end_test : Meet → ℕ → List ℕ → ℕ → Cursor → Passed
end_test meet total costs groups here = meet records.answer_end here (judge (total_fault total costs groups) here.at)

-- All records, one after the other; `listed` is how many entries the flip list has.
unfoldable pub tests : Meet → Content → ℕ → Passed
tests meet c listed =
    onward (head_test meet c.n c.m c.groups c.flips listed) (λ groups.
    onward (walk (group_test meet c.n c.taxa) c.groups groups) (λ flips.
    onward (walk (flips_test meet c.n c.m c.columns c.raised c.lowered) c.flips flips) (end_test meet c.total c.costs c.groups)))
