-- The operation "check a name list" (document 02, C-11): "In a name list, at the record: 2 also for a name not 1 to 32 long, 16 a wrong byte, 18 a repeat";
-- the others of its refusals are those of every file.
use Rattle.std.specs.Prelude.{◌≡◌, Bool, true, ◌&&◌, cond, List, [], ◌∷◌, ◌++◌, ℕ, zero, suc, length, Result, Ok, Err}
use Rattle.grammar.specs.Bytes.{is_letter}
use Rattle.grammar.specs.Columns.{Bytes}
use Rattle.grammar.specs.Limits.{is_in}
use Rattle.record.specs.Records as records
use Rattle.record.specs.Records.{record_of, left, step, varying_step, finds, judged, nothing_after, Passed}
use Rattle.record.specs.Refusals.{refused, refusal_number}
use Rattle.record.specs.declared.Cursor.{Cursor}
use Rattle.record.specs.declared.refusal.Refusal.{Refusal}
use Rattle.record.specs.declared.refusal.Reason.TheVariants as reason
use Rattle.record.specs.declared.Varying.{Varying}
use Rattle.names.specs.Names.{name_at}

-- What a file comes to as a name list: its names, or the refusal.
pub data Listing : Type 0 where
  names : List Bytes → Listing
  refusal : Refusal → Listing

-- The record of a name "1 to 32 long".
abbrev pub any_name : Varying
any_name = record { kind = records.name; least = 1; most = 32; by = 1 }

-- Whether each byte is one of "letters, digits, dots, hyphens or underscores".
unfoldable pub spelt : Bytes → Bool
spelt [] = true
spelt (b ∷ n) = is_letter b && spelt n

-- "16 a wrong byte, 18 a repeat", at the record; `before` are the names of the records before it.
unfoldable pub name_judged : List Bytes → Bytes → ℕ → Cursor → Passed
name_judged before n place next =
    cond (spelt n)
    (cond (is_in n before) (Err (refused reason.Repeated place)) (Ok next))
    (Err (refused reason.Misfit place))

-- The record of a name: read, then judged.
unfoldable pub name_passed : List ℕ → List Bytes → Cursor → Passed
name_passed file before here =
    judged (varying_step file here.at any_name) (λ at next. name_judged before (name_at file here.at) here.at next)

-- The end record, and nothing after it.
unfoldable pub end_passed : List ℕ → Cursor → Passed
end_passed file here = judged (step file here.at (record_of records.names_end)) (λ at after. nothing_after file after)

-- Where the end was passed, these are the names.
abbrev pub ended : List Bytes → Passed → Listing
ended ns (Ok here) = names ns
ended ns (Err why) = refusal why

-- Where a name was passed, the reading goes on.
abbrev pub goes_on : Passed → (Cursor → Listing) → Listing
goes_on (Ok next) go = go next
goes_on (Err why) go = refusal why

-- The record after the names `before`: one of kind 33 is a name, and `go` is what follows the names with it; any other has to be the end.
abbrev pub record_listed : List ℕ → List Bytes → Cursor → (List Bytes → Cursor → Listing) → Listing
record_listed file before here go =
    cond (finds file here.at records.name)
    (goes_on (name_passed file before here) (go (before ++ name_at file here.at ∷ [])))
    (ended before (end_passed file here))

-- Record by record. A name takes some of the bytes that are left, so that these are turns enough: `listed_step` (proofs/Turns.antt) says the same without
-- turns. With no byte left the next record's start is missing.
unfoldable pub listed_in : ℕ → List ℕ → List Bytes → Cursor → Listing
listed_in zero file before here = refusal (refused reason.CutShort here.at)
listed_in (suc turns) file before here = record_listed file before here (listed_in turns file)

abbrev pub listed_from : List ℕ → List Bytes → Cursor → Listing
listed_from file before here = listed_in (left file here.at) file before here

-- What a file comes to.
unfoldable pub listed : List ℕ → Listing
listed file = listed_from file [] (record { at = 0 })

-- The names in a file that the check takes; else none.
abbrev pub names_of : Listing → List Bytes
names_of (names ns) = ns
names_of (refusal why) = []

abbrev pub names_in : List ℕ → List Bytes
names_in file = names_of (listed file)

-- How many names, or the refusal.
abbrev pub counted : Listing → Result ℕ Refusal
counted (names ns) = Ok (length ns)
counted (refusal why) = Err why

-- What the check answers.
unfoldable pub checked : List ℕ → Result ℕ Refusal
checked file = counted (listed file)

-- Document 01's numbers for each case: "a refusal returns its number and place, 0 for every other number"; success "returns 0, place 0" and how many
-- names there are.
pub record Returned : Type 0 where
  pub number : ℕ
  pub place : ℕ
  pub count : ℕ

-- These numbers, by the case.
abbrev pub returned : Result ℕ Refusal → Returned
returned (Ok count) = record { number = 0; place = 0; count = count }
returned (Err why) = record { number = refusal_number why.reason; place = why.place; count = 0 }

-- The numbers that the check of a file returns.
abbrev pub check_numbers : List ℕ → Returned
check_numbers file = returned (checked file)

-- What the check promises of its answer.
pub record Checks (file : List ℕ) (r : Result ℕ Refusal) : Type 0 where
  pub answers : r ≡ checked file
  pub numbers : returned r ≡ check_numbers file
