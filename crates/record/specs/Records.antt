-- Records (document 01): "length (2 bytes, payload only), kind (2 bytes), payload". What reading one finds, and how one is written.
use Rattle.std.specs.Prelude.{Bool, ◌&&◌, ◌||◌, cond, List, ◌++◌, ℕ, ◌+◌, ◌-◌, ◌%◌, length, ltb, leb, eqb, Result, Ok, Err}
use Rattle.record.specs.Bytes.{number_at, bytes_of}
use Rattle.record.specs.declared.Cursor.{Cursor}
use Rattle.record.specs.declared.Record.{Record}
use Rattle.record.specs.declared.Varying.{Varying}
use Rattle.record.specs.Refusals.{refused}
use Rattle.record.specs.declared.refusal.Reason.TheVariants.{CutShort, Unexpected, Trailing}
use Rattle.record.specs.declared.refusal.Refusal.{Refusal}
use Rattle.record.specs.declared.Step.{Step}
use Rattle.record.specs.declared.Step.TheVariants.{Payload, Refused}

-- ---- "Each record kind has one number"

-- "1 matrix head".
abbrev pub matrix_head : ℕ
matrix_head = 1

-- "2 column".
abbrev pub column : ℕ
column = 2

-- "3 matrix end".
abbrev pub matrix_end : ℕ
matrix_end = 3

-- "A record of kind 5, directly after the matrix head" (document 02, C-14).
abbrev pub multiplicities : ℕ
multiplicities = 5

-- "17 answer head".
abbrev pub answer_head : ℕ
answer_head = 17

-- "18 group".
abbrev pub group : ℕ
group = 18

-- "19 flips".
abbrev pub flips : ℕ
flips = 19

-- "20 answer end".
abbrev pub answer_end : ℕ
answer_end = 20

-- "A name list (kind 33 per name, kind 34 to end)" (document 02, C-11).
abbrev pub name : ℕ
name = 33

-- "Kind 34 to end".
abbrev pub names_end : ℕ
names_end = 34

-- How many bytes the payload of a kind of document 01 has; the end records, and no others, have none.
abbrev pub payload : ℕ → ℕ
payload kind =
    cond (eqb kind matrix_head) 4
    (cond (eqb kind column) 18
    (cond (eqb kind answer_head) 12
    (cond (eqb kind group) 12
    (cond (eqb kind flips) 18 0))))

-- The record of a kind.
abbrev pub record_of : ℕ → Record
record_of kind = record { kind = kind; length = payload kind }

-- It "holds n bytes, one multiplicity per taxon": its length is no payload of a kind.
abbrev pub multiplicity_record : ℕ → Record
multiplicity_record n = record { kind = multiplicities; length = n }

-- How many bytes of a file are left from a place on.
abbrev pub left : List ℕ → ℕ → ℕ
left file at = length file - at

-- What a reading that keeps no values comes to: the cursor moved on, or the refusal.
abbrev pub Passed : Type 0
Passed = Result Cursor Refusal

-- Reading a record: "fewer than 4 bytes left (1), kind or length (2), payload short (1)", each at the record's start.
unfoldable pub step : List ℕ → ℕ → Record → Step
step file at expected =
    cond (ltb (left file at) 4) (Refused (refused CutShort at))
    (cond (eqb (number_at 2 file (at + 2)) expected.kind && eqb (number_at 2 file at) expected.length)
    (cond (ltb (left file at - 4) expected.length) (Refused (refused CutShort at))
    (Payload (at + 4) (record { at = at + 4 + expected.length })))
    (Refused (refused Unexpected at)))

-- Whether a record's length may be this: the least, or a multiple of `by` more, up to the most.
unfoldable pub allowed : Varying → ℕ → Bool
allowed v l = eqb l v.least || (ltb v.least l && leb l v.most && eqb ((l - v.least) % v.by) 0)

-- The record that is expected where a length stands: of that length if it is allowed, else of one that differs from it.
abbrev pub varied : Varying → ℕ → Record
varied v l = record { kind = v.kind; length = cond (allowed v l) l v.least }

-- Reading a record whose length may vary: so "kind or length (2)" is told of every length that is not allowed.
unfoldable pub varying_step : List ℕ → ℕ → Varying → Step
varying_step file at v = step file at (varied v (number_at 2 file at))

-- Whether a record of a kind starts at a place: four bytes are left, and they say so.
unfoldable pub finds : List ℕ → ℕ → ℕ → Bool
finds file at kind = leb 4 (left file at) && eqb (number_at 2 file (at + 2)) kind

-- Past a record, whatever its payload holds.
abbrev pub past : Step → Passed
past (Payload at next) = Ok next
past (Refused why) = Err why

-- "A record other than the expected one ends the reading at once": a payload is judged, a refusal goes straight out.
abbrev pub judged : Step → (ℕ → Cursor → Passed) → Passed
judged (Payload at next) judge = judge at next
judged (Refused why) judge = Err why

-- One reading after another.
abbrev pub onward : Passed → (Cursor → Passed) → Passed
onward (Ok here) go = go here
onward (Err why) go = Err why

-- "Bytes after the end record" are refused by 8, at the first of them.
unfoldable pub nothing_after : List ℕ → Cursor → Passed
nothing_after file here = cond (ltb 0 (left file here.at)) (Err (refused Trailing here.at)) (Ok here)

-- The length and the kind of a record, as it starts.
unfoldable pub opening_of : Record → List ℕ
opening_of it = bytes_of 2 it.length ++ bytes_of 2 it.kind

-- The whole record, with its payload.
unfoldable pub record_bytes : Record → List ℕ → List ℕ
record_bytes it content = opening_of it ++ content
