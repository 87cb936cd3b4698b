-- A list of names, and the file that holds it: "a name list (kind 33 per name, kind 34 to end)" (document 02, C-11).
use mathlib.Core.List.{List, [], ◌∷◌, ◌++◌, Memᴰ}
use Rattle.std.specs.Prelude.{ℕ, ◌+◌, ◌≤◌, length, take, drop}
use Rattle.grammar.specs.Columns.{Bytes}
use Rattle.grammar.specs.Text.{Name}
use Rattle.grammar.specs.Limits.{Distinct}
use Rattle.record.specs.Bytes.{number_at}
use Rattle.record.specs.Records as records
use Rattle.record.specs.Records.{record_of, record_bytes}
use Rattle.record.specs.declared.Record.{Record}

-- "names of 1 to 32 letters, digits, dots, hyphens or underscores".
pub record LegalName (n : Bytes) : Type 0 where
  pub spelt : Name n
  pub short : length n ≤ 32

-- Each is legal, and none is "a repeat".
pub record Legal (ns : List Bytes) : Type 0 where
  pub names : (n : Bytes) → Memᴰ n ns → LegalName n
  pub distinct : Distinct [] ns

-- ---- the file of a list

-- What the record of a name says of itself: it is as long as the name.
abbrev pub name_record : Bytes → Record
name_record n = record { kind = records.name; length = length n }

-- It is the payload.
abbrev pub name_bytes : Bytes → List ℕ
name_bytes n = record_bytes (name_record n) n

-- The end record, which has no payload.
abbrev pub end_bytes : List ℕ
end_bytes = record_bytes (record_of records.names_end) []

-- The records of names, one after the other.
unfoldable pub names_bytes : List Bytes → List ℕ
names_bytes [] = []
names_bytes (n ∷ ns) = name_bytes n ++ names_bytes ns

-- "kind 33 per name, kind 34 to end".
unfoldable pub list_of : List Bytes → List ℕ
list_of ns = names_bytes ns ++ end_bytes

-- How many bytes that is.
unfoldable pub list_length : List Bytes → ℕ
list_length [] = 4
list_length (n ∷ ns) = 4 + length n + list_length ns

-- The name in the record that starts at a place: as much of what follows its kind as its length says.
unfoldable pub name_at : List ℕ → ℕ → Bytes
name_at file at = take (number_at 2 file at) (drop (at + 4) file)
