-- Where the records of a list stand, met one after the other.
use Rattle.std.specs.Prelude.{◌≡◌, List, [], ◌∷◌, ℕ, zero, suc, ◌+◌, ◌≤◌, length}
use Rattle.grammar.specs.Columns.{Bytes}
use Rattle.record.specs.Bytes.{number_at}
use Rattle.names.specs.Names.{name_at}

-- Where the record after the one at a place starts.
abbrev pub after : List ℕ → ℕ → ℕ
after file at = at + 4 + number_at 2 file at

-- The names of k records, of which the first one starts at a place.
unfoldable pub names_from : List ℕ → ℕ → ℕ → List Bytes
names_from file zero at = []
names_from file (suc k) at = name_at file at ∷ names_from file k (after file at)

-- Where the record after k records starts.
unfoldable pub place_from : List ℕ → ℕ → ℕ → ℕ
place_from file zero at = at
place_from file (suc k) at = place_from file k (after file at)

-- The record at a place is in the file.
abbrev pub Whole : List ℕ → ℕ → Type 0
Whole file at = after file at ≤ length file

-- The record after the first `count` stands at a place, and is in the file.
pub record Stands (file : List ℕ) (count at : ℕ) : Type 0 where
  pub follows : at ≡ place_from file count 0
  pub whole : Whole file at
