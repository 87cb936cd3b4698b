-- Where a name of a list stands.
use Rattle.std.specs.Prelude.{◌≡◌, List, [], ℕ, ◌+◌, ◌≤◌, length, get_or, take, drop}
use Rattle.names.specs.declared.Found.{Found}
use Rattle.names.specs.Check.{names_in}

-- The bytes that were found are the name of this number, and are there.
pub record Locates (file : List ℕ) (index : ℕ) (r : Found) : Type 0 where
  pub is : take r.length (drop r.place file) ≡ get_or (names_in file) index []
  pub within : r.place + r.length ≤ length file
  pub some : 1 ≤ r.length
  pub short : r.length ≤ 32
