-- Runs of bytes that meet a test, and the table by which a letter is told.
use Rattle.std.specs.Prelude.{◌≡◌, Bool, true, false, List, ℕ, ◌+◌, ◌≤◌, ◌<◌, length, get_or}
use Rattle.grammar.specs.Bytes.{is_letter}

-- The bytes so far meet the test.
pub record Sofar (test : ℕ → Bool) (text : List ℕ) (from at : ℕ) : Type 0 where
  pub up : from ≤ at
  pub within : at ≤ length text
  pub each : (i : ℕ) → from ≤ i → i < at → test (get_or text i 0) ≡ true

-- Of the next `most` bytes, `more` meet the test before one that does not.
pub record Of (most : ℕ) (test : ℕ → Bool) (text : List ℕ) (at more : ℕ) : Type 0 where
  pub few : more ≤ most
  pub sofar : Sofar test text at (at + more)
  pub stops : more < most → test (get_or text (at + more) 0) ≡ false

-- For each byte, whether it is a letter.
pub record Lettered (letters : List Bool) : Type 0 where
  pub room : length letters ≡ 256
  pub tells : (b : ℕ) → b < 256 → get_or letters b false ≡ is_letter b
