-- The bytes of a name as numbers of eight bytes, by which two names are compared.
use Rattle.std.specs.Prelude.{ℕ, ◌+◌, ◌*◌, ◌-◌, ◌^◌, ◌%◌, min, ◌≤◌, List, length}
use Rattle.record.specs.Bytes.{number_at}
use Rattle.newick.specs.declared.Words.{Words}

-- Of a name of less than eight bytes: these, with what follows them in the text shifted out.
abbrev pub short_word : List ℕ → ℕ → ℕ → ℕ
short_word text at size = (number_at 8 text at * 2 ^ (64 - 8 * size)) % 2 ^ 64

-- Of a name of eight bytes or more: the first eight, the last eight, and those between; they overlap where it has less than 32.
abbrev pub words_at : List ℕ → ℕ → ℕ → Words
words_at text at size = record {
  first = number_at 8 text at;
  second = number_at 8 text (at + min (size - 8) 8);
  third = number_at 8 text (at + min (size - 8) 16);
  last = number_at 8 text (at + (size - 8));
}

-- A name of so many bytes at a place, where eight can be read too.
pub record Legible (text : List ℕ) (at size : ℕ) : Type 0 where
  pub some : 1 ≤ size
  pub few : size ≤ 32
  pub inside : at + size ≤ length text
  pub word : at + 8 ≤ length text
