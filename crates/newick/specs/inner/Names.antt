-- The names that a text has been found to have: where each starts, and how long it is.
use Rattle.std.specs.Prelude.{◌≡◌, false, List, [], ◌∷◌, ◌++◌, ℕ, zero, suc, ◌+◌, ◌≤◌, ◌<◌, length, get_or}
use Rattle.grammar.specs.Columns.{Bytes}
use Rattle.record.specs.Bytes.{equal}
use Rattle.grammar.specs.inner.Standing.{piece}

-- The first n names.
unfoldable pub names_in : List ℕ → List ℕ → List ℕ → ℕ → List Bytes
names_in text starts sizes zero = []
names_in text starts sizes (suc n) = names_in text starts sizes n ++ (piece text (get_or starts n 0) (get_or sizes n 0) ∷ [])

-- "names of 1 to 32": none of the first n is longer.
abbrev pub Short : List ℕ → ℕ → Type 0
Short sizes n = (i : ℕ) → i < n → get_or sizes i 0 ≤ 32

-- None of the first n stands twice.
abbrev pub Apart : List ℕ → List ℕ → List ℕ → ℕ → Type 0
Apart text starts sizes n =
    (i : ℕ) → i < n → (j : ℕ) → j < i → equal (piece text (get_or starts i 0) (get_or sizes i 0)) (piece text (get_or starts j 0) (get_or sizes j 0)) ≡ false

-- The lists have room for 64 names, and the first n stand in the text.
pub record Placed (text starts sizes : List ℕ) (n : ℕ) : Type 0 where
  pub starts_room : length starts ≡ 64
  pub sizes_room : length sizes ≡ 64
  pub few : n ≤ 64
  pub inside : (i : ℕ) → i < n → get_or starts i 0 + get_or sizes i 0 ≤ length text
  pub short : Short sizes n
  pub apart : Apart text starts sizes n
