-- Numbers in a file, little-endian, and what a writer leaves of the room it is lent (document 01, "Records").
use Rattle.std.specs.Prelude.{Bool, true, false, ◌&&◌, List, [], ◌∷◌, ◌++◌, ℕ, zero, suc, ◌+◌, ◌*◌, ◌/◌, ◌%◌, ◌<◌, eqb, length, get_or, take, drop}

-- The number of k bytes that starts at a place of a file.
unfoldable pub number_at : ℕ → List ℕ → ℕ → ℕ
number_at zero file at = 0
number_at (suc k) file at = get_or file at 0 + 256 * number_at k file (at + 1)

-- The k bytes of a number.
unfoldable pub bytes_of : ℕ → ℕ → List ℕ
bytes_of zero v = []
bytes_of (suc k) v = v % 256 ∷ bytes_of k (v / 256)

-- A file is a list of bytes.
pub record File (file : List ℕ) : Type 0 where
  pub byte : (i : ℕ) → get_or file i 0 < 256

-- xs with r in the place of as many elements from a on.
unfoldable pub over : List ℕ → ℕ → List ℕ → List ℕ
over r a xs = take a xs ++ r ++ drop (a + length r) xs

-- Whether two pieces of files have the same bytes.
unfoldable pub equal : List ℕ → List ℕ → Bool
equal [] [] = true
equal [] (b ∷ m) = false
equal (a ∷ n) [] = false
equal (a ∷ n) (b ∷ m) = eqb a b && equal n m
