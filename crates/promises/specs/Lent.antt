-- The workspace that is lent (document 02, C-13): "Build and split are to need one number for each 1 in the matrix".
use Rattle.std.specs.Prelude.{◌≡◌, List, ℕ, ◌≤◌, ◌<◌, ℤ, pos, length, get_or}
use Rattle.method.specs.Tree.{Matrix, one_entries}

-- A workspace before and after success: it was long enough; "after success that many are 0"; "every workspace number past that count is proved unchanged".
pub record OneForEach1 (M : Matrix) (ws ws' : List ℤ) : Type 0 where
  pub enough : one_entries M ≤ length ws
  pub long : length ws' ≡ length ws
  pub zeros : (i : ℕ) → i < one_entries M → (d : ℤ) → get_or ws' i d ≡ pos 0
  pub past : (i : ℕ) → one_entries M ≤ i → (d : ℤ) → get_or ws' i d ≡ get_or ws i d
