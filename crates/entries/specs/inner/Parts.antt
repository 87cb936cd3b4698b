-- Entries in three parallel parts, as reading leaves them.
use Rattle.std.specs.Prelude.{◌≡◌, List, ◌++◌, ℕ, ◌<◌, ◌≤◌, ◌^◌, get_or, take, drop, Result, Ok}
use Rattle.record.specs.declared.refusal.Refusal.{Refusal}
use Rattle.answer.specs.Content.{content_in}
use Rattle.answer.specs.Reading.{reading}
use Rattle.answer.specs.declared.Answer.{Answer}

-- A list with its first k elements replaced by those of another.
abbrev pub with_first : {X : Type 0} → ℕ → List X → List X → List X
with_first k xs zs = take k xs ++ drop k zs

-- Each of the first k columns fits its file width.
abbrev pub narrow : List ℕ → ℕ → Type 0
narrow columns k = (i : ℕ) → i < k → get_or columns i 0 < 2 ^ 16

-- The flips that an answer counts stand first in three parts of 256, and have room in a list of so many entries.
pub record FlipsFirst (file : List ℕ) (entries : ℕ) (a : Answer) (columns raised lowered : List ℕ) : Type 0 where
  pub has_room : a.flips ≤ entries
  pub few : a.flips ≤ 256
  pub columns_first : take a.flips columns ≡ (content_in file).columns
  pub raised_first : take a.flips raised ≡ (content_in file).raised
  pub lowered_first : take a.flips lowered ≡ (content_in file).lowered
  pub columns_narrow : narrow columns a.flips

-- What reading for a list of so many entries leaves in three parts of 256.
pub record InParts (file : List ℕ) (entries : ℕ) (r : Result Answer Refusal) (columns raised lowered : List ℕ) : Type 0 where
  pub answers : r ≡ reading file entries
  pub taken : (a : Answer) → r ≡ Ok a → FlipsFirst file entries a columns raised lowered
