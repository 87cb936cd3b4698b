-- The same column twice (document 02, C-19): "merge such columns into the first and add their weights", and what has to be the same of the answers to a
-- matrix before and after. No operation takes the one with such columns, so this is about the method alone.
use Rattle.std.specs.Prelude.{◌≡◌, ◌↔◌, ℕ, ◌+◌, ◌<◌, length}
use mathlib.Core.List.{List, ◌∷◌, ◌++◌, Memᴰ}
use Rattle.method.specs.Split.{Column}
use Rattle.method.specs.Tree.{Matrix, column, answer}

-- ---- columns merged

-- "a column whose 1-set and 0-set both equal an earlier column's".
pub record Alike (c d : Column) : Type 0 where
  pub ones : c.ones ≡ d.ones
  pub zeros : c.zeros ≡ d.zeros

-- Two such columns merged: their weights added.
abbrev pub together : Column → Column → Column
together c d = record { weight = c.weight + d.weight; ones = c.ones; zeros = c.zeros }

-- A list with one such pair merged "into the first".
pub data PairMerged : List Column → List Column → Type 0 where
  pair : (before : List Column) (c : Column) (between : List Column) (d : Column) (after : List Column) → Alike c d
      → PairMerged (before ++ c ∷ (between ++ d ∷ after)) (before ++ together c d ∷ (between ++ after))

-- And with any number of them, one after the other.
pub data Merged : List Column → List Column → Type 0 where
  done : {cs : List Column} → Merged cs cs
  more : {cs ds es : List Column} → PairMerged cs ds → Merged ds es → Merged cs es

-- No column of a list stands twice.
pub record Once (cs : List Column) : Type 0 where
  pub differ : (i j : ℕ) → i < j → j < length cs → ¬ Alike (column cs i) (column cs j)

-- ---- the answers before and after

-- A matrix with other columns.
abbrev pub with_columns : Matrix → List Column → Matrix
with_columns M cs = record { taxa = M.taxa; multiplicities = M.multiplicities; columns = cs }

-- Column c of the one matrix and column c' of the other are alike.
pub record Copies (M M' : Matrix) (c c' : ℕ) : Type 0 where
  pub before : c < length M.columns
  pub after : c' < length M'.columns
  pub alike : Alike (column M.columns c) (column M'.columns c')

-- The answer to a matrix lists flips of column c: a raised set and a lowered set.
abbrev pub Flipped : Matrix → ℕ → ℕ → ℕ → Type 0
Flipped M c raised lowered = Memᴰ (record { column = c; raised = raised; lowered = lowered }) (answer M).flips

-- "merging changes no group, split cost or total; the flips of the merged column are those of each copy".
pub record SameAnswer (M M' : Matrix) : Type 0 where
  pub groups : (answer M').groups ≡ (answer M).groups
  pub total : (answer M').total ≡ (answer M).total
  -- Each column of the one matrix has one in the other,
  pub goes : (c : ℕ) → c < length M.columns → (c' : ℕ) × Copies M M' c c'
  pub comes : (c' : ℕ) → c' < length M'.columns → (c : ℕ) × Copies M M' c c'
  -- and what is listed of the one is listed of the other.
  pub flips : (c c' raised lowered : ℕ) → Copies M M' c c' → Flipped M c raised lowered ↔ Flipped M' c' raised lowered
