-- What an outcome of the reader says of the text; where refusal 16 stands: "at the first byte that cannot stand there or the file's end".
use Rattle.std.specs.Prelude.{List, [], ◌∷◌, ◌++◌, ◌≡◌, ℕ, length}
use Rattle.grammar.specs.Trees.{Trees}
use Rattle.grammar.specs.Text.{Newick}
use Rattle.grammar.specs.Reader.{Outcome, trees, refused}

-- The text is of the grammar.
abbrev pub Grammatical : List ℕ → Type 0
Grammatical s = (ts : Trees) × Newick s ts

-- The text can go on to one of the grammar.
abbrev pub Starts : List ℕ → Type 0
Starts a = (r : List ℕ) × Grammatical (a ++ r)

-- The place of refusal 16.
pub data Fault (s : List ℕ) : ℕ → Type 0 where
  -- A byte that cannot stand there: what is before it can go on, and with it cannot.
  at_byte : (a : List ℕ) (b : ℕ) (c : List ℕ) → s ≡ a ++ b ∷ c → Starts a → (Starts (a ++ b ∷ []) → ⊥) → Fault s (length a)
  -- The file's end: the text can go on, but not end there.
  at_end : Starts s → (Grammatical s → ⊥) → Fault s (length s)

-- An outcome is right where it names the trees that the text spells, or the place of refusal 16.
abbrev pub Right : List ℕ → Outcome → Type 0
Right s (trees ts) = Newick s ts
Right s (refused p) = Fault s p
