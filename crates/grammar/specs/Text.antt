-- The texts that spell trees.
use Rattle.std.specs.Prelude.{◌≡◌, List, [], ◌∷◌, ◌++◌, ℕ}
use Rattle.grammar.specs.Bytes as bytes
use Rattle.grammar.specs.Bytes.{Sign, mark, blank, letter}
use Rattle.grammar.specs.Trees.{Trees, Token, word, sign, file}

-- A name: one letter or more.
pub data Name : List ℕ → Type 0 where
  only : {b : ℕ} → mark b ≡ letter → Name (b ∷ [])
  more : {b : ℕ} {n : List ℕ} → mark b ≡ letter → Name n → Name (b ∷ n)

-- A text spells tokens: "spaces, tabs, CR and LF may stand around any token".
-- (No two names stand side by side in a tree, so that where a name ends needs no rule.)
pub data Spells : List Token → List ℕ → Type 0 where
  end : Spells [] []
  gap : {b : ℕ} {k : List Token} {s : List ℕ} → mark b ≡ blank → Spells k s → Spells k (b ∷ s)
  then_sign : {b : ℕ} {g : Sign} {k : List Token} {s : List ℕ} → mark b ≡ bytes.sign g → Spells k s → Spells (sign g ∷ k) (b ∷ s)
  then_word : {n : List ℕ} {k : List Token} {s : List ℕ} → Name n → Spells k s → Spells (word n ∷ k) (n ++ s)

-- A text spells trees: it is "a file of trees".
abbrev pub Newick : List ℕ → Trees → Type 0
Newick s ts = Spells (file ts []) s
