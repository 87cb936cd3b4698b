-- Trees as text, "without blanks".
use Rattle.std.specs.Prelude.{List, [], ◌∷◌, ◌++◌, ℕ}
use Rattle.grammar.specs.Bytes.{byte}
use Rattle.grammar.specs.Trees.{Trees, Token, word, sign, file}

-- The bytes of tokens, one after the other.
unfoldable pub plain : List Token → List ℕ
plain [] = []
plain (word n ∷ k) = n ++ plain k
plain (sign g ∷ k) = byte g ∷ plain k

-- The text of trees.
abbrev pub written : Trees → List ℕ
written ts = plain (file ts [])
