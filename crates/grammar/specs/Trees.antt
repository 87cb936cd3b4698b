-- Trees as document 02 has them, and their tokens: "A subtree is a name or two or more subtrees, commas between, in round brackets."
use Rattle.std.specs.Prelude.{List, ◌∷◌, ℕ}
use Rattle.grammar.specs.Bytes.{Sign, left, right, comma, semicolon}

mutual
  -- A name, or two or more subtrees: all but the last, and the last.
  pub data Tree : Type 0 where
    leaf : List ℕ → Tree
    inner : Trees → Tree → Tree

  -- One tree or more.
  pub data Trees : Type 0 where
    one : Tree → Trees
    then : Trees → Tree → Trees

-- What a text is made of, blanks aside: names and signs.
pub data Token : Type 0 where
  word : List ℕ → Token
  sign : Sign → Token

-- The tokens of a tree, and of trees with a comma after each; `k` are those that follow.
unfoldable mutual
  pub tokens : Tree → List Token → List Token
  tokens (leaf n) k = word n ∷ k
  tokens (inner ts t) k = sign left ∷ commas ts (tokens t (sign right ∷ k))

  pub commas : Trees → List Token → List Token
  commas (one t) k = tokens t (sign comma ∷ k)
  commas (then ts t) k = commas ts (tokens t (sign comma ∷ k))

-- "a file of trees, each closed by a semicolon".
unfoldable pub file : Trees → List Token → List Token
file (one t) k = tokens t (sign semicolon ∷ k)
file (then ts t) k = file ts (tokens t (sign semicolon ∷ k))
