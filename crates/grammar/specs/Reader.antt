-- The reader: it goes byte by byte and builds the trees as it goes.
use Rattle.std.specs.Prelude.{List, [], ◌∷◌, ◌++◌, ℕ, suc}
use Rattle.std.proofs.Math.Option.{Option, none, some}
use Rattle.grammar.specs.Bytes.{Sign, Mark, mark, left, right, comma, semicolon, blank, letter, wrong, sign}
use Rattle.grammar.specs.Trees.{Tree, Trees, leaf, inner, one, then}

-- The subtrees that are finished, in the file or in an open bracket: none yet, or some.
abbrev pub Done : Type 0
Done = Option Trees

-- These and one more.
abbrev pub add : Done → Tree → Trees
add none t = one t
add (some ts) t = then ts t

-- Where the reader is: the trees finished, the open brackets, the last first, and what stands there.
pub data State : Type 0 where
  -- A subtree must begin (or, with no bracket open, the file may end).
  before : Done → List Done → State
  -- In a name, of which these are the bytes so far.
  naming : Done → List Done → List ℕ → State
  -- A subtree has ended.
  after : Done → List Done → Tree → State

-- What a sign does after a subtree; none where it cannot stand there.
unfoldable pub ended : Done → List Done → Tree → Sign → Option State
ended d fs t left = none
ended d [] t right = none
ended d (none ∷ fs) t right = none
ended d (some ts ∷ fs) t right = some (after d fs (inner ts t))
ended d [] t comma = none
ended d (f ∷ fs) t comma = some (before d (some (add f t) ∷ fs))
ended d [] t semicolon = some (before (some (add d t)) [])
ended d (f ∷ fs) t semicolon = none

-- One byte b, with its mark.
unfoldable pub step : State → ℕ → Mark → Option State
step (before d fs) b blank = some (before d fs)
step (before d fs) b letter = some (naming d fs (b ∷ []))
step (before d fs) b wrong = none
step (before d fs) b (sign left) = some (before d (none ∷ fs))
step (before d fs) b (sign right) = none
step (before d fs) b (sign comma) = none
step (before d fs) b (sign semicolon) = none
step (naming d fs n) b blank = some (after d fs (leaf n))
step (naming d fs n) b letter = some (naming d fs (n ++ b ∷ []))
step (naming d fs n) b wrong = none
step (naming d fs n) b (sign g) = ended d fs (leaf n) g
step (after d fs t) b blank = some (after d fs t)
step (after d fs t) b letter = none
step (after d fs t) b wrong = none
step (after d fs t) b (sign g) = ended d fs t g

-- What comes of a text: its trees, or refusal 16 at a place.
pub data Outcome : Type 0 where
  trees : Trees → Outcome
  refused : ℕ → Outcome

-- The file ends at the place p.
unfoldable pub ending : ℕ → State → Outcome
ending p (before none fs) = refused p
ending p (before (some ts) []) = trees ts
ending p (before (some ts) (f ∷ fs)) = refused p
ending p (naming d fs n) = refused p
ending p (after d fs t) = refused p

-- The text s from the place p on.
unfoldable pub run : ℕ → State → List ℕ → Outcome
run p σ [] = ending p σ
run p σ (b ∷ s) = elim (step σ b (mark b)) [ none ↦ refused p | some σ' ↦ run (suc p) σ' s ]

-- Before the first byte.
abbrev pub start : State
start = before none []

-- "16 not of this grammar, or no tree, at the first byte that cannot stand there or the file's end".
abbrev pub read : List ℕ → Outcome
read s = run 0 start s
