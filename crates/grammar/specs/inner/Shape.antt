-- What of the reader's state decides the next byte: no trees, as a program keeps it.
use Rattle.std.specs.Prelude.{Bool, true, false, List, [], ◌∷◌, map}
use Rattle.std.proofs.Math.Option.{Option, none, some}
use Rattle.grammar.specs.Bytes.{Sign, Mark, left, right, comma, semicolon, blank, letter, wrong, sign}
use Rattle.grammar.specs.Reader.{Done, State, before, naming, after}

-- A subtree must begin; a name goes on; a subtree has ended.
pub data Phase : Type 0 where
  beginning inside ended : Phase

pub record Shape : Type 0 where
  pub phase : Phase
  -- A tree of the file is finished.
  pub some_tree : Bool
  -- For each open bracket, the last first: a subtree in it is finished.
  pub brackets : List Bool

abbrev pub has : Done → Bool
has none = false
has (some ts) = true

abbrev pub shape_of : State → Shape
shape_of (before d fs) = record { phase = beginning; some_tree = has d; brackets = map has fs }
shape_of (naming d fs n) = record { phase = inside; some_tree = has d; brackets = map has fs }
shape_of (after d fs t) = record { phase = ended; some_tree = has d; brackets = map has fs }

abbrev pub shape : Phase → Bool → List Bool → Shape
shape p d fs = record { phase = p; some_tree = d; brackets = fs }

-- A sign after a subtree.
unfoldable pub after_subtree : Bool → List Bool → Sign → Option Shape
after_subtree d fs left = none
after_subtree d [] right = none
after_subtree d (false ∷ fs) right = none
after_subtree d (true ∷ fs) right = some (shape ended d fs)
after_subtree d [] comma = none
after_subtree d (f ∷ fs) comma = some (shape beginning d (true ∷ fs))
after_subtree d [] semicolon = some (shape beginning true [])
after_subtree d (f ∷ fs) semicolon = none

unfoldable pub step_shape : Phase → Bool → List Bool → Mark → Option Shape
step_shape beginning d fs blank = some (shape beginning d fs)
step_shape beginning d fs letter = some (shape inside d fs)
step_shape beginning d fs wrong = none
step_shape beginning d fs (sign left) = some (shape beginning d (false ∷ fs))
step_shape beginning d fs (sign right) = none
step_shape beginning d fs (sign comma) = none
step_shape beginning d fs (sign semicolon) = none
step_shape inside d fs blank = some (shape ended d fs)
step_shape inside d fs letter = some (shape inside d fs)
step_shape inside d fs wrong = none
step_shape inside d fs (sign g) = after_subtree d fs g
step_shape ended d fs blank = some (shape ended d fs)
step_shape ended d fs letter = none
step_shape ended d fs wrong = none
step_shape ended d fs (sign g) = after_subtree d fs g

abbrev pub next : Shape → Mark → Option Shape
next h m = step_shape h.phase h.some_tree h.brackets m
