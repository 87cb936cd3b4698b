-- A state's shape tells whether a byte can stand there, and the next shape (`goes_on`, `stops_there`), and whether the file can end (`may_end`, `may_not_end`).
use mathlib.Core.Path.{◌≡◌, refl, sym, ◌∙◌}
use mathlib.Core.Bool.{true, false, true≢false}
use mathlib.Core.List.{List, [], ◌∷◌, map}
use mathlib.Core.Option.{Option, none, some}
use Prim.Native.Nat.{ℕ}
use native.Mathlib.Omega.{arith}
use Rattle.grammar.specs.Bytes.{Sign, Mark, left, right, comma, semicolon, blank, letter, wrong, sign}
use Rattle.grammar.specs.Trees.{Tree, Trees, leaf}
use Rattle.grammar.specs.Reader.{Done, State, before, naming, after, ended, step, Outcome, trees, ending}
use Rattle.grammar.specs.inner.Shape.{beginning, Shape, has, shape_of, shape, after_subtree, step_shape, next}

abbrev shapes : Option State → Option Shape
shapes none = none
shapes (some σ) = some (shape_of σ)

ended_shape : (d : Done) (fs : List Done) (t : Tree) (g : Sign) → shapes (ended d fs t g) ≡ after_subtree (has d) (map has fs) g
unfolding ended after_subtree
ended_shape d fs t left = refl
ended_shape d [] t right = refl
ended_shape d (none ∷ fs) t right = refl
ended_shape d (some us ∷ fs) t right = refl
ended_shape d [] t comma = refl
ended_shape d (f ∷ fs) t comma = refl
ended_shape d [] t semicolon = refl
ended_shape d (f ∷ fs) t semicolon = refl

step_shape_lem : (σ : State) (b : ℕ) (m : Mark) → shapes (step σ b m) ≡ next (shape_of σ) m
unfolding step step_shape
step_shape_lem (before d fs) b blank = refl
step_shape_lem (before d fs) b letter = refl
step_shape_lem (before d fs) b wrong = refl
step_shape_lem (before d fs) b (sign left) = refl
step_shape_lem (before d fs) b (sign right) = refl
step_shape_lem (before d fs) b (sign comma) = refl
step_shape_lem (before d fs) b (sign semicolon) = refl
step_shape_lem (naming d fs n) b blank = refl
step_shape_lem (naming d fs n) b letter = refl
step_shape_lem (naming d fs n) b wrong = refl
step_shape_lem (naming d fs n) b (sign g) = ended_shape d fs (leaf n) g
step_shape_lem (after d fs t) b blank = refl
step_shape_lem (after d fs t) b letter = refl
step_shape_lem (after d fs t) b wrong = refl
step_shape_lem (after d fs t) b (sign g) = ended_shape d fs t g

pub goes_on : {h : Shape} (σ : State) (b : ℕ) (m : Mark) → next (shape_of σ) m ≡ some h → (σ' : State) × (step σ b m ≡ some σ') × (shape_of σ' ≡ h)
goes_on {h} σ b m e = go (step σ b m) refl (step_shape_lem σ b m ∙ e)
  where
    go : (o : Option State) → step σ b m ≡ o → shapes (step σ b m) ≡ some h → (σ' : State) × (step σ b m ≡ some σ') × (shape_of σ' ≡ h)
    go none f i = let z : ◌≡◌ {A = ℕ} 0 1 = cc in absurd (omega arith)
    go (some σ') f i = (σ', f, cc)

pub stops_there : (σ : State) (b : ℕ) (m : Mark) → next (shape_of σ) m ≡ none → step σ b m ≡ none
stops_there σ b m e = go (step σ b m) refl (step_shape_lem σ b m ∙ e)
  where
    go : (o : Option State) → step σ b m ≡ o → shapes (step σ b m) ≡ none → step σ b m ≡ none
    go none f i = f
    go (some σ') f i = let z : ◌≡◌ {A = ℕ} 0 1 = cc in absurd (omega arith)

pub clash : {A : Type 0} → true ≡ false → A
clash e = absurd (true≢false e)

-- The file can end exactly at such a shape.
pub may_end : (p : ℕ) (σ : State) → (shape_of σ).phase ≡ beginning → (shape_of σ).some_tree ≡ true → (shape_of σ).brackets ≡ []
    → (ts : Trees) × (ending p σ ≡ trees ts)
unfolding ending
may_end p (before (some ts) []) e f g = (ts, refl)
may_end p (before none fs) e f g = clash (sym f)
may_end p (before (some ts) (h ∷ fs)) e f g = clash cc
may_end p (naming d fs n) e f g = clash cc
may_end p (after d fs t) e f g = clash cc

pub may_not_end : (p : ℕ) (σ : State) → (shape_of σ ≡ shape beginning true [] → ⊥) → ending p σ ≡ Outcome.refused p
unfolding ending
may_not_end p (before none fs) f = refl
may_not_end p (before (some ts) []) f = absurd (f refl)
may_not_end p (before (some ts) (g ∷ fs)) f = refl
may_not_end p (naming d fs n) f = refl
may_not_end p (after d fs t) f = refl

pub ends_so : (p : ℕ) (σ : State) {ts : Trees} → ending p σ ≡ trees ts → shape_of σ ≡ shape beginning true []
unfolding ending
ends_so p (before (some us) []) e = refl
ends_so p (before none fs) e = clash cc
ends_so p (before (some us) (f ∷ fs)) e = clash cc
ends_so p (naming d fs n) e = clash cc
ends_so p (after d fs t) e = clash cc
