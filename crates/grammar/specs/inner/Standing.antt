-- Where a program stands that reads a text token by token, while the definition goes byte by byte.
use Rattle.std.specs.Prelude.{◌≡◌, Bool, true, false, List, ℕ, ◌≤◌, ◌<◌, length, get_or, take, drop}
use Rattle.grammar.specs.Trees.{Token}
use Rattle.grammar.specs.Reader.{State, start}
use Rattle.grammar.specs.Verdict.{Check, Verdict, verdict}
use Rattle.grammar.specs.inner.Shape.{Phase, beginning, inside, ended, shape_of, shape}

-- The bytes from one place up to another meet the test, and the next does not.
pub record Run (test : ℕ → Bool) (text : List ℕ) (from to : ℕ) : Type 0 where
  pub up : from ≤ to
  pub within : to ≤ length text
  pub each : (i : ℕ) → from ≤ i → i < to → test (get_or text i 0) ≡ true
  pub stops : to < length text → test (get_or text to 0) ≡ false

-- So many bytes of the text, from a place on.
abbrev pub piece : List ℕ → ℕ → ℕ → List ℕ
piece text at k = take k (drop at text)

-- A program takes names whole, so that it is never inside one.
abbrev pub Between : Phase → Type 0
Between beginning = Unit
Between inside = ⊥
Between ended = Unit

module _ {T : Type 0} (note : T → Token → Check T) (x₀ : T) where
  -- What reading the whole text comes to, with any clerk.
  abbrev pub outcome_by : List ℕ → Verdict T
  outcome_by text = verdict note 0 start x₀ text

  -- Between tokens at the place p, in a state of that shape, with a clerk who keeps x: what is left of the text comes to what the whole does.
  pub record Standing (text : List ℕ) (p : ℕ) (phase : Phase) (some_tree : Bool) (brackets : List Bool) (x : T) : Type 0 where
    pub state : State
    pub between : Between phase
    pub shaped : shape_of state ≡ shape phase some_tree brackets
    pub same : verdict note p state x (drop p text) ≡ outcome_by text
