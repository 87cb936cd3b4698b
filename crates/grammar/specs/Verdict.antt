-- The reader with a clerk, who is told each token as it ends and keeps what he will, or refuses it by a number. The name that a byte ends is told
-- before the byte is judged, and the byte's own token after. So "the first place decides, then the lower number".
use Rattle.std.specs.Prelude.{Bool, false, cond, List, [], ◌∷◌, ℕ, suc, ◌-◌, eqb, length}
use Rattle.std.proofs.Math.Option.{Option, none, some}
use Rattle.grammar.specs.Bytes.{Sign, Mark, mark, blank, letter, wrong}
use Rattle.grammar.specs.Bytes as bytes
use Rattle.grammar.specs.Trees.{Trees, Token, word, sign}
use Rattle.grammar.specs.Reader.{State, before, naming, after, step, Outcome, trees, ending}

-- What the clerk does at a token.
pub data Check (T : Type 0) : Type 0 where
  goes : T → Check T
  fails : ℕ → Check T

-- He refuses by the first of the numbers that a token breaks, and keeps x where it breaks none.
abbrev pub noted : {T : Type 0} → List ℕ → T → Check T
noted [] x = goes x
noted (r ∷ rs) x = fails r

-- What a byte comes to: a refusal has a number and a place.
pub data Next (T : Type 0) : Type 0 where
  on : State → T → Next T
  stop : ℕ → ℕ → Next T

-- What the file comes to: its trees and what the clerk kept, or a refusal.
pub data Verdict (T : Type 0) : Type 0 where
  accepted : Trees → T → Verdict T
  refused : ℕ → ℕ → Verdict T

-- "17 name too long, at its 33rd byte".
abbrev pub too_long : State → Bool
too_long (before d fs) = false
too_long (naming d fs n) = eqb (length n) 32
too_long (after d fs t) = false

module _ {T : Type 0} (note : T → Token → Check T) where
  -- Token by token.
  unfoldable pub notes : T → List Token → Check T
  notes x [] = goes x
  notes x (w ∷ k) = elim (note x w) [ goes y ↦ notes y k | fails r ↦ fails r ]

  -- The name that ends here, if one does, is told.
  unfoldable pub named : State → T → Check T
  named (before d fs) x = goes x
  named (naming d fs n) x = note x (word n)
  named (after d fs t) x = goes x

  -- Its first byte, where it is refused.
  abbrev pub first : ℕ → State → ℕ
  first p (before d fs) = p
  first p (naming d fs n) = p - length n
  first p (after d fs t) = p

  -- "16 .. at the first byte that cannot stand there".
  abbrev pub stepped : ℕ → Option State → T → Next T
  stepped p none x = stop 16 p
  stepped p (some σ) x = on σ x

  -- The byte's own token, where it can stand.
  abbrev pub signed : ℕ → Option State → T → Sign → Next T
  signed p none x g = stop 16 p
  signed p (some σ) x g = elim (note x (sign g)) [ goes y ↦ on σ y | fails r ↦ stop r p ]

  -- One byte b at the place p, with its mark.
  unfoldable pub judge : ℕ → State → T → ℕ → Mark → Next T
  judge p σ x b letter = cond (too_long σ) (stop 17 p) (stepped p (step σ b letter) x)
  judge p σ x b blank = elim (named σ x) [ goes y ↦ stepped p (step σ b blank) y | fails r ↦ stop r (first p σ) ]
  judge p σ x b wrong = elim (named σ x) [ goes y ↦ stop 16 p | fails r ↦ stop r (first p σ) ]
  judge p σ x b (bytes.sign g) = elim (named σ x) [ goes y ↦ signed p (step σ b (bytes.sign g)) y g | fails r ↦ stop r (first p σ) ]

  -- "or the file's end".
  abbrev pub settled : Outcome → T → Verdict T
  settled (trees ts) x = accepted ts x
  settled (Outcome.refused p) x = refused 16 p

  -- The text s from the place p on.
  unfoldable pub verdict : ℕ → State → T → List ℕ → Verdict T
  verdict p σ x [] = elim (named σ x) [ goes y ↦ settled (ending p σ) y | fails r ↦ refused r (first p σ) ]
  verdict p σ x (b ∷ s) = elim (judge p σ x b (mark b)) [ on σ' y ↦ verdict (suc p) σ' y s | stop r q ↦ refused r q ]
