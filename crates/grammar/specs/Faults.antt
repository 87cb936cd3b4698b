-- Everything that is wrong with a text: what it breaks, read on regardless up to the byte that cannot stand there.
use Rattle.std.specs.Prelude.{cond, ◌≡◌, ◌⊎◌, ℕ, suc, ◌-◌, ◌≤◌, ◌<◌, ltb, length}
use mathlib.Core.List.{List, [], ◌∷◌, ◌++◌, map, Memᴰ}
use Rattle.std.proofs.Math.Option.{none, some}
use Rattle.grammar.specs.Bytes.{Mark, mark, blank, letter, wrong}
use Rattle.grammar.specs.Bytes as bytes
use Rattle.grammar.specs.Trees.{Token, word, sign}
use Rattle.grammar.specs.Reader.{State, before, naming, after, step, Outcome, trees, refused, ending}
use Rattle.grammar.specs.Verdict.{too_long}

-- A refusal has a number and a place.
pub record Refusal : Type 0 where
  pub number : ℕ
  pub place : ℕ

-- These numbers, all at the place p.
abbrev pub at : ℕ → List ℕ → List Refusal
at p rs = map (λ r. record { number = r; place = p }) rs

-- Of these faults f is the first: "the first place decides, then the lower number".
pub record FirstOf (fs : List Refusal) (f : Refusal) : Type 0 where
  pub one : Memᴰ f fs
  pub first : (g : Refusal) → Memᴰ g fs → (f.place < g.place) ⊎ ((f.place ≡ g.place) × (f.number ≤ g.number))

-- "or the file's end".
abbrev pub end_faults : Outcome → List Refusal
end_faults (trees ts) = []
end_faults (refused p) = at p (16 ∷ [])

-- What each token breaks, and what is kept of it.
module _ {T : Type 0} (wrongs : T → Token → List ℕ) (keep : T → Token → T) where
  -- A name that ends at the place p; "and then neither 18 nor 19".
  unfoldable pub name_faults : ℕ → State → T → List Refusal
  name_faults p (before d fs) x = []
  name_faults p (naming d fs n) x = cond (ltb 32 (length n)) [] (at (p - length n) (wrongs x (word n)))
  name_faults p (after d fs t) x = []

  -- What is kept after it.
  unfoldable pub kept : State → T → T
  kept (before d fs) x = x
  kept (naming d fs n) x = keep x (word n)
  kept (after d fs t) x = x

  -- At a byte: "17 name too long, at its 33rd byte", or what is wrong with the name that ends before it.
  abbrev pub ending_there : ℕ → State → T → Mark → List Refusal
  ending_there p σ x letter = cond (too_long σ) (at p (17 ∷ [])) []
  ending_there p σ x blank = name_faults p σ x
  ending_there p σ x wrong = name_faults p σ x
  ending_there p σ x (bytes.sign g) = name_faults p σ x

  -- What the byte's own token breaks.
  abbrev pub itself : State → T → Mark → List ℕ
  itself σ x letter = []
  itself σ x blank = []
  itself σ x wrong = []
  itself σ x (bytes.sign g) = wrongs (kept σ x) (sign g)

  -- What is kept after it.
  abbrev pub then_kept : State → T → Mark → T
  then_kept σ x letter = x
  then_kept σ x blank = kept σ x
  then_kept σ x wrong = kept σ x
  then_kept σ x (bytes.sign g) = keep (kept σ x) (sign g)

  -- The text s from the place p on: nothing is read past a byte that cannot stand there.
  unfoldable pub faults : ℕ → State → T → List ℕ → List Refusal
  faults p σ x [] = name_faults p σ x ++ end_faults (ending p σ)
  faults p σ x (b ∷ s) =
      let m = mark b in
      ending_there p σ x m ++ elim (step σ b m) [ none ↦ at p (16 ∷ []) | some σ' ↦ at p (itself σ x m) ++ faults (suc p) σ' (then_kept σ x m) s ]
