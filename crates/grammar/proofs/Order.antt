-- The faults of a text stand by place, then by number (`rising`), and reading refuses the first of them (`first_fault`).
use mathlib.Core.Path.{◌≡◌, refl, subst}
use mathlib.Core.Bool.{Bool, true, false, cond}
use mathlib.Core.List.{List, [], ◌∷◌, ◌++◌}
use mathlib.Core.Option.{Option, none, some}
use Prim.Native.Nat.{ℕ, suc, ◌+◌, ◌-◌, ◌*◌, ◌≤◌, ◌<◌}
use native.Mathlib.Decide.{dec_lt}
use native.Mathlib.Omega.{arith}
use lib.Dec.{ltb, eqb}
use lib.ListN.{length, length-append}
use borrow.Author.Tests.{eqb-true, eqb-false, lt-ltb, le-ltb}
use Rattle.grammar.specs.Bytes.{Sign, Mark, mark, left, right, comma, semicolon, blank, letter, wrong}
use Rattle.grammar.specs.Bytes as bytes
use Rattle.grammar.specs.Trees.{Tree, leaf, Token, word, sign}
use Rattle.grammar.specs.Reader.{Done, State, before, naming, after, ended, step, start, ending}
use Rattle.grammar.specs.Faults.{Refusal, at, end_faults, name_faults, kept, ending_there, itself, then_kept, faults}
use Rattle.grammar.proofs.Along.{If}

-- ---- rising

-- "the first place decides, then the lower number" (all are below 32).
abbrev pub rank : Refusal → ℕ
rank f = 32 * f.place + f.number

-- Each refusal of the list is one of those that count from q on, and those after it count for more.
pub data Rising : ℕ → List Refusal → Type 0 where
  done : {q : ℕ} → Rising q []
  also : (q : ℕ) (f : Refusal) {fs : List Refusal} → q ≤ rank f → Rising (suc (rank f)) fs → Rising q (f ∷ fs)

pub rising_≤ : {q r : ℕ} {fs : List Refusal} → q ≤ r → Rising r fs → Rising q fs
rising_≤ h done = done
rising_≤ {q} h (also r f i x) = also q f (omega arith) x

-- Numbers of refusals, rising from lo on, at most 20.
pub data Numbers : ℕ → List ℕ → Type 0 where
  end : {lo : ℕ} → lo ≤ 21 → Numbers lo []
  next : {lo r : ℕ} {rs : List ℕ} → lo ≤ r → Numbers (suc r) rs → Numbers lo (r ∷ rs)

-- Those of one place, and then those of later ones.
rise : {lo q : ℕ} {rs : List ℕ} {fs : List Refusal} (p : ℕ) → Numbers lo rs → q ≤ 32 * p + lo → Rising (32 * suc p) fs → Rising q (at p rs ++ fs)
rise p (end l) h x = rising_≤ (omega arith) x
rise {q = q} p (next {r = r} l n) h x = also q (record { number = r; place = p }) (omega arith) (rise p n (omega arith) x)

stuck : {q : ℕ} (p : ℕ) → q ≤ 32 * p → Rising q (at p (16 ∷ []))
stuck {q} p h = also q (record { number = 16; place = p }) (omega arith) done

-- ---- where the next fault can stand

-- The first byte of the name, unless it is too long, or the byte that comes.
abbrev since : ℕ → ℕ → ℕ
since p l = cond (ltb 32 l) p (p - l)

abbrev from : ℕ → State → ℕ
from p (before d fs) = p
from p (naming d fs n) = since p (length n)
from p (after d fs t) = p

-- A name has a byte, and all its bytes stand before p.
abbrev Sized : ℕ → State → Type 0
Sized p (before d fs) = Unit
Sized p (naming d fs n) = (0 < length n) × (length n ≤ p)
Sized p (after d fs t) = Unit

-- Not in a name.
abbrev pub Plain : State → Type 0
Plain (before d fs) = Unit
Plain (naming d fs n) = ⊥
Plain (after d fs t) = Unit

pub ended_plain : (d : Done) (fs : List Done) (t : Tree) (g : Sign) → If Plain (ended d fs t g)
unfolding ended
ended_plain d fs t left = tt
ended_plain d [] t right = tt
ended_plain d (none ∷ fs) t right = tt
ended_plain d (some us ∷ fs) t right = tt
ended_plain d [] t comma = tt
ended_plain d (f ∷ fs) t comma = tt
ended_plain d [] t semicolon = tt
ended_plain d (f ∷ fs) t semicolon = tt

plain_from : (p : ℕ) (σ : State) → Plain σ → (from p σ ≡ p) × Sized p σ
plain_from p (before d fs) z = (refl, tt)
plain_from p (naming d fs n) z = absurd z
plain_from p (after d fs t) z = (refl, tt)

since_short : (p l : ℕ) → l ≤ 32 → since p l ≡ p - l
since_short p l h = rw (le-ltb 32 l h)

since_long : (p l : ℕ) → 32 < l → since p l ≡ p
since_long p l h = rw (lt-ltb 32 l h)

-- ---- one byte, and the text

module _ {T : Type 0} (wrongs : T → Token → List ℕ) (keep : T → Token → T) (numbers : (x : T) (w : Token) → Numbers 17 (wrongs x w)) where
  -- A name, and what comes after it.
  name_rises : {fs : List Refusal} (p l : ℕ) (x : T) (w : Token) (c : Bool) → ltb 32 l ≡ c → 0 < l → l ≤ p → Rising (32 * p) fs
      → Rising (32 * cond c p (p - l)) (cond c [] (at (p - l) (wrongs x w)) ++ fs)
  name_rises p l x w true e h i r = r
  name_rises p l x w false e h i r = rise (p - l) (numbers x w) (omega arith) (rising_≤ (omega arith) r)

  -- The byte's own token, and what comes after it.
  sign_rises : (p : ℕ) (x : T) (w : Token) (o : Option State) (R : State → List Refusal) → If Plain o
      → ((σ : State) → Sized (suc p) σ → Rising (32 * from (suc p) σ) (R σ))
      → Rising (32 * p) (elim o [ none ↦ at p (16 ∷ []) | some σ ↦ at p (wrongs x w) ++ R σ ])
  sign_rises p x w none R h r = stuck p (omega arith)
  sign_rises p x w (some σ) R h r = let (e, z) = plain_from (suc p) σ h in rise p (numbers x w) (omega arith) (rw e at (r σ z))

  letter_rises : {fs : List Refusal} (p l : ℕ) (c : Bool) → eqb l 32 ≡ c → 0 < l → l ≤ p → Rising (32 * since (suc p) (suc l)) fs
      → Rising (32 * since p l) (cond c (at p (17 ∷ [])) [] ++ fs)
  letter_rises p l true e h i r =
      let j = eqb-true l 32 e in
      also (32 * since p l) (record { number = 17; place = p }) (omega (arith, since_short p l (omega arith))) (rising_≤ (omega (arith, since_long (suc p) (suc l) (omega arith))) r)
  letter_rises {fs} p l false e h i r = go (dec_lt l 32)
    where
      go : Dec (l < 32) → Rising (32 * since p l) fs
      go (yes j) = rising_≤ (omega (arith, since_short p l (omega arith), since_short (suc p) (suc l) (omega arith))) r
      go (no j) = rising_≤ (omega (arith, eqb-false l 32 e, since_long p l (omega (arith, eqb-false l 32 e)), since_long (suc p) (suc l) (omega arith))) r

  byte_rises : (p : ℕ) (σ : State) (x : T) (b : ℕ) (m : Mark) (R : State → List Refusal) → Sized p σ → ((σ' : State) → Sized (suc p) σ' → Rising (32 * from (suc p) σ') (R σ'))
      → Rising (32 * from p σ)
      (ending_there wrongs keep p σ x m ++ elim (step σ b m) [ none ↦ at p (16 ∷ []) | some σ' ↦ at p (itself wrongs keep σ x m) ++ R σ' ])
  unfolding step name_faults kept
  byte_rises p (before d fs) x b blank R z r = rising_≤ (omega arith) (r (before d fs) tt)
  byte_rises p (before d fs) x b letter R z r = rising_≤ (omega arith) (r (naming d fs (b ∷ [])) (omega arith))
  byte_rises p (before d fs) x b wrong R z r = stuck p (omega arith)
  byte_rises p (before d fs) x b (bytes.sign left) R z r = sign_rises p x (sign left) (some (before d (none ∷ fs))) R tt r
  byte_rises p (before d fs) x b (bytes.sign right) R z r = stuck p (omega arith)
  byte_rises p (before d fs) x b (bytes.sign comma) R z r = stuck p (omega arith)
  byte_rises p (before d fs) x b (bytes.sign semicolon) R z r = stuck p (omega arith)
  byte_rises p (naming d fs n) x b blank R (u, v) r = name_rises p (length n) x (word n) (ltb 32 (length n)) refl u v (rising_≤ (omega arith) (r (after d fs (leaf n)) tt))
  byte_rises p (naming d fs n) x b letter R (u, v) r =
      let e : length (n ++ b ∷ []) ≡ suc (length n) = omega (arith, length-append n (b ∷ [])) in
      letter_rises p (length n) (eqb (length n) 32) refl u v (subst (λ (l : ℕ). Rising (32 * since (suc p) l) (R (naming d fs (n ++ b ∷ [])))) e (r (naming d fs (n ++ b ∷ [])) (omega arith, omega arith)))
  byte_rises p (naming d fs n) x b wrong R (u, v) r = name_rises p (length n) x (word n) (ltb 32 (length n)) refl u v (stuck p (omega arith))
  byte_rises p (naming d fs n) x b (bytes.sign g) R (u, v) r =
      name_rises p (length n) x (word n) (ltb 32 (length n)) refl u v (sign_rises p (keep x (word n)) (sign g) (ended d fs (leaf n) g) R (ended_plain d fs (leaf n) g) r)
  byte_rises p (after d fs t) x b blank R z r = rising_≤ (omega arith) (r (after d fs t) tt)
  byte_rises p (after d fs t) x b letter R z r = stuck p (omega arith)
  byte_rises p (after d fs t) x b wrong R z r = stuck p (omega arith)
  byte_rises p (after d fs t) x b (bytes.sign g) R z r = sign_rises p x (sign g) (ended d fs t g) R (ended_plain d fs t g) r

  end_rises : (p : ℕ) (σ : State) → Rising (32 * p) (end_faults (ending p σ))
  unfolding ending
  end_rises p (before none fs) = stuck p (omega arith)
  end_rises p (before (some ts) []) = done
  end_rises p (before (some ts) (f ∷ fs)) = stuck p (omega arith)
  end_rises p (naming d fs n) = stuck p (omega arith)
  end_rises p (after d fs t) = stuck p (omega arith)

  rises : (s : List ℕ) (p : ℕ) (σ : State) (x : T) → Sized p σ → Rising (32 * from p σ) (faults wrongs keep p σ x s)
  unfolding faults name_faults
  rises [] p (before d fs) x z = end_rises p (before d fs)
  rises [] p (naming d fs n) x (u, v) = name_rises p (length n) x (word n) (ltb 32 (length n)) refl u v (end_rises p (naming d fs n))
  rises [] p (after d fs t) x z = end_rises p (after d fs t)
  rises (b ∷ s) p σ x z = byte_rises p σ x b (mark b) (λ σ'. faults wrongs keep (suc p) σ' (then_kept wrongs keep σ x (mark b)) s) z (λ σ' y. rises s (suc p) σ' (then_kept wrongs keep σ x (mark b)) y)

  -- The faults of a text rise.
  pub rising : (s : List ℕ) (x : T) → Rising 0 (faults wrongs keep 0 start x s)
  rising s x = rises s 0 start x tt
