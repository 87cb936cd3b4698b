-- The bytes of a name: what may stand in one (`letter_marked`, `marked_letter`) and so what is a name (`spelt_name`, `name_spelt`), byte by byte
-- (`spelt_next`).
use mathlib.Core.Path.{◌≡◌, refl, sym, ap, ◌∙◌}
use mathlib.Core.Bool.{Bool, true, false, ◌&&◌, true≢false, and-eq-true_iff}
use mathlib.Core.List.{[], ◌∷◌}
use Prim.Native.Nat.{ℕ, suc, ◌+◌, ◌≤◌, ◌<◌}
use native.Mathlib.Numerals.{add-one}
use native.Mathlib.Decide.{dec_lt}
use native.Mathlib.Omega.{arith}
use lib.Dec.{eqb}
use lib.ListN.{length, get_or, drop, drop_of_length-le}
use lib.Seq.{drop-cons}
use borrow.Author.Tests.{ne_eqb, le-leb, lt-leb}
use Rattle.grammar.specs.Bytes.{Mark, mark, blank, letter, wrong, sign, byte, left, right, comma, semicolon, is_blank, is_letter}
use Rattle.grammar.specs.Columns.{Bytes}
use Rattle.grammar.specs.Text.{Name, only, more}
use Rattle.record.proofs.Steps.{either_way}
use Rattle.names.specs.Check.{spelt}

-- ---- what may stand in a name

pub letter_marked : (b : ℕ) → is_letter b ≡ true → mark b ≡ letter
unfolding mark
letter_marked b h = rw (differs 32 refl, differs 9 refl, differs 13 refl, differs 10 refl, h)
  where
    differs : (k : ℕ) → is_letter k ≡ false → eqb b k ≡ false
    differs k f = ne_eqb b k (λ e. true≢false (sym h ∙ ap is_letter e ∙ f))

abbrev is_letter_lem : Mark → Bool
is_letter_lem blank = false
is_letter_lem letter = true
is_letter_lem wrong = false
is_letter_lem (sign g) = false

-- Another byte is not marked as a letter, whichever of the other marks it has.
other_marked : (b : ℕ) → is_letter b ≡ false → is_letter_lem (mark b) ≡ false
unfolding mark
other_marked b h =
    let Other : Mark → Type 0 = λ m. is_letter_lem m ≡ false in
    rw h
    (either_way Other (is_blank b) refl
    (either_way Other (eqb b (byte left)) refl
    (either_way Other (eqb b (byte right)) refl
    (either_way Other (eqb b (byte comma)) refl (either_way Other (eqb b (byte semicolon)) refl refl)))))

pub marked_letter : (b : ℕ) → mark b ≡ letter → is_letter b ≡ true
marked_letter b e = go (is_letter b) refl
  where
    go : (l : Bool) → is_letter b ≡ l → l ≡ true
    go true h = refl
    go false h = absurd (true≢false (ap is_letter_lem (sym e) ∙ other_marked b h))

-- No number that is no byte is a letter.
no_byte : (b : ℕ) → 256 ≤ b → is_letter b ≡ false
no_byte b h =
    rw (le-leb 65 b (omega arith), lt-leb b 90 (omega arith), le-leb 97 b (omega arith), lt-leb b 122 (omega arith), le-leb 48 b (omega arith))
    (rw (lt-leb b 57 (omega arith), ne_eqb b 46 (λ e. omega arith), ne_eqb b 45 (λ e. omega arith), ne_eqb b 95 (λ e. omega arith)))

pub letter_small : (b : ℕ) → is_letter b ≡ true → b < 256
letter_small b h = elim (dec_lt b 256) [ yes l ↦ l | no nl ↦ absurd (true≢false (sym h ∙ no_byte b (omega arith))) ]

-- ---- names

pub name_some : {n : Bytes} → Name n → 0 < length n
name_some (only e) = omega arith
name_some (more e n) = omega arith

pub name_spelt : {n : Bytes} → Name n → spelt n ≡ true
unfolding spelt
name_spelt (only {b} e) = rw (marked_letter b e)
name_spelt (more {b} e n) = rw (marked_letter b e) (name_spelt n)

pub spelt_name : (n : Bytes) → spelt n ≡ true → 0 < length n → Name n
unfolding spelt
spelt_name [] e l = absurd (omega arith)
spelt_name (b ∷ []) e l = only (letter_marked b ((and-eq-true_iff (is_letter b) true).0 e).0)
spelt_name (b ∷ a ∷ n) e l =
    let (first, rest) = (and-eq-true_iff (is_letter b) (spelt (a ∷ n))).0 e in
    more (letter_marked b first) (spelt_name (a ∷ n) rest (omega arith))

-- ---- byte by byte

spelt_cons : (b : ℕ) (n : Bytes) → spelt (b ∷ n) ≡ is_letter b && spelt n
unfolding spelt
spelt_cons b n = refl

pub spelt_next : (n : Bytes) (i : ℕ) → i < length n → spelt (drop i n) ≡ is_letter (get_or n i 0) && spelt (drop (i + 1) n)
spelt_next n i h = rw (drop-cons n i 0 h, add-one i) (spelt_cons (get_or n i 0) (drop (suc i) n))

pub spelt_end : (n : Bytes) (i : ℕ) → length n ≤ i → spelt (drop i n) ≡ true
unfolding spelt
spelt_end n i h = rw (drop_of_length-le n {i = i} h)
