-- Bytes compared: the same where each is (`equal_true`, `equal_refl`, `differs`), byte by byte (`equal_next`, `equal_end`) or the first eight at once
-- (`equal_words`), never where the lengths differ (`other_size`), and as `==` of slices compares them (`equal_pairs`).
use mathlib.Core.Path.{◌≡◌, refl, sym, ap, ◌∙◌}
use mathlib.Core.Bool.{Bool, true, false, ◌&&◌, true≢false}
use mathlib.Core.List.{List, [], ◌∷◌, ◌++◌}
use mathlib.Core.Logic.{◌≢◌}
use Prim.Native.Nat.{ℕ, suc, ◌+◌, ◌≤◌, ◌<◌}
use native.Mathlib.Numerals.{add-one}
use lib.Dec.{eqb}
use lib.ListN.{length, get_or, drop, drop_of_length-le}
use lib.Seq.{drop-cons}
use lib.Pointwise.{pointwise}
use borrow.Author.Tests.{eqb-true, eq-eqb}
use Rattle.record.specs.Bytes.{equal, number_at, bytes_of, File}
use Rattle.record.proofs.Numbers.{read_bytes}

and_true : (a b : Bool) → a && b ≡ true → (a ≡ true) × (b ≡ true)
and_true true b e = (refl, e)
and_true false b e = absurd (true≢false (sym e))

pub equal_refl : (n : List ℕ) → equal n n ≡ true
unfolding equal
equal_refl [] = refl
equal_refl (b ∷ n) = rw (eq-eqb b b refl) (equal_refl n)

pub equal_true : (n m : List ℕ) → equal n m ≡ true → n ≡ m
unfolding equal
equal_true [] [] e = refl
equal_true [] (b ∷ m) e = absurd (true≢false (sym e))
equal_true (a ∷ n) [] e = absurd (true≢false (sym e))
equal_true (a ∷ n) (b ∷ m) e =
    let (f, g) = and_true (eqb a b) (equal n m) e in
    let i = eqb-true a b f in let j = equal_true n m g in cc

-- What `==` of slices tells is the same.
pub equal_pairs : (n m : List ℕ) → pointwise eqb n m ≡ equal n m
unfolding equal
equal_pairs [] [] = refl
equal_pairs [] (b ∷ m) = refl
equal_pairs (a ∷ n) [] = refl
equal_pairs (a ∷ n) (b ∷ m) = ap (◌&&◌ (eqb a b)) (equal_pairs n m)

-- Other bytes are not equal.
pub differs : (n m : List ℕ) → n ≢ m → equal n m ≡ false
differs n m d = go (equal n m) refl
  where
    go : (b : Bool) → equal n m ≡ b → b ≡ false
    go true e = absurd (d (equal_true n m e))
    go false e = refl

pub other_size : (n m : List ℕ) → length n ≢ length m → equal n m ≡ false
other_size n m d = differs n m (λ e. d (ap length e))

equal_cons : (a b : ℕ) (n m : List ℕ) → equal (a ∷ n) (b ∷ m) ≡ eqb a b && equal n m
unfolding equal
equal_cons a b n m = refl

pub equal_next : (n m : List ℕ) (i : ℕ) → i < length n → i < length m
    → equal (drop i n) (drop i m) ≡ eqb (get_or n i 0) (get_or m i 0) && equal (drop (i + 1) n) (drop (i + 1) m)
equal_next n m i h k = rw (drop-cons n i 0 h, drop-cons m i 0 k, add-one i) (equal_cons (get_or n i 0) (get_or m i 0) (drop (suc i) n) (drop (suc i) m))

pub equal_end : (n m : List ℕ) (i : ℕ) → length n ≤ i → length m ≤ i → equal (drop i n) (drop i m) ≡ true
unfolding equal
equal_end n m i h k = rw (drop_of_length-le n {i = i} h, drop_of_length-le m {i = i} k)

-- What both begin with decides nothing.
past_front : (b n m : List ℕ) → equal (b ++ n) (b ++ m) ≡ equal n m
unfolding equal
past_front [] n m = refl
past_front (x ∷ b) n m = rw (eq-eqb x x refl) (past_front b n m)

-- Where the first eight bytes are one number, the rest decides.
pub equal_words : (n m : List ℕ) → File n → File m → 8 ≤ length n → 8 ≤ length m → number_at 8 n 0 ≡ number_at 8 m 0 → equal n m ≡ equal (drop 8 n) (drop 8 m)
equal_words n m f g h k e =
    let one : n ≡ bytes_of 8 (number_at 8 n 0) ++ drop 8 n = read_bytes 8 0 f h in
    let other : m ≡ bytes_of 8 (number_at 8 n 0) ++ drop 8 m = read_bytes 8 0 g k ∙ ap (λ (v : ℕ). bytes_of 8 v ++ drop 8 m) (sym e) in
    ap (λ (x : List ℕ). equal x m) one ∙ ap (λ (y : List ℕ). equal (bytes_of 8 (number_at 8 n 0) ++ drop 8 n) y) other ∙ past_front _ _ _

pub words_differ : (n m : List ℕ) → number_at 8 n 0 ≢ number_at 8 m 0 → equal n m ≡ false
words_differ n m d = differs n m (λ e. d (ap (λ (x : List ℕ). number_at 8 x 0) e))
