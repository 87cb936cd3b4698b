-- Names compared by numbers of eight bytes: where these are the same, so are the names (`short_same`, `long_same`).
use mathlib.Core.Path.{◌≡◌, refl, sym, ap, ◌∙◌}
use mathlib.Core.List.{List, ◌++◌, append_assoc}
use mathlib.Core.Logic.{by_cases}
use Prim.Native.Nat.{ℕ, ◌+◌, ◌*◌, ◌-◌, ◌/◌, ◌%◌, ◌^◌, min, ◌≤◌, ◌<◌}
use native.Mathlib.Decide.{dec_lt}
use native.Mathlib.Nat.{mul-mod_left, add-zero, mul-div_cancel}
use native.Mathlib.Omega.{arith}
use lib.ListN.{length, get_or, take, drop}
use lib.Pow.{pow_pos, mod-pow-add, shl-shr}
use lib.Seq.{take_at, get_or-take, get_or-drop, ext_get_or}
use Rattle.record.specs.Bytes.{number_at, bytes_of, File}
use Rattle.record.proofs.Numbers.{length_bytes, bytes_add, read_bytes}
use Rattle.grammar.specs.inner.Standing.{piece}
use Rattle.grammar.proofs.Standing.{piece_length}
use Rattle.newick.specs.declared.Words.{Words}
use Rattle.newick.specs.inner.Words.{short_word, words_at, Legible}

-- What is left of a number that is shifted up: its lower digits.
shifted : (x j k : ℕ) → (x * 2 ^ k) % 2 ^ (j + k) ≡ (x % 2 ^ j) * 2 ^ k
shifted x j k = mod-pow-add (x * 2 ^ k) j k ∙ rw (shl-shr x k, mul-mod_left x (2 ^ k)) (add-zero _)

unshifted : (x y j k : ℕ) → (x * 2 ^ k) % 2 ^ (j + k) ≡ (y * 2 ^ k) % 2 ^ (j + k) → x % 2 ^ j ≡ y % 2 ^ j
unshifted x y j k e =
    let f : (x % 2 ^ j) * 2 ^ k ≡ (y % 2 ^ j) * 2 ^ k = sym (shifted x j k) ∙ e ∙ shifted y j k in
    sym (mul-div_cancel (x % 2 ^ j) (pow_pos k)) ∙ ap (λ (z : ℕ). z / 2 ^ k) f ∙ mul-div_cancel (y % 2 ^ j) (pow_pos k)

module _ {text : List ℕ} (f : File text) where
  -- The first bytes of a word, by its lower digits.
  piece_of_word : (at j k : ℕ) → j + k ≡ 8 → at + 8 ≤ length text → piece text at j ≡ bytes_of j (number_at 8 text at % 2 ^ (8 * j))
  piece_of_word at j k e l =
      let x = number_at 8 text at in
      let low = bytes_of j (x % 2 ^ (8 * j)) in
      let high = bytes_of k (x / 2 ^ (8 * j)) in
      let split : bytes_of 8 x ≡ low ++ high = ap (λ (w : ℕ). bytes_of w x) (sym e) ∙ bytes_add j k x in
      let all : drop at text ≡ low ++ (high ++ drop (at + 8) text) =
      read_bytes 8 at f l ∙ ap (λ (b : List ℕ). b ++ drop (at + 8) text) split ∙ append_assoc low high _
      in
      ap (take j) all ∙ take_at low _ j (length_bytes j _)

  -- Short names.
  pub short_same : (a b size : ℕ) → Legible text a size → Legible text b size → size < 8 → short_word text a size ≡ short_word text b size
      → piece text a size ≡ piece text b size
  short_same a b size p q l e =
      let rest : size + (8 - size) ≡ 8 = omega arith in
      let width : 64 ≡ 8 * size + (64 - 8 * size) = omega arith in
      let low = unshifted (number_at 8 text a) (number_at 8 text b) (8 * size) (64 - 8 * size) (rw (← width) e) in
      piece_of_word a size (8 - size) rest p.word ∙ ap (bytes_of size) low ∙ sym (piece_of_word b size (8 - size) rest q.word)

  byte_in : (at k i : ℕ) → i < k → get_or (piece text at k) i 0 ≡ get_or text (at + i) 0
  byte_in at k i l = rw (get_or-take, get_or-drop)

  -- A byte of two words that are the same.
  byte_of_words : (p q d : ℕ) → d < 8 → p + 8 ≤ length text → q + 8 ≤ length text → number_at 8 text p ≡ number_at 8 text q
      → get_or text (p + d) 0 ≡ get_or text (q + d) 0
  byte_of_words p q d l m n e =
      let same : piece text p 8 ≡ piece text q 8 =
      piece_of_word p 8 0 refl m ∙ ap (λ (x : ℕ). bytes_of 8 (x % 2 ^ 64)) e ∙ sym (piece_of_word q 8 0 refl n)
      in
      sym (byte_in p 8 d l) ∙ ap (λ (b : List ℕ). get_or b d 0) same ∙ byte_in q 8 d l

  -- Long names: each byte is one of a word.
  module _ (a b size : ℕ) (p : Legible text a size) (q : Legible text b size) (l : 8 ≤ size) (e : words_at text a size ≡ words_at text b size) where
    word_at : (o : ℕ) → o + 8 ≤ size → number_at 8 text (a + o) ≡ number_at 8 text (b + o) → (i : ℕ) → o ≤ i → i < o + 8
        → get_or text (a + i) 0 ≡ get_or text (b + i) 0
    word_at o m same i from to =
        let x : a + o + (i - o) ≡ a + i = omega arith in
        let y : b + o + (i - o) ≡ b + i = omega arith in
        rw (x, y) at (byte_of_words (a + o) (b + o) (i - o) (omega arith) (omega (arith, p.inside)) (omega (arith, q.inside)) same)

    same_byte : (i : ℕ) → i < size → get_or text (a + i) 0 ≡ get_or text (b + i) 0
    same_byte i m =
        by_cases (dec_lt i 8) (λ first. byte_of_words a b i first p.word q.word (ap (λ (w : Words). w.first) e)) (λ g.
        by_cases (dec_lt i (size - 8))
        (λ between. by_cases (dec_lt i 16)
        (λ second. word_at (min (size - 8) 8) (omega arith) (ap (λ (w : Words). w.second) e) i (omega arith) (omega arith))
        (λ third. word_at (min (size - 8) 16) (omega arith) (ap (λ (w : Words). w.third) e) i (omega arith) (omega (arith, p.few))))
        (λ last. word_at (size - 8) (omega arith) (ap (λ (w : Words). w.last) e) i (omega arith) (omega arith)))

    pub long_same : piece text a size ≡ piece text b size
    long_same =
        let m = piece_length text a size p.inside in
        ext_get_or 0 (piece text a size) (piece text b size) (m ∙ sym (piece_length text b size q.inside))
        (λ i l. byte_in a size i (omega arith) ∙ same_byte i (omega arith) ∙ sym (byte_in b size i (omega arith)))
