-- Names in a text: the number of a name as a loop finds it (`found`, `not_found`), and one name more (`names_more`).
use mathlib.Core.Path.{◌≡◌, refl, sym, ap, ◌∙◌, subst}
use mathlib.Core.Bool.{Bool, true, false, cond}
use mathlib.Core.Logic.{⊎_elim}
use mathlib.Core.List.{List, [], ◌∷◌, ◌++◌}
use Prim.Native.Nat.{ℕ, zero, suc, ◌+◌, ◌-◌, ◌≤◌, ◌<◌}
use native.Mathlib.Nat.{eq-or-lt_of_le}
use native.Mathlib.Numerals.{add-one}
use native.Mathlib.Omega.{arith}
use lib.ListN.{length, get_or, set, take, drop, length-append, get_or-append}
use lib.Seq.{get_or_at, get_or-set_same, get_or-set_other}
use Rattle.grammar.specs.Columns.{Bytes}
use Rattle.record.specs.Bytes.{equal}
use Rattle.grammar.specs.Limits.{number}
use Rattle.grammar.specs.inner.Standing.{piece}
use Rattle.record.proofs.Equal.{equal_refl}
use Rattle.newick.specs.inner.Names.{names_in, Placed}

-- What holds of all numbers below i, and of i.
pub one_further : (P : ℕ → Type 0) {i : ℕ} → ((j : ℕ) → j < i → P j) → P i → (j : ℕ) → j < i + 1 → P j
one_further P before here j l = ⊎_elim (λ e. subst P (sym e) here) (before j) (eq-or-lt_of_le (omega arith))

-- ---- pieces

-- What is lent of a text, from a place to another.
pub whole_piece : (text : List ℕ) (a k : ℕ) → take (a + k - a) (drop a text) ≡ piece text a k
whole_piece text a k = let size : a + k - a ≡ k = omega arith in rw size

-- ---- numbers

number_here : (ms : List Bytes) (n : Bytes) (i : ℕ) → i < length ms → ((j : ℕ) → j < i → equal n (get_or ms j []) ≡ false) → equal n (get_or ms i []) ≡ true
    → i ≡ number ms n
unfolding number
number_here [] n i l before e = absurd (omega arith)
number_here (m ∷ ms) n zero l before e = rw e
number_here (m ∷ ms) n (suc i) l before e = rw (before 0 (omega arith)) (ap suc (number_here ms n i (omega arith) (λ j k. before (suc j) (omega arith)) e))

number_nowhere : (ms : List Bytes) (n : Bytes) → ((j : ℕ) → j < length ms → equal n (get_or ms j []) ≡ false) → length ms ≡ number ms n
unfolding number
number_nowhere [] n before = refl
number_nowhere (m ∷ ms) n before = rw (before 0 (omega arith)) (ap suc (number_nowhere ms n (λ j k. before (suc j) (omega arith))))

pub number_most : (ms : List Bytes) (n : Bytes) → number ms n ≤ length ms
unfolding number
number_most [] n = omega arith
number_most (m ∷ ms) n = go (equal n m) (number_most ms n)
  where
    go : (c : Bool) → number ms n ≤ length ms → cond c 0 (suc (number ms n)) ≤ suc (length ms)
    go true l = omega arith
    go false l = omega arith

-- ---- the names that are placed

pub length_names : (text starts sizes : List ℕ) (n : ℕ) → length (names_in text starts sizes n) ≡ n
unfolding names_in
length_names text starts sizes zero = refl
length_names text starts sizes (suc n) = length-append (names_in text starts sizes n) _ ∙ omega (arith, length_names text starts sizes n)

name_in : (text starts sizes : List ℕ) (n i : ℕ) → i < n → get_or (names_in text starts sizes n) i [] ≡ piece text (get_or starts i 0) (get_or sizes i 0)
unfolding names_in
name_in text starts sizes zero i l = absurd (omega arith)
name_in text starts sizes (suc n) i l =
    let k = length_names text starts sizes n in
    ⊎_elim
    (λ e. rw e (get_or_at (names_in text starts sizes n) _ [] [] n k))
    (λ b. get_or-append (names_in text starts sizes n) _ [] i (omega arith) ∙ name_in text starts sizes n i b)
    (eq-or-lt_of_le (omega arith))

-- A store past the first n changes none of them, and one right after them is one name more.
names_kept : (text starts sizes : List ℕ) (at size i n : ℕ) → n ≤ i → names_in text (set starts i at) (set sizes i size) n ≡ names_in text starts sizes n
unfolding names_in
names_kept text starts sizes at size i zero l = refl
names_kept text starts sizes at size i (suc n) l =
    let e = get_or-set_other starts i n at 0 (λ e. absurd (omega arith)) in
    let f = get_or-set_other sizes i n size 0 (λ e. absurd (omega arith)) in
    rw (e, f, names_kept text starts sizes at size i n (omega arith))

pub names_more : (text starts sizes : List ℕ) (at size n : ℕ) → n < length starts → n < length sizes
    → names_in text (set starts n at) (set sizes n size) (n + 1) ≡ names_in text starts sizes n ++ (piece text at size ∷ [])
unfolding names_in
names_more text starts sizes at size n l m =
    rw (add-one, get_or-set_same starts n at 0 l, get_or-set_same sizes n size 0 m, names_kept text starts sizes at size n n (omega arith))

-- A name with a number past the names is none of them.
none_before : (ms : List Bytes) (n : Bytes) → length ms ≤ number ms n → (j : ℕ) → j < length ms → equal n (get_or ms j []) ≡ false
unfolding number
none_before [] n l j b = absurd (omega arith)
none_before (m ∷ ms) n l j b = go (equal n m) refl l (none_before ms n) j b
  where
    go : (c : Bool) → equal n m ≡ c → suc (length ms) ≤ cond c 0 (suc (number ms n))
        → (length ms ≤ number ms n → (j : ℕ) → j < length ms → equal n (get_or ms j []) ≡ false)
        → (j : ℕ) → j < suc (length ms) → equal n (get_or (m ∷ ms) j []) ≡ false
    go true e l rest j b = absurd (omega arith)
    go false e l rest zero b = e
    go false e l rest (suc j) b = rest (omega arith) j (omega arith)

module _ (text starts sizes : List ℕ) (n : ℕ) (m : Bytes) where
  -- The first i names are others.
  abbrev pub Others : ℕ → Type 0
  Others i = (j : ℕ) → j < i → equal m (piece text (get_or starts j 0) (get_or sizes j 0)) ≡ false

  pub found : (i : ℕ) → i < n → Others i → equal m (piece text (get_or starts i 0) (get_or sizes i 0)) ≡ true → i ≡ number (names_in text starts sizes n) m
  found i l o e =
      number_here (names_in text starts sizes n) m i (omega (arith, length_names text starts sizes n))
      (λ j k. rw (name_in text starts sizes n j (omega arith)) (o j k))
      (rw (name_in text starts sizes n i l) e)

  pub not_found : Others n → n ≡ number (names_in text starts sizes n) m
  not_found o =
      let k = length_names text starts sizes n in
      sym k ∙ number_nowhere (names_in text starts sizes n) m (λ j l. rw (name_in text starts sizes n j (omega arith)) (o j (omega arith)))

  -- A new name is none of the first n.
  pub new_one : n ≤ number (names_in text starts sizes n) m → Others n
  new_one l j b =
      let k = length_names text starts sizes n in
      rw (name_in text starts sizes n j b) at (none_before (names_in text starts sizes n) m (omega arith) j (omega arith))

-- A name that is that of a taxon has the number of that taxon.
pub number_of_taxon : {text starts sizes : List ℕ} {n : ℕ} (at size : ℕ) → Placed text starts sizes n → (i : ℕ) → i < n → get_or sizes i 0 ≡ size
    → piece text at size ≡ piece text (get_or starts i 0) size → i ≡ number (names_in text starts sizes n) (piece text at size)
number_of_taxon {text} {starts} {sizes} {n} at size p i l q e =
    let there = piece text (get_or starts i 0) (get_or sizes i 0) in
    let same : piece text at size ≡ there = e ∙ ap (piece text (get_or starts i 0)) (sym q) in
    found text starts sizes n (piece text at size) i l
    (λ j b. ap (λ (x : Bytes). equal x (piece text (get_or starts j 0) (get_or sizes j 0))) same ∙ p.apart i l j b)
    (ap (λ (x : Bytes). equal x there) same ∙ equal_refl there)
