-- A list with another written over it: how records are written one after the other into the part that is left of lent room.
use mathlib.Core.Path.{◌≡◌, sym, ap, ◌∙◌}
use mathlib.Core.List.{List, [], ◌∷◌, ◌++◌, append_assoc, append-nil}
use Prim.Native.Nat.{ℕ, ◌+◌, ◌-◌, ◌≤◌, ◌<◌}
use native.Mathlib.Nat.{zero-add, add-zero, add_assoc}
use native.Mathlib.Numerals.{add-one}
use native.Mathlib.Omega.{arith}
use lib.ListN.{length, take, drop, set, take-append-drop, length-append, length-drop, drop_of_length-le}
use lib.Seq.{set_split, append_snoc, take_at, drop-append-add, take_all, drop-drop, length-take-le}
use borrow.Rule.Slice.PartMut.{mid_of, post_of, put_mid}
use Rattle.record.specs.Bytes.{over}

pub nothing : (a : ℕ) (xs : List ℕ) → xs ≡ over [] a xs
unfolding over
nothing a xs = rw (append-nil (take a xs), add-zero a, take-append-drop a xs)

pub length_over : (r : List ℕ) (a : ℕ) (xs : List ℕ) → a + length r ≤ length xs → length (over r a xs) ≡ length xs
unfolding over
length_over r a xs h = let l = length-take-le a xs (omega arith) in simp (length-append, length-drop) (omega arith)

-- One byte stored.
pub one : (v a : ℕ) (xs : List ℕ) → a < length xs → set xs a v ≡ over (v ∷ []) a xs
unfolding over
one v a xs h = rw (set_split xs a v h, append_snoc (take a xs) v (drop (a + 1) xs), add-one a)

-- What is lent from a on is all from a on, and nothing is after it.
mid_all : (a : ℕ) (xs : List ℕ) → mid_of a (length xs - a) xs ≡ drop a xs
mid_all a xs = take_all (length xs - a) (drop a xs) (rw length-drop (omega arith))

post_none : (a : ℕ) (xs : List ℕ) → post_of a (length xs - a) xs ≡ []
post_none a xs = drop_of_length-le (drop a xs) {i = length xs - a} (rw length-drop (omega arith))

front : (r xs : List ℕ) → over r 0 xs ≡ r ++ drop (length r) xs
unfolding over
front r xs = rw zero-add

opened : (r : List ℕ) (a : ℕ) (xs : List ℕ) → take a xs ++ (r ++ drop (a + length r) xs) ≡ over r a xs
unfolding over
opened r a xs = sym (append_assoc (take a xs) r (drop (a + length r) xs))

lent : (r : List ℕ) (a : ℕ) (xs : List ℕ) → put_mid a (length xs - a) xs (over r 0 (mid_of a (length xs - a) xs)) ≡ over r a xs
lent r a xs = rw (mid_all a xs, post_none a xs, front r (drop a xs), append-nil (r ++ drop (length r) (drop a xs)), drop-drop (length r) a xs) (opened r a xs)

-- Room lent from a on to one who writes r at the front.
pub lends : (r : List ℕ) (a : ℕ) (l : List ℕ) {l' : List ℕ} → l' ≡ over r 0 (mid_of a (length l - a) l) → put_mid a (length l - a) l l' ≡ over r a l
lends r a l e = ap (put_mid a (length l - a) l) e ∙ lent r a l

-- One written right after another.
pub onto : (r r' : List ℕ) (a b : ℕ) (xs : List ℕ) → a ≤ length xs → a + length r ≡ b → over r' b (over r a xs) ≡ over (r ++ r') a xs
unfolding over
onto r r' a b xs h e =
    let p : List ℕ = take a xs ++ r in
    let q : List ℕ = drop (a + length r) xs in
    let n : length p ≡ b = simp (length-append, length-take-le) e in
    rw (take_at p q b n, ← n, drop-append-add p q (length r'), drop-drop (length r') (a + length r) xs, length-append r r', ← add_assoc a (length r) (length r'), append_assoc (take a xs) r r')

-- The rest of a list on which r was written, lent to one who writes r'.
pub next : (r r' xs : List ℕ) (a b : ℕ) {l l' : List ℕ} → l ≡ over r a xs → l' ≡ over r' 0 (mid_of b (length l - b) l)
    → a ≤ length xs → a + length r ≡ b → put_mid b (length l - b) l l' ≡ over (r ++ r') a xs
next r r' xs a b {l} {l'} e e' h n = lends r' b l e' ∙ ap (over r' b) e ∙ onto r r' a b xs h n
