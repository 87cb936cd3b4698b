-- A text has one place for refusal 16 at most (`one_place`), and is refused there (`refused_there`).
use mathlib.Core.Path.{◌≡◌, refl, ap, subst}
use mathlib.Core.List.{List, [], ◌∷◌, ◌++◌, append_assoc}
use Prim.Native.Nat.{ℕ, zero, suc, ◌≤◌, ◌<◌}
use native.Mathlib.Decide.{dec_lt}
use native.Mathlib.Nat.{le_of_suc-le-suc}
use native.Mathlib.Omega.{arith}
use lib.ListN.{length, length-append, take}
use lib.Seq.{take_at, take_all}
use Rattle.grammar.specs.Reader.{Outcome, trees, refused, read}
use Rattle.grammar.specs.Places.{Grammatical, Starts, Fault, at_byte, at_end}
use Rattle.grammar.proofs.Promises.{sound, place}

-- What comes before a start is one.
shorter : (a b : List ℕ) → Starts (a ++ b) → Starts a
shorter a b (r, x) = (b ++ r, rw append_assoc at x)

-- The first m of the first q.
take_in : (m q : ℕ) (s : List ℕ) → m ≤ q → (r : List ℕ) × (take q s ≡ take m s ++ r)
take_in zero q s h = (take q s, refl)
take_in (suc m) zero s h = absurd (omega arith)
take_in (suc m) (suc q) [] h = ([], refl)
take_in (suc m) (suc q) (b ∷ s) h = let (r, e) = take_in m q s (le_of_suc-le-suc h) in (r, rw e)

starts_take : (m q : ℕ) (s : List ℕ) → m ≤ q → Starts (take q s) → Starts (take m s)
starts_take m q s h x = let (r, e) = take_in m q s h in shorter (take m s) r (subst Starts e x)

-- What a fault says of the first bytes.
record Firsts (s : List ℕ) (p : ℕ) : Type 0 where
  within : p ≤ length s
  before : Starts (take p s)
  beyond : p < length s → Starts (take (suc p) s) → ⊥

firsts : {s : List ℕ} {p : ℕ} → Fault s p → Firsts s p
firsts (at_byte a b c e x n) = record {
  within = rw e (omega (arith, length-append a (b ∷ c)));
  before = rw (e, take_at a (b ∷ c) (length a) refl) x;
  beyond = λ l y. n (rw (e, ← append_assoc a (b ∷ []) c, take_at (a ++ b ∷ []) c (suc (length a)) (omega (arith, length-append a (b ∷ [])))) at y);
}
firsts {s} (at_end x n) = record { within = omega arith; before = rw (take_all (length s) s (omega arith)) x; beyond = λ l y. absurd (omega arith) }

pub one_place : {s : List ℕ} {p q : ℕ} → Fault s p → Fault s q → p ≡ q
one_place {s} {p} {q} x y = go (dec_lt p q) (dec_lt q p)
  where
    less : {p q : ℕ} → Firsts s p → Firsts s q → p < q → ⊥
    less {p} {q} f g l = f.beyond (omega (arith, g.within)) (starts_take (suc p) q s l g.before)

    go : Dec (p < q) → Dec (q < p) → p ≡ q
    go (yes l) d = absurd (less (firsts x) (firsts y) l)
    go (no n) (yes l) = absurd (less (firsts y) (firsts x) l)
    go (no n) (no m) = omega arith

-- A fault is of a text that is not of the grammar.
not_both : {s : List ℕ} {p : ℕ} → Fault s p → Grammatical s → ⊥
not_both (at_byte a b c e x n) (ts, h) = n (c, (ts, rw (e, ← append_assoc a (b ∷ []) c) at h))
not_both (at_end x n) h = n h

pub refused_there : {s : List ℕ} {p : ℕ} → Fault s p → read s ≡ refused p
refused_there {s} {p} x = go (read s) refl
  where
    go : (o : Outcome) → read s ≡ o → o ≡ refused p
    go (trees ts) e = absurd (not_both x (ts, sound e))
    go (refused q) e = ap refused (one_place (place e) x)
