-- What the reader promises: `right`; `complete` and `unique` of Complete.
use mathlib.Core.Path.{◌≡◌, refl, subst}
use mathlib.Core.List.{List, [], ◌∷◌, ◌++◌, append_assoc, append-nil}
use mathlib.Core.Option.{none, some}
use Prim.Native.Nat.{ℕ}
use native.Mathlib.Omega.{arith}
use lib.ListN.{length}
use Rattle.grammar.specs.Bytes.{mark}
use Rattle.grammar.specs.Trees.{Trees}
use Rattle.grammar.specs.Text.{end, Newick}
use Rattle.grammar.specs.Reader.{State, before, naming, after, step, trees, refused, ending, run, read}
use Rattle.grammar.specs.Places.{Grammatical, Fault, at_byte, at_end, Right}
use Rattle.grammar.proofs.Complete.{complete}
use Rattle.grammar.proofs.Along as along
use Rattle.grammar.proofs.Along.{Sofar, at_before, Reached, Stops, stops, stuck}
use Rattle.grammar.proofs.Starts.{starts}

-- A text that is refused is not of the grammar.
not_both : {s : List ℕ} {p : ℕ} → read s ≡ refused p → Grammatical s → ⊥
not_both e (ts, x) = let f = complete x in let z : ◌≡◌ {A = ℕ} 0 1 = cc in omega arith

over : (s : List ℕ) {σ : State} → Reached s σ → read s ≡ ending (length s) σ
unfolding run
over s h = rw append-nil at (h.same [])

right_end : {s : List ℕ} {σ : State} → Reached s σ → Right s (ending (length s) σ)
unfolding ending
right_end {s} h = go h.sofar (over s h)
  where
    out : {σ : State} → Sofar σ s → read s ≡ refused (length s) → Fault s (length s)
    out x e = at_end (starts x) (not_both e)

    go : {σ : State} → Sofar σ s → read s ≡ ending (length s) σ → Right s (ending (length s) σ)
    go {σ = before none fs} x e = out x e
    go {σ = before (some ts) []} (at_before h) e = rw append-nil at (h.goes [] [] end)
    go {σ = before (some ts) (f ∷ fs)} x e = out x e
    go {σ = naming d fs n} x e = out x e
    go {σ = after d fs t} x e = out x e

right_byte : {a : List ℕ} {σ : State} (b : ℕ) (c : List ℕ) → Reached a σ → step σ b (mark b) ≡ none → Fault (a ++ b ∷ c) (length a)
right_byte {a} b c h e = at_byte a b c refl (starts h.sofar) (λ (r, x). not_both (stuck b h e r) (rw append_assoc at x))

-- What the reader says is right.
pub right : (s : List ℕ) → Right s (read s)
right s = go (stops s)
  where
    go : Stops s → Right s (read s)
    go (along.at_end h) = rw (over s h) (right_end h)
    go (along.at_byte a b c f h e) = rw (f, stuck b h e c) (right_byte b c h e)

-- A text that is read to trees spells them.
pub sound : {s : List ℕ} {ts : Trees} → read s ≡ trees ts → Newick s ts
sound {s} e = subst (Right s) e (right s)

-- Refusal 16 stands where it should.
pub place : {s : List ℕ} {p : ℕ} → read s ≡ refused p → Fault s p
place {s} e = subst (Right s) e (right s)
