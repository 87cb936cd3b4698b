-- Whatever the reader has read can go on to a text of the grammar (`starts`).
use mathlib.Core.Path.{◌≡◌, refl, subst}
use mathlib.Core.List.{List, [], ◌∷◌, ◌++◌, append_assoc}
use mathlib.Core.Option.{none, some}
use Prim.Native.Nat.{ℕ}
use Rattle.grammar.specs.Bytes.{mark, byte, right, comma, semicolon}
use Rattle.grammar.specs.Trees.{Tree, Trees, leaf, inner, one, then, Token, word, sign, tokens, file}
use Rattle.grammar.specs.Text.{Name, only, Spells, end, then_sign, then_word}
use Rattle.grammar.specs.Reader.{Done, State}
use Rattle.grammar.specs.Places.{Starts}
use Rattle.grammar.proofs.Along.{filed, brackets, Behind, Sofar, at_before, at_naming, at_after, behind_name}

-- The name "A".
abbrev A : List ℕ
A = 65 ∷ []

a_name : Name A
unfolding mark
a_name = only refl

-- Tokens and a text that close all brackets after a subtree, and the tree.
record Close (d : Done) (fs : List Done) (t : Tree) : Type 0 where
  rest : List Token
  text : List ℕ
  spelt : Spells rest text
  whole : Trees
  same : filed d (brackets fs (tokens t rest)) ≡ file whole []

close : (d : Done) (fs : List Done) (t : Tree) → Close d fs t
unfolding file tokens mark
close none [] t = record { rest = sign semicolon ∷ []; text = byte semicolon ∷ []; spelt = then_sign refl end; whole = one t; same = refl }
close (some ts) [] t = record { rest = sign semicolon ∷ []; text = byte semicolon ∷ []; spelt = then_sign refl end; whole = then ts t; same = refl }
close d (none ∷ fs) t =
    let c = close d fs (inner (one t) (leaf A)) in record {
      rest = sign comma ∷ word A ∷ sign right ∷ c.rest;
      text = byte comma ∷ (A ++ byte right ∷ c.text);
      spelt = then_sign refl (then_word a_name (then_sign refl c.spelt));
      whole = c.whole;
      same = c.same;
    }
close d (some ts ∷ fs) t =
    let c = close d fs (inner ts t) in record {
      rest = sign right ∷ c.rest;
      text = byte right ∷ c.text;
      spelt = then_sign refl c.spelt;
      whole = c.whole;
      same = c.same;
    }

closed : (d : Done) (fs : List Done) (t : Tree) {s : List ℕ} → Behind d fs (tokens t) s → Starts s
closed d fs t {s} h = let c = close d fs t in (c.text, (c.whole, subst (λ (k : List Token). Spells k (s ++ c.text)) c.same (h.goes c.rest c.text c.spelt)))

shorter : (s : List ℕ) → Starts (s ++ A) → Starts s
shorter s (r, x) = (A ++ r, rw append_assoc at x)

pub starts : {σ : State} {s : List ℕ} → Sofar σ s → Starts s
starts {s = s} (at_before {d} {fs} h) = shorter s (closed d fs (leaf A) (behind_name h a_name))
starts (at_naming {d} {fs} {n} h x) = closed d fs (leaf n) (behind_name h x)
starts (at_after {d} {fs} {t} h) = closed d fs t h
