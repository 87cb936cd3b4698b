-- What the reader has read at any time spells what it has built (`Sofar`), until it stops (`stops`).
use mathlib.Core.Path.{◌≡◌, refl, ◌∙◌, subst}
use mathlib.Core.List.{List, [], ◌∷◌, ◌++◌, append_assoc, append-nil}
use mathlib.Core.Option.{Option, none, some}
use Prim.Native.Nat.{ℕ}
use native.Mathlib.Numerals.{add-one}
use lib.ListN.{length, length-append}
use Rattle.grammar.specs.Bytes.{Sign, Mark, mark, left, right, comma, semicolon, blank, letter, wrong}
use Rattle.grammar.specs.Bytes as bytes
use Rattle.grammar.specs.Trees.{Tree, leaf, Token, word, sign, tokens, commas, file}
use Rattle.grammar.specs.Text.{Name, only, more, Spells, gap, then_sign, then_word}
use Rattle.grammar.specs.Reader.{Done, State, before, naming, after, ended, step, refused, run, start, read}
use Rattle.grammar.proofs.Complete.{went}

-- ---- the tokens of what is built

-- Those of the trees that are finished.
abbrev pub filed : Done → List Token → List Token
filed none k = k
filed (some ts) k = file ts k

-- Those of an open bracket.
abbrev pub bracket : Done → List Token → List Token
bracket none k = sign left ∷ k
bracket (some ts) k = sign left ∷ commas ts k

-- Those of the open brackets, of which the last stands first.
abbrev pub brackets : List Done → List Token → List Token
brackets [] k = k
brackets (f ∷ fs) k = brackets fs (bracket f k)

-- The text s spells those tokens, however it goes on.
pub record Behind (d : Done) (fs : List Done) (k : List Token → List Token) (s : List ℕ) : Type 0 where
  pub goes : (l : List Token) (r : List ℕ) → Spells l r → Spells (filed d (brackets fs (k l))) (s ++ r)

-- The text s, read so far, spells what the state holds.
pub data Sofar : State → List ℕ → Type 0 where
  at_before : {d : Done} {fs : List Done} {s : List ℕ} → Behind d fs (λ k. k) s → Sofar (before d fs) s
  at_naming : {d : Done} {fs : List Done} {n s : List ℕ} → Behind d fs (λ k. k) s → Name n → Sofar (naming d fs n) (s ++ n)
  at_after : {d : Done} {fs : List Done} {t : Tree} {s : List ℕ} → Behind d fs (tokens t) s → Sofar (after d fs t) s

-- ---- one byte more

-- What holds of the state that a byte leads to, if it can stand there.
abbrev pub If : (State → Type 0) → Option State → Type 0
If P none = Unit
If P (some σ) = P σ

on : (s : List ℕ) (b : ℕ) (r : List ℕ) (k : List Token) → Spells k (s ++ b ∷ r) → Spells k (s ++ b ∷ [] ++ r)
on s b r k x = rw (append_assoc s (b ∷ []) r) x

module _ {d : Done} {fs : List Done} {k : List Token → List Token} {s : List ℕ} (b : ℕ) (h : Behind d fs k s) where
  behind_blank : mark b ≡ blank → Behind d fs k (s ++ b ∷ [])
  behind_blank e = record { goes = λ l r x. on s b r _ (h.goes l (b ∷ r) (gap e x)) }

  behind_sign : {g : Sign} → mark b ≡ bytes.sign g → Behind d fs (λ l. k (sign g ∷ l)) (s ++ b ∷ [])
  behind_sign {g} e = record { goes = λ l r x. on s b r _ (h.goes (sign g ∷ l) (b ∷ r) (then_sign e x)) }

ended_sofar : (d : Done) (fs : List Done) (t : Tree) {s : List ℕ} (b : ℕ) (g : Sign) → mark b ≡ bytes.sign g → Behind d fs (tokens t) s → If (λ σ. Sofar σ (s ++ b ∷ [])) (ended d fs t g)
unfolding ended tokens file
ended_sofar d fs t b left e h = tt
ended_sofar d [] t b right e h = tt
ended_sofar d (none ∷ fs) t b right e h = tt
ended_sofar d (some ts ∷ fs) t b right e h = at_after (record { goes = (behind_sign b h e).goes })
ended_sofar d [] t b comma e h = tt
ended_sofar d (none ∷ fs) t b comma e h = at_before (record { goes = (behind_sign b h e).goes })
ended_sofar d (some ts ∷ fs) t b comma e h = at_before (record { goes = (behind_sign b h e).goes })
ended_sofar none [] t b semicolon e h = at_before (record { goes = (behind_sign b h e).goes })
ended_sofar (some ts) [] t b semicolon e h = at_before (record { goes = (behind_sign b h e).goes })
ended_sofar d (f ∷ fs) t b semicolon e h = tt

name_more : {n : List ℕ} (b : ℕ) → Name n → mark b ≡ letter → Name (n ++ b ∷ [])
name_more b (only f) e = more f (only e)
name_more b (more f x) e = more f (name_more b x e)

pub behind_name : {d : Done} {fs : List Done} {n s : List ℕ} → Behind d fs (λ k. k) s → Name n → Behind d fs (tokens (leaf n)) (s ++ n)
unfolding tokens
behind_name {n = n} {s = s} h x = record { goes = λ l r y. rw (append_assoc s n r) (h.goes (word n ∷ l) (n ++ r) (then_word x y)) }

step_sofar : {σ : State} {s : List ℕ} (b : ℕ) (m : Mark) → mark b ≡ m → Sofar σ s → If (λ σ'. Sofar σ' (s ++ b ∷ [])) (step σ b m)
unfolding step
step_sofar b blank e (at_before h) = at_before (behind_blank b h e)
step_sofar b letter e (at_before h) = at_naming h (only e)
step_sofar b wrong e (at_before h) = tt
step_sofar b (bytes.sign left) e (at_before h) = at_before (record { goes = (behind_sign b h e).goes })
step_sofar b (bytes.sign right) e (at_before h) = tt
step_sofar b (bytes.sign comma) e (at_before h) = tt
step_sofar b (bytes.sign semicolon) e (at_before h) = tt
step_sofar b blank e (at_naming h x) = at_after (behind_blank b (behind_name h x) e)
step_sofar b letter e (at_naming {n = n} {s = s} h x) = rw (append_assoc s n (b ∷ [])) (at_naming h (name_more b x e))
step_sofar b wrong e (at_naming h x) = tt
step_sofar b (bytes.sign g) e (at_naming {d} {fs} {n} h x) = ended_sofar d fs (leaf n) b g e (behind_name h x)
step_sofar b blank e (at_after h) = at_after (behind_blank b h e)
step_sofar b letter e (at_after h) = tt
step_sofar b wrong e (at_after h) = tt
step_sofar b (bytes.sign g) e (at_after {d} {fs} {t} h) = ended_sofar d fs t b g e h

-- ---- along a text

-- The reader comes to σ when it has read a.
pub record Reached (a : List ℕ) (σ : State) : Type 0 where
  pub sofar : Sofar σ a
  pub same : (r : List ℕ) → read (a ++ r) ≡ run (length a) σ r

reach : {a : List ℕ} {σ σ' : State} (b : ℕ) → Reached a σ → step σ b (mark b) ≡ some σ' → Reached (a ++ b ∷ []) σ'
reach {a} {σ} {σ'} b h e = record {
  sofar = subst (If (λ σ. Sofar σ (a ++ b ∷ []))) e (step_sofar b (mark b) refl h.sofar);
  same = λ r. rw (append_assoc a (b ∷ []) r, length-append, add-one) (h.same (b ∷ r) ∙ went _ _ _ _ refl e);
}

-- The reader stops at the end, or at a byte b that cannot stand there.
pub data Stops (s : List ℕ) : Type 0 where
  at_end : {σ : State} → Reached s σ → Stops s
  at_byte : {σ : State} (a : List ℕ) (b : ℕ) (c : List ℕ) → s ≡ a ++ b ∷ c → Reached a σ → step σ b (mark b) ≡ none → Stops s

along : (c : List ℕ) {a : List ℕ} {σ : State} → Reached a σ → Stops (a ++ c)
along [] {a} h = rw append-nil (at_end h)
along (b ∷ c) {a} {σ} h = go (step σ b (mark b)) refl (λ a σ. along c {a = a} {σ = σ})
  where
    go : (o : Option State) → step σ b (mark b) ≡ o → ((a : List ℕ) (σ : State) → Reached a σ → Stops (a ++ c)) → Stops (a ++ b ∷ c)
    go none e on = at_byte a b c refl h e
    go (some σ') e on = rw append_assoc at (on (a ++ b ∷ []) σ' (reach b h e))

pub stops : (s : List ℕ) → Stops s
stops s = along s {a = []} {σ = start} (record { sofar = at_before (record { goes = λ l r x. x }); same = λ r. refl })

pub stuck : {a : List ℕ} {σ : State} (b : ℕ) → Reached a σ → step σ b (mark b) ≡ none → (r : List ℕ) → read (a ++ b ∷ r) ≡ refused (length a)
unfolding run
stuck b h e r = h.same (b ∷ r) ∙ rw (e, run)
