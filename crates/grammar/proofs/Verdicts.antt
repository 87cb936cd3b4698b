-- The reader with a clerk accepts exactly the texts that spell trees whose tokens the clerk takes one by one (`accepts`, `accepted_right`).
use mathlib.Core.Path.{◌≡◌, refl, sym, ◌∙◌, subst}
use mathlib.Core.Bool.{Bool, true, false, cond}
use mathlib.Core.List.{List, [], ◌∷◌, ◌++◌, append_assoc, append-nil}
use mathlib.Core.Option.{Option, none, some}
use Prim.Native.Nat.{ℕ, suc, ◌<◌}
use native.Mathlib.Omega.{arith}
use lib.ListN.{length, length-append}
use lib.Dec.{eqb}
use borrow.Author.Tests.{eqb-true}
use Rattle.grammar.specs.Bytes.{Sign, Mark, mark, left, right, comma, semicolon, blank, letter, wrong}
use Rattle.grammar.specs.Bytes as bytes
use Rattle.grammar.specs.Trees.{Tree, Trees, leaf, inner, one, then, Token, word, sign, tokens, file}
use Rattle.grammar.specs.Text.{Newick}
use Rattle.grammar.specs.Reader.{Done, State, before, naming, after, ended, step, start, Outcome, trees, ending, run, read}
use Rattle.grammar.specs.Reader as reader
use Rattle.grammar.specs.Verdict.{Check, goes, fails, Next, on, stop, Verdict, accepted, refused, notes, named, first, signed, judge, verdict}
use Rattle.grammar.proofs.Complete.{went, complete}
use Rattle.grammar.proofs.Along.{filed, brackets, If}
use Rattle.grammar.proofs.Promises.{sound}

-- ---- the trees that come of a state begin as it stands

abbrev Ahead : State → Trees → Type 0
Ahead (before d fs) ts = (k : List Token) × (file ts [] ≡ filed d (brackets fs k))
Ahead (naming d fs n) ts = (m : List ℕ) × (k : List Token) × (file ts [] ≡ filed d (brackets fs (word (n ++ m) ∷ k)))
Ahead (after d fs t) ts = (k : List Token) × (file ts [] ≡ filed d (brackets fs (tokens t k)))

ended_ahead : (d : Done) (fs : List Done) (t : Tree) (g : Sign) → If (λ σ. (ts : Trees) → Ahead σ ts → (k : List Token) × (file ts [] ≡ filed d (brackets fs (tokens t (sign g ∷ k))))) (ended d fs t g)
unfolding ended tokens file
ended_ahead d fs t left = tt
ended_ahead d [] t right = tt
ended_ahead d (none ∷ fs) t right = tt
ended_ahead d (some us ∷ fs) t right = λ ts a. a
ended_ahead d [] t comma = tt
ended_ahead d (none ∷ fs) t comma = λ ts a. a
ended_ahead d (some us ∷ fs) t comma = λ ts a. a
ended_ahead none [] t semicolon = λ ts a. a
ended_ahead (some us) [] t semicolon = λ ts a. a
ended_ahead d (f ∷ fs) t semicolon = tt

if_map : {P Q : State → Type 0} (o : Option State) → ((σ : State) → P σ → Q σ) → If P o → If Q o
if_map none h x = tt
if_map (some σ) h x = h σ x

step_ahead : (σ : State) (b : ℕ) (m : Mark) (ts : Trees) → If (λ σ'. Ahead σ' ts → Ahead σ ts) (step σ b m)
unfolding step tokens
step_ahead (before d fs) b blank ts = λ a. a
step_ahead (before d fs) b letter ts = λ (m, k, e). (word (b ∷ m) ∷ k, e)
step_ahead (before d fs) b wrong ts = tt
step_ahead (before d fs) b (bytes.sign left) ts = λ (k, e). (sign left ∷ k, e)
step_ahead (before d fs) b (bytes.sign right) ts = tt
step_ahead (before d fs) b (bytes.sign comma) ts = tt
step_ahead (before d fs) b (bytes.sign semicolon) ts = tt
step_ahead (naming d fs n) b blank ts = λ (k, e). ([], k, rw append-nil e)
step_ahead (naming d fs n) b letter ts = λ (m, k, e). (b ∷ m, k, rw append_assoc at e)
step_ahead (naming d fs n) b wrong ts = tt
step_ahead (naming d fs n) b (bytes.sign g) ts = if_map (ended d fs (leaf n) g) (λ σ h a. let (k, e) = h ts a in ([], sign g ∷ k, rw append-nil e)) (ended_ahead d fs (leaf n) g)
step_ahead (after d fs t) b blank ts = λ a. a
step_ahead (after d fs t) b letter ts = tt
step_ahead (after d fs t) b wrong ts = tt
step_ahead (after d fs t) b (bytes.sign g) ts = if_map (ended d fs t g) (λ σ h a. let (k, e) = h ts a in (sign g ∷ k, e)) (ended_ahead d fs t g)

-- A byte that cannot stand there.
halted : (p : ℕ) (σ : State) (b : ℕ) (s : List ℕ) → step σ b (mark b) ≡ none → run p σ (b ∷ s) ≡ reader.refused p
unfolding run
halted p σ b s e = rw (e, run)

clash : {A : Type 0} {o : Outcome} {ts : Trees} {p : ℕ} → o ≡ trees ts → o ≡ reader.refused p → A
clash e f = let z : ◌≡◌ {A = ℕ} 0 1 = cc in absurd (omega arith)

end_ahead : (p : ℕ) (σ : State) {ts : Trees} → ending p σ ≡ trees ts → Ahead σ ts
unfolding ending
end_ahead p (before none fs) e = clash e refl
end_ahead p (before (some us) []) e = ([], cc)
end_ahead p (before (some us) (f ∷ fs)) e = clash e refl
end_ahead p (naming d fs n) e = clash e refl
end_ahead p (after d fs t) e = clash e refl

ahead : (s : List ℕ) (p : ℕ) (σ : State) {ts : Trees} → run p σ s ≡ trees ts → Ahead σ ts
ahead [] p σ e = end_ahead p σ (unfold run in e)
ahead (b ∷ s) p σ {ts} e = go (step σ b (mark b)) refl (step_ahead σ b (mark b) ts) (λ σ'. ahead s (suc p) σ')
  where
    go : (o : Option State) → step σ b (mark b) ≡ o → If (λ σ'. Ahead σ' ts → Ahead σ ts) (step σ b (mark b)) → ((σ' : State) → run (suc p) σ' s ≡ trees ts → Ahead σ' ts) → Ahead σ ts
    go none f h ih = clash e (halted p σ b s f)
    go (some σ') f h ih = subst (If (λ σ'. Ahead σ' ts → Ahead σ ts)) f h (ih σ' (sym (went p σ b s refl f) ∙ e))

-- ---- the clerk

module _ {T : Type 0} (note : T → Token → Check T) (x₀ : T) where
  -- He has been told what f holds, and then keeps x.
  record Kept (f : List Token → List Token) (x : T) : Type 0 where
    kept : (k : List Token) → notes note x₀ (f k) ≡ notes note x k

  -- He refuses a token of the trees.
  record Failing (ts : Trees) : Type 0 where
    number : ℕ
    fail : notes note x₀ (file ts []) ≡ fails number

  tells : {f : List Token → List Token} {x y : T} (w : Token) → Kept f x → note x w ≡ goes y → Kept (λ k. f (w ∷ k)) y
  unfolding notes
  tells w h e = record { kept = λ k. h.kept (w ∷ k) ∙ rw (e, notes) }

  tells_not : {f : List Token → List Token} {x : T} {r : ℕ} {ts : Trees} (w : Token) → Kept f x → note x w ≡ fails r → (k : List Token) → file ts [] ≡ f (w ∷ k) → Failing ts
  unfolding notes
  tells_not {r = r} w h e k a = record { number = r; fail = rw a (h.kept (w ∷ k) ∙ rw (e, notes)) }

  -- What the state holds that he has been told.
  abbrev so : State → List Token → List Token
  so (before d fs) k = filed d (brackets fs k)
  so (naming d fs n) k = filed d (brackets fs k)
  so (after d fs t) k = filed d (brackets fs (tokens t k))

  -- Where the reader goes on, the clerk keeps what he is told; where it goes on but for him, he refuses a token of whatever trees come.
  abbrev Judged : Option State → Next T → Type 0
  Judged none (on σ' y) = ⊥
  Judged none (stop r q) = Unit
  Judged (some σ) (on σ' y) = (σ ≡ σ') × Kept (so σ) y
  Judged (some σ) (stop r q) = (ts : Trees) → Ahead σ ts → Failing ts

  signed_judged : {f : List Token → List Token} {x : T} (p : ℕ) (σ : State) (g : Sign) → Kept f x → ((k : List Token) → so σ k ≡ f (sign g ∷ k))
      → ((ts : Trees) → Ahead σ ts → (k : List Token) × (file ts [] ≡ f (sign g ∷ k))) → Judged (some σ) (signed note p (some σ) x g)
  signed_judged {f} {x} p σ g h e a = go (note x (sign g)) refl
    where
      go : (c : Check T) → note x (sign g) ≡ c → Judged (some σ) (elim c [ goes y ↦ on σ y | fails r ↦ stop r p ])
      go (goes y) o = (refl, record { kept = λ k. rw e ((tells (sign g) h o).kept k) })
      go (fails r) o = λ ts b. let (k, q) = a ts b in tells_not (sign g) h o k q

  ended_judged : {x : T} (p : ℕ) (d : Done) (fs : List Done) (t : Tree) (g : Sign) → Kept (so (after d fs t)) x → Judged (ended d fs t g) (signed note p (ended d fs t g) x g)
  unfolding ended tokens file
  ended_judged p d fs t left h = tt
  ended_judged p d [] t right h = tt
  ended_judged p d (none ∷ fs) t right h = tt
  ended_judged p d (some us ∷ fs) t right h = signed_judged p (after d fs (inner us t)) right h (λ k. refl) (λ ts a. a)
  ended_judged p d [] t comma h = tt
  ended_judged p d (none ∷ fs) t comma h = signed_judged p (before d (some (one t) ∷ fs)) comma h (λ k. refl) (λ ts a. a)
  ended_judged p d (some us ∷ fs) t comma h = signed_judged p (before d (some (then us t) ∷ fs)) comma h (λ k. refl) (λ ts a. a)
  ended_judged p none [] t semicolon h = signed_judged p (before (some (one t)) []) semicolon h (λ k. refl) (λ ts a. a)
  ended_judged p (some us) [] t semicolon h = signed_judged p (before (some (then us t)) []) semicolon h (λ k. refl) (λ ts a. a)
  ended_judged p d (f ∷ fs) t semicolon h = tt

  halts : (o : Option State) (r q : ℕ) → If (λ σ. (ts : Trees) → Ahead σ ts → Failing ts) o → Judged o (stop r q)
  halts none r q h = tt
  halts (some σ) r q h = h

  module _ (long : (x : T) (n : List ℕ) → 32 < length n → (r : ℕ) × (note x (word n) ≡ fails r)) where
    -- A name that ends.
    word_judged : {x : T} {f : List Token → List Token} (n : List ℕ) (o : Option State) (q : ℕ) (next : T → Next T) → Kept f x
        → If (λ σ. (ts : Trees) → Ahead σ ts → (k : List Token) × (file ts [] ≡ f (word n ∷ k))) o
        → ((y : T) → Kept (λ k. f (word n ∷ k)) y → Judged o (next y))
        → Judged o (elim (note x (word n)) [ goes y ↦ next y | fails r ↦ stop r q ])
    word_judged {x} n o q next h a g = go (note x (word n)) refl
      where
        go : (c : Check T) → note x (word n) ≡ c → Judged o (elim c [ goes y ↦ next y | fails r ↦ stop r q ])
        go (goes y) e = g y (tells (word n) h e)
        go (fails r) e = halts o r q (if_map o (λ σ f ts b. let (k, i) = f ts b in tells_not (word n) h e k i) a)

    -- A letter.
    letter_judged : {x : T} (p : ℕ) (d : Done) (fs : List Done) (n : List ℕ) (b : ℕ) (c : Bool) → eqb (length n) 32 ≡ c → Kept (so (naming d fs n)) x
        → Judged (some (naming d fs (n ++ b ∷ []))) (cond c (stop 17 p) (on (naming d fs (n ++ b ∷ [])) x))
    letter_judged p d fs n b false e h = (refl, h)
    letter_judged {x} p d fs n b true e h = λ ts (m, k, i).
        let w = n ++ b ∷ [] ++ m in
        let (r, f) = long x w (omega (arith, eqb-true (length n) 32 e, length-append (n ++ b ∷ []) m, length-append n (b ∷ []))) in tells_not (word w) h f k i

    step_judged : {x : T} (p : ℕ) (σ : State) (b : ℕ) (m : Mark) → Kept (so σ) x → Judged (step σ b m) (judge note p σ x b m)
    unfolding step judge named tokens
    step_judged p (before d fs) b blank h = (refl, h)
    step_judged p (before d fs) b letter h = (refl, h)
    step_judged p (before d fs) b wrong h = tt
    step_judged p (before d fs) b (bytes.sign left) h = signed_judged p (before d (none ∷ fs)) left h (λ k. refl) (λ ts a. a)
    step_judged p (before d fs) b (bytes.sign right) h = tt
    step_judged p (before d fs) b (bytes.sign comma) h = tt
    step_judged p (before d fs) b (bytes.sign semicolon) h = tt
    step_judged {x} p (naming d fs n) b blank h = word_judged n (some (after d fs (leaf n))) (first note p (naming d fs n)) (on (after d fs (leaf n))) h (λ ts a. a) (λ y g. (refl, record { kept = g.kept }))
    step_judged p (naming d fs n) b letter h = letter_judged p d fs n b (eqb (length n) 32) refl h
    step_judged p (naming d fs n) b wrong h = word_judged n none (first note p (naming d fs n)) (λ y. stop 16 p) h tt (λ y g. tt)
    step_judged p (naming d fs n) b (bytes.sign g) h =
        word_judged n (ended d fs (leaf n) g) (first note p (naming d fs n)) (λ y. signed note p (ended d fs (leaf n) g) y g) h
        (if_map (ended d fs (leaf n) g) (λ σ f ts a. let (k, e) = f ts a in (sign g ∷ k, e)) (ended_ahead d fs (leaf n) g))
        (λ y u. ended_judged p d fs (leaf n) g (record { kept = u.kept }))
    step_judged p (after d fs t) b blank h = (refl, h)
    step_judged p (after d fs t) b letter h = tt
    step_judged p (after d fs t) b wrong h = tt
    step_judged p (after d fs t) b (bytes.sign g) h = ended_judged p d fs t g h

    -- ---- along a text

    -- The two readers agree: they accept the same trees, unless the clerk refuses a token of them.
    abbrev Agree : Outcome → Verdict T → Type 0
    Agree (trees ts) (accepted us y) = (ts ≡ us) × (notes note x₀ (file ts []) ≡ goes y)
    Agree (trees ts) (refused r q) = Failing ts
    Agree (reader.refused p) (accepted us y) = ⊥
    Agree (reader.refused p) (refused r q) = Unit

    end_agrees : {x : T} (p : ℕ) (σ : State) → Kept (so σ) x → Agree (ending p σ) (verdict note p σ x [])
    unfolding ending verdict named notes
    end_agrees p (before none fs) h = tt
    end_agrees p (before (some ts) []) h = (refl, h.kept [])
    end_agrees p (before (some ts) (f ∷ fs)) h = tt
    end_agrees {x} p (naming d fs n) h = go (note x (word n))
      where
        go : (c : Check T) → Agree (reader.refused p) (elim c [ goes y ↦ refused 16 p | fails r ↦ refused r (first note p (naming d fs n)) ])
        go (goes y) = tt
        go (fails r) = tt
    end_agrees p (after d fs t) h = tt

    stop_agrees : (s : List ℕ) (p : ℕ) (σ : State) (r q : ℕ) → ((ts : Trees) → Ahead σ ts → Failing ts) → Agree (run p σ s) (refused r q)
    stop_agrees s p σ r q h = go (run p σ s) refl
      where
        go : (o : Outcome) → run p σ s ≡ o → Agree o (refused r q)
        go (trees ts) e = h ts (ahead s p σ e)
        go (reader.refused i) e = tt

    agrees : (s : List ℕ) (p : ℕ) (σ : State) (x : T) → Kept (so σ) x → Agree (run p σ s) (verdict note p σ x s)
    unfolding run verdict
    agrees [] p σ x h = end_agrees p σ h
    agrees (b ∷ s) p σ x h = go (step σ b (mark b)) (judge note p σ x b (mark b)) (step_judged p σ b (mark b) h) (agrees s (suc p))
      where
        go : (o : Option State) (n : Next T) → Judged o n → ((σ : State) (y : T) → Kept (so σ) y → Agree (run (suc p) σ s) (verdict note (suc p) σ y s))
            → Agree (elim o [ none ↦ reader.refused p | some σ ↦ run (suc p) σ s ]) (elim n [ on σ y ↦ verdict note (suc p) σ y s | stop r q ↦ refused r q ])
        go none (stop r q) j ih = tt
        go none (on σ y) j ih = absurd j
        go (some σ) (on σ' y) (e, g) ih = subst (λ (τ : State). Agree (run (suc p) σ s) (verdict note (suc p) τ y s)) e (ih σ y g)
        go (some σ) (stop r q) j ih = stop_agrees s (suc p) σ r q j

    agree : (s : List ℕ) → Agree (read s) (verdict note 0 start x₀ s)
    agree s = agrees s 0 start x₀ (record { kept = λ k. refl })

    -- The text spells the trees that are accepted, and the clerk has been told their tokens.
    pub accepted_right : (s : List ℕ) {ts : Trees} {y : T} → verdict note 0 start x₀ s ≡ accepted ts y → Newick s ts × (notes note x₀ (file ts []) ≡ goes y)
    accepted_right s {ts} {y} e = go (read s) refl (subst (Agree (read s)) e (agree s))
      where
        go : (o : Outcome) → read s ≡ o → Agree o (accepted ts y) → Newick s ts × (notes note x₀ (file ts []) ≡ goes y)
        go (trees us) f (i, j) = (subst (Newick s) i (sound f), cc)
        go (reader.refused p) f j = absurd j

    -- A text of trees that the clerk takes is accepted.
    pub accepts : (s : List ℕ) {ts : Trees} {y : T} → Newick s ts → notes note x₀ (file ts []) ≡ goes y → verdict note 0 start x₀ s ≡ accepted ts y
    accepts s {ts} {y} n e = go (verdict note 0 start x₀ s) (subst (λ (o : Outcome). Agree o (verdict note 0 start x₀ s)) (complete n) (agree s))
      where
        go : (v : Verdict T) → Agree (trees ts) v → v ≡ accepted ts y
        go (accepted us z) (i, j) = cc
        go (refused r q) j = let f = j.fail in let z : ◌≡◌ {A = ℕ} 0 1 = cc in absurd (omega arith)
