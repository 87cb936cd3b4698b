-- Reading refuses the first of the faults, and accepts where there is none (`first_fault`).
use mathlib.Core.Path.{◌≡◌, refl, subst}
use mathlib.Core.Bool.{Bool, true, false, cond}
use mathlib.Core.List.{List, [], ◌∷◌, ◌++◌}
use mathlib.Core.Option.{Option, none, some}
use Prim.Native.Nat.{ℕ, suc, ◌-◌, ◌≤◌}
use native.Mathlib.Omega.{arith}
use lib.Dec.{ltb, eqb}
use lib.ListN.{length, length-append}
use borrow.Author.Tests.{eqb-false, le-ltb}
use Rattle.grammar.specs.Bytes.{Sign, Mark, mark, left, right, comma, semicolon, blank, letter, wrong}
use Rattle.grammar.specs.Bytes as bytes
use Rattle.grammar.specs.Trees.{Trees, leaf, Token, word, sign}
use Rattle.grammar.specs.Reader.{State, before, naming, after, ended, step, start, Outcome, trees, ending, run, read}
use Rattle.grammar.specs.Verdict.{Check, goes, fails, noted, Next, on, stop, Verdict, accepted, refused, too_long, named, stepped, signed, judge, settled, verdict}
use Rattle.grammar.specs.Faults.{Refusal, at, end_faults, name_faults, kept, ending_there, itself, then_kept, faults}
use Rattle.grammar.proofs.Along.{If}
use Rattle.grammar.proofs.Order.{Plain, ended_plain, Numbers, end, next}

-- The name is not too long.
abbrev Fair : State → Type 0
Fair (before d fs) = Unit
Fair (naming d fs n) = length n ≤ 32
Fair (after d fs t) = Unit

plain_fair : (o : Option State) → If Plain o → If Fair o
plain_fair none h = tt
plain_fair (some (before d fs)) h = tt
plain_fair (some (naming d fs n)) h = absurd h
plain_fair (some (after d fs t)) h = tt

not_32 : (n : List ℕ) (b p : ℕ) (c : Bool) → eqb (length n) 32 ≡ c → length n ≤ 32 → cond c (at p (17 ∷ [])) [] ≡ [] → length (n ++ b ∷ []) ≤ 32
not_32 n b p true e h f = let z : ◌≡◌ {A = ℕ} 0 1 = cc in absurd (omega arith)
not_32 n b p false e h f = omega (arith, length-append n (b ∷ []), eqb-false (length n) 32 e)

-- What the reader does at a byte, by what there is wrong.
abbrev firstly : {T : Type 0} → List Refusal → Option State → ℕ → List ℕ → T → Next T
firstly (f ∷ fs) o p rs y = stop f.number f.place
firstly [] none p rs y = stop 16 p
firstly [] (some σ) p (r ∷ rs) y = stop r p
firstly [] (some σ) p [] y = on σ y

-- The first fault is the refusal.
abbrev pub First : {T : Type 0} → List Refusal → Verdict T → Type 0
First {T} [] v = (ts : Trees) × (y : T) × (v ≡ accepted ts y)
First (f ∷ fs) v = v ≡ refused f.number f.place

module _ {T : Type 0} (wrongs : T → Token → List ℕ) (keep : T → Token → T) where
  abbrev note : T → Token → Check T
  note x w = noted (wrongs x w) (keep x w)

  letter_first : (p : ℕ) (c : Bool) (o : Option State) (x : T) → cond c (stop 17 p) (stepped note p o x) ≡ firstly (cond c (at p (17 ∷ [])) []) o p [] x
  letter_first p true o x = refl
  letter_first p false none x = refl
  letter_first p false (some σ) x = refl

  blank_first : (p q : ℕ) (rs : List ℕ) (o : Option State) (y : T) → elim (noted rs y) [ goes y ↦ stepped note p o y | fails r ↦ stop r q ] ≡ firstly (at q rs) o p [] y
  blank_first p q [] none y = refl
  blank_first p q [] (some σ) y = refl
  blank_first p q (r ∷ rs) o y = refl

  wrong_first : (p q : ℕ) (rs : List ℕ) (y : T) → elim (noted rs y) [ goes y ↦ stop 16 p | fails r ↦ stop r q ] ≡ firstly (at q rs) none p [] y
  wrong_first p q [] y = refl
  wrong_first p q (r ∷ rs) y = refl

  signed_first : (p : ℕ) (o : Option State) (y : T) (g : Sign) → signed note p o y g ≡ firstly [] o p (wrongs y (sign g)) (keep y (sign g))
  signed_first p none y g = refl
  signed_first p (some σ) y g = go (wrongs y (sign g))
    where
      go : (ws : List ℕ) → elim (noted ws (keep y (sign g))) [ goes z ↦ on σ z | fails r ↦ stop r p ] ≡ firstly [] (some σ) p ws (keep y (sign g))
      go [] = refl
      go (w ∷ ws) = refl

  sign_first : (p q : ℕ) (rs : List ℕ) (o : Option State) (y : T) (g : Sign)
      → elim (noted rs y) [ goes y ↦ signed note p o y g | fails r ↦ stop r q ] ≡ firstly (at q rs) o p (wrongs y (sign g)) (keep y (sign g))
  sign_first p q [] o y g = signed_first p o y g
  sign_first p q (r ∷ rs) o y g = refl

  judge_first : (p : ℕ) (σ : State) (x : T) (b : ℕ) (m : Mark) → Fair σ
      → judge note p σ x b m ≡ firstly (ending_there wrongs keep p σ x m) (step σ b m) p (itself wrongs keep σ x m) (then_kept wrongs keep σ x m)
  unfolding judge named name_faults kept step
  judge_first p (before d fs) x b letter h = refl
  judge_first p (before d fs) x b blank h = refl
  judge_first p (before d fs) x b wrong h = refl
  judge_first p (before d fs) x b (bytes.sign g) h = signed_first p (step (before d fs) b (bytes.sign g)) x g
  judge_first p (naming d fs n) x b letter h = letter_first p (eqb (length n) 32) (some (naming d fs (n ++ b ∷ []))) x
  judge_first p (naming d fs n) x b blank h = rw (le-ltb 32 (length n) h) (blank_first p (p - length n) (wrongs x (word n)) (some (after d fs (leaf n))) (keep x (word n)))
  judge_first p (naming d fs n) x b wrong h = rw (le-ltb 32 (length n) h) (wrong_first p (p - length n) (wrongs x (word n)) (keep x (word n)))
  judge_first p (naming d fs n) x b (bytes.sign g) h = rw (le-ltb 32 (length n) h) (sign_first p (p - length n) (wrongs x (word n)) (ended d fs (leaf n) g) (keep x (word n)) g)
  judge_first p (after d fs t) x b letter h = refl
  judge_first p (after d fs t) x b blank h = refl
  judge_first p (after d fs t) x b wrong h = refl
  judge_first p (after d fs t) x b (bytes.sign g) h = signed_first p (ended d fs t g) x g

  step_fair : (p : ℕ) (σ : State) (x : T) (b : ℕ) (m : Mark) → Fair σ → ending_there wrongs keep p σ x m ≡ [] → If Fair (step σ b m)
  unfolding step
  step_fair p (before d fs) x b letter h e = omega arith
  step_fair p (before d fs) x b blank h e = tt
  step_fair p (before d fs) x b wrong h e = tt
  step_fair p (before d fs) x b (bytes.sign left) h e = tt
  step_fair p (before d fs) x b (bytes.sign right) h e = tt
  step_fair p (before d fs) x b (bytes.sign comma) h e = tt
  step_fair p (before d fs) x b (bytes.sign semicolon) h e = tt
  step_fair p (naming d fs n) x b letter h e = not_32 n b p (eqb (length n) 32) refl h e
  step_fair p (naming d fs n) x b blank h e = tt
  step_fair p (naming d fs n) x b wrong h e = tt
  step_fair p (naming d fs n) x b (bytes.sign g) h e = plain_fair (ended d fs (leaf n) g) (ended_plain d fs (leaf n) g)
  step_fair p (after d fs t) x b letter h e = tt
  step_fair p (after d fs t) x b blank h e = tt
  step_fair p (after d fs t) x b wrong h e = tt
  step_fair p (after d fs t) x b (bytes.sign g) h e = plain_fair (ended d fs t g) (ended_plain d fs t g)

  settled_first : (o : Outcome) (y : T) → First (end_faults o) (settled note o y)
  settled_first (trees ts) y = (ts, y, refl)
  settled_first (Outcome.refused p) y = refl

  end_first : (p : ℕ) (σ : State) (x : T) → Fair σ → First (name_faults wrongs keep p σ x ++ end_faults (ending p σ)) (verdict note p σ x [])
  unfolding verdict named name_faults
  end_first p (before d fs) x h = settled_first (ending p (before d fs)) x
  end_first p (naming d fs n) x h = rw (le-ltb 32 (length n) h) (go (wrongs x (word n)))
    where
      go : (ws : List ℕ) → First {T = T} (at (p - length n) ws ++ end_faults (ending p (naming d fs n)))
          (elim (noted ws (keep x (word n))) [ goes y ↦ settled note (ending p (naming d fs n)) y | fails r ↦ refused r (p - length n) ])
      go [] = settled_first (ending p (naming d fs n)) (keep x (word n))
      go (w ∷ ws) = refl
  end_first p (after d fs t) x h = settled_first (ending p (after d fs t)) x

  firsts : (s : List ℕ) (p : ℕ) (σ : State) (x : T) → Fair σ → First (faults wrongs keep p σ x s) (verdict note p σ x s)
  unfolding faults verdict
  firsts [] p σ x h = end_first p σ x h
  firsts (b ∷ s) p σ x h =
      rw (judge_first p σ x b (mark b) h, verdict) (go (ending_there wrongs keep p σ x (mark b)) (step σ b (mark b)) (itself wrongs keep σ x (mark b)) (step_fair p σ x b (mark b) h) (λ σ'. firsts s (suc p) σ' (then_kept wrongs keep σ x (mark b))))
    where
      y : T
      y = then_kept wrongs keep σ x (mark b)

      go : (A : List Refusal) (o : Option State) (rs : List ℕ) → (A ≡ [] → If Fair o) → ((σ' : State) → Fair σ' → First (faults wrongs keep (suc p) σ' y s) (verdict note (suc p) σ' y s))
          → First {T = T} (A ++ elim o [ none ↦ at p (16 ∷ []) | some σ' ↦ at p rs ++ faults wrongs keep (suc p) σ' y s ])
          (elim (firstly A o p rs y) [ on σ' z ↦ verdict note (suc p) σ' z s | stop r q ↦ refused r q ])
      go (f ∷ A) o rs i ih = refl
      go [] none rs i ih = refl
      go [] (some σ') (r ∷ rs) i ih = refl
      go [] (some σ') [] i ih = ih σ' (i refl)

  pub first_fault : (s : List ℕ) (x : T) → First (faults wrongs keep 0 start x s) (verdict note 0 start x s)
  first_fault s x = firsts s 0 start x tt

  -- ---- a refusal 16 is the grammar's own

  module _ (numbers : (x : T) (w : Token) → Numbers 17 (wrongs x w)) where
    -- A refusal by 16 is that of the reader alone.
    abbrev Own : Outcome → Verdict T → Type 0
    Own o (accepted ts y) = Unit
    Own o (refused r q) = r ≡ 16 → o ≡ Outcome.refused q

    -- The first of them is not 16.
    abbrev Other : List Refusal → Type 0
    Other [] = Unit
    Other (f ∷ fs) = 17 ≤ f.number

    numbers_other : {rs : List ℕ} (q : ℕ) → Numbers 17 rs → Other (at q rs)
    numbers_other q (end l) = tt
    numbers_other q (next l n) = l

    name_other : (p : ℕ) (σ : State) (x : T) → Other (name_faults wrongs keep p σ x)
    unfolding name_faults
    name_other p (before d fs) x = tt
    name_other p (naming d fs n) x = go (ltb 32 (length n))
      where
        go : (c : Bool) → Other (cond c [] (at (p - length n) (wrongs x (word n))))
        go true = tt
        go false = numbers_other (p - length n) (numbers x (word n))
    name_other p (after d fs t) x = tt

    there_other : (p : ℕ) (σ : State) (x : T) (m : Mark) → Other (ending_there wrongs keep p σ x m)
    there_other p σ x letter = go (too_long σ)
      where
        go : (c : Bool) → Other (cond c (at p (17 ∷ [])) [])
        go true = omega arith
        go false = tt
    there_other p σ x blank = name_other p σ x
    there_other p σ x wrong = name_other p σ x
    there_other p σ x (bytes.sign g) = name_other p σ x

    itself_other : (p : ℕ) (σ : State) (x : T) (m : Mark) → Other (at p (itself wrongs keep σ x m))
    itself_other p σ x letter = tt
    itself_other p σ x blank = tt
    itself_other p σ x wrong = tt
    itself_other p σ x (bytes.sign g) = numbers_other p (numbers (kept wrongs keep σ x) (sign g))

    end_own : (p : ℕ) (σ : State) (x : T) → Fair σ → Own (ending p σ) (verdict note p σ x [])
    unfolding verdict named ending
    end_own p (before none fs) x h = λ e. refl
    end_own p (before (some ts) []) x h = tt
    end_own p (before (some ts) (f ∷ fs)) x h = λ e. refl
    end_own p (naming d fs n) x h = go (wrongs x (word n)) (numbers x (word n))
      where
        go : (ws : List ℕ) → Numbers 17 ws → Own (Outcome.refused p) (elim (noted ws (keep x (word n))) [ goes y ↦ refused 16 p | fails r ↦ refused r (p - length n) ])
        go [] i = λ e. refl
        go (w ∷ ws) (next l i) = λ e. absurd (omega arith)
    end_own p (after d fs t) x h = λ e. refl

    owns : (s : List ℕ) (p : ℕ) (σ : State) (x : T) → Fair σ → Own (run p σ s) (verdict note p σ x s)
    unfolding run verdict
    owns [] p σ x h = end_own p σ x h
    owns (b ∷ s) p σ x h =
        rw (judge_first p σ x b (mark b) h, verdict)
        (go (ending_there wrongs keep p σ x (mark b)) (step σ b (mark b)) (itself wrongs keep σ x (mark b)) (there_other p σ x (mark b)) (itself_other p σ x (mark b))
        (step_fair p σ x b (mark b) h) (λ σ'. owns s (suc p) σ' (then_kept wrongs keep σ x (mark b))))
      where
        y : T
        y = then_kept wrongs keep σ x (mark b)

        go : (A : List Refusal) (o : Option State) (rs : List ℕ) → Other A → Other (at p rs) → (A ≡ [] → If Fair o) → ((σ' : State) → Fair σ' → Own (run (suc p) σ' s) (verdict note (suc p) σ' y s))
            → Own (elim o [ none ↦ Outcome.refused p | some σ' ↦ run (suc p) σ' s ]) (elim (firstly A o p rs y) [ on σ' z ↦ verdict note (suc p) σ' z s | stop r q ↦ refused r q ])
        go (f ∷ A) o rs k l i ih = λ e. absurd (omega arith)
        go [] none rs k l i ih = λ e. refl
        go [] (some σ') (r ∷ rs) k l i ih = λ e. absurd (omega arith)
        go [] (some σ') [] k l i ih = ih σ' (i refl)

    pub own_16 : (s : List ℕ) (x : T) {p : ℕ} → verdict note 0 start x s ≡ refused 16 p → read s ≡ Outcome.refused p
    own_16 s x e = subst (Own (read s)) e (owns s 0 start x tt) refl
