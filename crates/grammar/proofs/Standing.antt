-- A program that takes a text token by token comes to what the definition does byte by byte: from each place between tokens (`starts`) it comes to the next
-- (`skips`, `names`, `opens`, `closes`, `goes_to_next`, `finishes`), to a refusal, or to the end (`ends`).
use mathlib.Core.Path.{◌≡◌, refl, sym, ap, ◌∙◌, subst}
use mathlib.Core.Bool.{Bool, true, false, cond}
use mathlib.Core.List.{List, [], ◌∷◌, ◌++◌}
use mathlib.Core.Option.{Option, none, some}
use Prim.Native.Nat.{ℕ, zero, suc, ◌+◌, ◌-◌, ◌≤◌, ◌<◌}
use native.Mathlib.Nat.{add-zero}
use native.Mathlib.Numerals.{add-one}
use native.Mathlib.Omega.{arith}
use lib.Dec.{eqb}
use lib.ListN.{length, get_or, drop, length-drop, drop_of_length-le}
use lib.Seq.{drop-cons, get_or-drop, take-suc, length-take-le}
use borrow.Author.Tests.{eqb-true, eq-eqb, ne_eqb}
use Rattle.grammar.specs.Bytes.{Sign, Mark, mark, byte, is_blank, is_letter, left, right, comma, semicolon, blank, letter, wrong}
use Rattle.grammar.specs.Bytes as bytes
use Rattle.grammar.specs.Trees.{Trees, leaf, Token, word, sign}
use Rattle.grammar.specs.Reader.{Done, State, before, naming, after, step, start, ending}
use Rattle.grammar.specs.Verdict.{Check, goes, fails, Next, on, stop, Verdict, accepted, refused, named, stepped, signed, judge, settled, verdict}
use Rattle.grammar.specs.inner.Shape.{Phase, beginning, inside, ended, Shape, shape_of, shape, after_subtree, step_shape, next}
use Rattle.grammar.specs.inner.Standing.{Run, piece, Between, outcome_by, Standing}
use Rattle.grammar.proofs.Shapes.{goes_on, stops_there, clash, may_end, may_not_end}
use Rattle.grammar.proofs.Writing.{sign_mark}

-- ---- what a byte is

-- A mark, and the test by which the byte b has it.
data Tested (b : ℕ) : Mark → Type 0 where
  as_blank : is_blank b ≡ true → Tested b blank
  as_letter : is_letter b ≡ true → Tested b letter
  as_sign : (g : Sign) → b ≡ byte g → Tested b (bytes.sign g)
  as_wrong : Tested b wrong

test : {b : ℕ} {m n : Mark} (c : Bool) → (c ≡ true → Tested b m) → Tested b n → Tested b (cond c m n)
test true f h = f refl
test false f h = h

tested : (b : ℕ) → Tested b (mark b)
unfolding mark
tested b =
    test (is_blank b) as_blank (test (is_letter b) as_letter
    (test (eqb b (byte left)) (λ e. as_sign left (eqb-true b (byte left) e))
    (test (eqb b (byte right)) (λ e. as_sign right (eqb-true b (byte right) e))
    (test (eqb b (byte comma)) (λ e. as_sign comma (eqb-true b (byte comma) e))
    (test (eqb b (byte semicolon)) (λ e. as_sign semicolon (eqb-true b (byte semicolon) e)) as_wrong)))))

blank_mark : (b : ℕ) → is_blank b ≡ true → mark b ≡ blank
unfolding mark
blank_mark b e = rw (e, mark)

letter_mark : (b : ℕ) → is_letter b ≡ true → mark b ≡ letter
unfolding mark
letter_mark b e = rw (other 32 refl, other 9 refl, other 13 refl, other 10 refl, e, mark)
  where
    other : (k : ℕ) → is_letter k ≡ false → eqb b k ≡ false
    other k f = ne_eqb b k (λ q. clash (sym e ∙ ap is_letter q ∙ f))

-- What cannot begin a subtree, and what cannot follow one.
none_begins : {b : ℕ} {m : Mark} (d : Bool) (fs : List Bool) → Tested b m → is_blank b ≡ false → is_letter b ≡ false → (b ≡ byte left → ⊥)
    → step_shape beginning d fs m ≡ none
unfolding step_shape
none_begins d fs (as_blank e) i j k = clash (sym e ∙ i)
none_begins d fs (as_letter e) i j k = clash (sym e ∙ j)
none_begins d fs (as_sign left e) i j k = absurd (k e)
none_begins d fs (as_sign right e) i j k = refl
none_begins d fs (as_sign comma e) i j k = refl
none_begins d fs (as_sign semicolon e) i j k = refl
none_begins d fs as_wrong i j k = refl

none_follows : {b : ℕ} {m : Mark} (d : Bool) (fs : List Bool) → Tested b m
    → is_blank b ≡ false → (b ≡ byte right → ⊥) → (b ≡ byte comma → ⊥) → (b ≡ byte semicolon → ⊥) → step_shape ended d fs m ≡ none
unfolding step_shape after_subtree
none_follows d fs (as_blank e) i j k l = clash (sym e ∙ i)
none_follows d fs (as_letter e) i j k l = refl
none_follows d fs (as_sign left e) i j k l = refl
none_follows d fs (as_sign right e) i j k l = absurd (j e)
none_follows d fs (as_sign comma e) i j k l = absurd (k e)
none_follows d fs (as_sign semicolon e) i j k l = absurd (l e)
none_follows d fs as_wrong i j k l = refl

blank_stays : (phase : Phase) (d : Bool) (fs : List Bool) → Between phase → step_shape phase d fs blank ≡ some (shape phase d fs)
unfolding step_shape
blank_stays beginning d fs i = refl
blank_stays inside d fs i = absurd i
blank_stays ended d fs i = refl

-- ---- the verdict, byte by byte

-- The state after these letters.
abbrev spelt : Done → List Done → List ℕ → State
spelt d fs [] = before d fs
spelt d fs (b ∷ n) = naming d fs (b ∷ n)

abbrev NoLetter : List ℕ → Type 0
NoLetter [] = Unit
NoLetter (b ∷ s) = is_letter b ≡ false

no_letter : (text : List ℕ) (e : ℕ) → (e < length text → is_letter (get_or text e 0) ≡ false) → NoLetter (drop e text)
no_letter [] zero h = tt
no_letter [] (suc e) h = tt
no_letter (b ∷ s) zero h = h (omega arith)
no_letter (b ∷ s) (suc e) h = no_letter s e (λ l. h (omega arith))

pub piece_length : (text : List ℕ) (p k : ℕ) → p + k ≤ length text → length (piece text p k) ≡ k
piece_length text p k l = length-take-le k (drop p text) (omega (arith, length-drop p text))

module _ {T : Type 0} (note : T → Token → Check T) where
  -- Between tokens no name ends at a byte.
  abbrev judged : ℕ → Option State → T → Mark → Next T
  judged p o x blank = stepped note p o x
  judged p o x letter = stepped note p o x
  judged p o x wrong = stop 16 p
  judged p o x (bytes.sign g) = signed note p o x g

  judge_between : (p : ℕ) (σ : State) (x : T) (b : ℕ) (m : Mark) → Between (shape_of σ).phase → judge note p σ x b m ≡ judged p (step σ b m) x m
  unfolding judge named
  judge_between p (before d fs) x b blank i = refl
  judge_between p (before d fs) x b letter i = refl
  judge_between p (before d fs) x b wrong i = refl
  judge_between p (before d fs) x b (bytes.sign g) i = refl
  judge_between p (naming d fs n) x b m i = absurd i
  judge_between p (after d fs t) x b blank i = refl
  judge_between p (after d fs t) x b letter i = refl
  judge_between p (after d fs t) x b wrong i = refl
  judge_between p (after d fs t) x b (bytes.sign g) i = refl

  none_judged : (p : ℕ) (x : T) (m : Mark) → judged p none x m ≡ stop 16 p
  none_judged p x blank = refl
  none_judged p x letter = refl
  none_judged p x wrong = refl
  none_judged p x (bytes.sign g) = refl

  -- A letter more, and the 33rd.
  letter_more : (p : ℕ) (d : Done) (fs : List Done) (n : List ℕ) (x : T) (b : ℕ) → length n < 32
      → judge note p (spelt d fs n) x b letter ≡ on (spelt d fs (n ++ b ∷ [])) x
  unfolding judge step
  letter_more p d fs [] x b l = refl
  letter_more p d fs (c ∷ n) x b l = rw (ne_eqb (length (c ∷ n)) 32 (λ e. omega arith))

  letter_33 : (p : ℕ) (d : Done) (fs : List Done) (n : List ℕ) (x : T) (b : ℕ) → length n ≡ 32 → judge note p (spelt d fs n) x b letter ≡ stop 17 p
  unfolding judge
  letter_33 p d fs [] x b e = absurd (omega arith)
  letter_33 p d fs (c ∷ n) x b e = rw (eq-eqb (length (c ∷ n)) 32 e)

  -- A name that ends at the place p, before s.
  abbrev told : ℕ → Done → List Done → List ℕ → List ℕ → Check T → Verdict T
  told p d fs n s (goes y) = verdict note p (after d fs (leaf n)) y s
  told p d fs n s (fails r) = refused r (p - length n)

  judge_name : {b : ℕ} {m : Mark} (p : ℕ) (d : Done) (fs : List Done) (n : List ℕ) (x : T) → Tested b m → is_letter b ≡ false
      → judge note p (naming d fs n) x b m ≡ elim (note x (word n)) [ goes y ↦ judge note p (after d fs (leaf n)) y b m | fails r ↦ stop r (p - length n) ]
  unfolding judge named step
  judge_name p d fs n x (as_blank e) i = refl
  judge_name p d fs n x (as_letter e) i = clash (sym e ∙ i)
  judge_name p d fs n x (as_sign g e) i = refl
  judge_name p d fs n x as_wrong i = refl

  name_ends : (p : ℕ) (d : Done) (fs : List Done) (n s : List ℕ) (x : T) (c : Check T) → 0 < length n → NoLetter s → note x (word n) ≡ c
      → verdict note p (spelt d fs n) x s ≡ told p d fs n s c
  unfolding verdict named ending
  name_ends p d fs [] s x c l i e = absurd (omega arith)
  name_ends p d fs (a ∷ n) [] x (goes y) l i e = rw (e, verdict)
  name_ends p d fs (a ∷ n) [] x (fails r) l i e = rw (e, verdict)
  name_ends p d fs (a ∷ n) (b ∷ s) x (goes y) l i e = rw (judge_name p d fs (a ∷ n) x (tested b) i, e, verdict)
  name_ends p d fs (a ∷ n) (b ∷ s) x (fails r) l i e = rw (judge_name p d fs (a ∷ n) x (tested b) i, e, verdict)

  verdict_end : (p : ℕ) (σ : State) (x : T) → Between (shape_of σ).phase → verdict note p σ x [] ≡ settled note (ending p σ) x
  unfolding verdict named
  verdict_end p (before d fs) x i = refl
  verdict_end p (naming d fs n) x i = absurd i
  verdict_end p (after d fs t) x i = refl

  -- One byte of a text that comes to v.
  module _ {v : Verdict T} (text : List ℕ) (p : ℕ) (σ : State) (x : T) (l : p < length text) (h : verdict note p σ x (drop p text) ≡ v) where
    passed : {m : Mark} {σ' : State} {y : T} → mark (get_or text p 0) ≡ m → judge note p σ x (get_or text p 0) m ≡ on σ' y
        → verdict note (p + 1) σ' y (drop (p + 1) text) ≡ v
    unfolding verdict
    passed e f = rw add-one (rw (drop-cons text p 0 l, e, f, verdict) at h)

    halted : {m : Mark} {r q : ℕ} → mark (get_or text p 0) ≡ m → judge note p σ x (get_or text p 0) m ≡ stop r q → v ≡ refused r q
    unfolding verdict
    halted e f = sym (rw (drop-cons text p 0 l, e, f, verdict) at h)

  -- A run of letters of a text that comes to v.
  module _ {v : Verdict T} {text : List ℕ} {p e : ℕ} (run : Run is_letter text p e)
      (d : Done) (fs : List Done) (x : T) (h : verdict note p (before d fs) x (drop p text) ≡ v) where
    letters : (k : ℕ) → k ≤ 32 → p + k ≤ e → verdict note (p + k) (spelt d fs (piece text p k)) x (drop (p + k) text) ≡ v
    letters zero i j = rw add-zero h
    letters (suc k) i j =
        let b = get_or text (p + k) 0 in
        let place : p + suc k ≡ p + k + 1 = omega arith in
        let is_letter_lem = letter_mark b (run.each (p + k) (omega arith) (omega arith)) in
        let longer = letter_more (p + k) d fs (piece text p k) x b (omega (arith, piece_length text p k (omega (arith, run.within)))) in
        rw (place, take-suc (drop p text) k 0 (omega (arith, length-drop p text, run.within)), get_or-drop)
        (passed text (p + k) _ x (omega (arith, run.within)) (letters k (omega arith) (omega arith)) is_letter_lem longer)

    too_many : 32 < e - p → v ≡ refused 17 (p + 32)
    too_many l =
        let b = get_or text (p + 32) 0 in
        let is_letter_lem = letter_mark b (run.each (p + 32) (omega arith) (omega arith)) in
        let full = letter_33 (p + 32) d fs (piece text p 32) x b (piece_length text p 32 (omega (arith, run.within))) in
        halted text (p + 32) _ x (omega (arith, run.within)) (letters 32 (omega arith) (omega arith)) is_letter_lem full

    whole_name : p < e → e - p ≤ 32 → (c : Check T) → note x (word (piece text p (e - p))) ≡ c → told e d fs (piece text p (e - p)) (drop e text) c ≡ v
    whole_name l i c f =
        let n = piece text p (e - p) in
        let place : p + (e - p) ≡ e = omega arith in
        let long : 0 < length n = omega (arith, piece_length text p (e - p) (omega (arith, run.within))) in
        sym (name_ends e d fs n (drop e text) x c long (no_letter text e run.stops) f) ∙ rw place at (letters (e - p) i (omega arith))

-- ---- from one place between tokens to the next

begins : (σ : State) → (shape_of σ).phase ≡ beginning → (d : Done) × (fs : List Done) × (σ ≡ before d fs)
begins (before d fs) e = (d, fs, refl)
begins (naming d fs n) e = clash cc
begins (after d fs t) e = clash cc

module _ {T : Type 0} {note : T → Token → Check T} {x₀ : T} {text : List ℕ} where
  pub starts : Standing note x₀ text 0 beginning false [] x₀
  starts = record { state = start; between = tt; shaped = refl; same = refl }

  module _ {p : ℕ} {phase : Phase} {d : Bool} {fs : List Bool} {x : T} (h : Standing note x₀ text p phase d fs x) where
    plain : Between (shape_of h.state).phase
    plain = subst (λ (s : Shape). Between s.phase) (sym h.shaped) h.between

    shape_next : (m : Mark) → next (shape_of h.state) m ≡ step_shape phase d fs m
    shape_next m = ap (λ (s : Shape). next s m) h.shaped

    module _ (l : p < length text) where
      judge_here : (m : Mark) → judge note p h.state x (get_or text p 0) m ≡ judged note p (step h.state (get_or text p 0) m) x m
      judge_here m = judge_between note p h.state x (get_or text p 0) m plain

      cannot_stand : step_shape phase d fs (mark (get_or text p 0)) ≡ none → outcome_by note x₀ text ≡ refused 16 p
      cannot_stand e =
          let m = mark (get_or text p 0) in
          let stuck = stops_there h.state (get_or text p 0) m (shape_next m ∙ e) in
          halted note text p h.state x l h.same refl (judge_here m ∙ rw stuck (none_judged note p x m))

      skip : is_blank (get_or text p 0) ≡ true → Standing note x₀ text (p + 1) phase d fs x
      skip e =
          let (σ, f, g) = goes_on h.state (get_or text p 0) blank (shape_next blank ∙ blank_stays phase d fs h.between) in
          record {
            state = σ;
            between = h.between;
            shaped = g;
            same = passed note text p h.state x l h.same (blank_mark (get_or text p 0) e) (judge_here blank ∙ rw f);
          }

      module _ (g : Sign) (is : get_or text p 0 ≡ byte g) where
        sign_here : mark (get_or text p 0) ≡ bytes.sign g
        sign_here = ap mark is ∙ sign_mark g

        sign_cannot : step_shape phase d fs (bytes.sign g) ≡ none → outcome_by note x₀ text ≡ refused 16 p
        sign_cannot e = cannot_stand (rw sign_here e)

        module _ {s : Shape} (stands : step_shape phase d fs (bytes.sign g) ≡ some s) where
          sign_step : (σ : State) × (step h.state (get_or text p 0) (bytes.sign g) ≡ some σ) × (shape_of σ ≡ s)
          sign_step = goes_on h.state (get_or text p 0) (bytes.sign g) (shape_next (bytes.sign g) ∙ stands)

          sign_judged : judge note p h.state x (get_or text p 0) (bytes.sign g) ≡ signed note p (some sign_step.0) x g
          sign_judged = judge_here (bytes.sign g) ∙ rw sign_step.1

          sign_goes : {y : T} → Between s.phase → note x (sign g) ≡ goes y → Standing note x₀ text (p + 1) s.phase s.some_tree s.brackets y
          sign_goes i e = record {
            state = sign_step.0;
            between = i;
            shaped = sign_step.2;
            same = passed note text p h.state x l h.same sign_here (sign_judged ∙ rw (e, signed));
          }

          sign_refused : {r : ℕ} → note x (sign g) ≡ fails r → outcome_by note x₀ text ≡ refused r p
          sign_refused e = halted note text p h.state x l h.same sign_here (sign_judged ∙ rw (e, signed))

  -- Blanks.
  module _ {phase : Phase} {d : Bool} {fs : List Bool} {x : T} where
    pub skips : {p e : ℕ} → Standing note x₀ text p phase d fs x → Run is_blank text p e → Standing note x₀ text e phase d fs x
    skips {p} {e} h run = go (e - p) p (omega arith) (omega (arith, run.up)) h
      where
        go : (k q : ℕ) → p ≤ q → q + k ≡ e → Standing note x₀ text q phase d fs x → Standing note x₀ text e phase d fs x
        go zero q i j g = rw (← j, add-zero) g
        go (suc k) q i j g = go k (q + 1) (omega arith) (omega arith) (skip g (omega (arith, run.within)) (run.each q i (omega arith)))

  -- Where a subtree must begin.
  module _ {p : ℕ} {d : Bool} {fs : List Bool} {x : T} (h : Standing note x₀ text p beginning d fs x) where
    pub opens : {y : T} → p < length text → get_or text p 0 ≡ byte left → note x (sign left) ≡ goes y → Standing note x₀ text (p + 1) beginning d (false ∷ fs) y
    unfolding step_shape
    opens l is = sign_goes h l left is refl tt

    pub open_refused : {r : ℕ} → p < length text → get_or text p 0 ≡ byte left → note x (sign left) ≡ fails r → outcome_by note x₀ text ≡ refused r p
    unfolding step_shape
    open_refused l is = sign_refused h l left is refl

    pub cannot_begin : p < length text → is_blank (get_or text p 0) ≡ false → is_letter (get_or text p 0) ≡ false → (get_or text p 0 ≡ byte left → ⊥)
        → outcome_by note x₀ text ≡ refused 16 p
    cannot_begin l i j k = cannot_stand h l (none_begins d fs (tested (get_or text p 0)) i j k)

    -- A name.
    module _ {e : ℕ} (run : Run is_letter text p e) where
      begun : (d : Done) × (fs : List Done) × (h.state ≡ before d fs)
      begun = begins h.state (ap (λ (s : Shape). s.phase) h.shaped)

      same_begun : verdict note p (before begun.0 begun.1) x (drop p text) ≡ outcome_by note x₀ text
      same_begun = rw begun.2 at h.same

      pub names : {y : T} → p < e → e - p ≤ 32 → note x (word (piece text p (e - p))) ≡ goes y → Standing note x₀ text e ended d fs y
      names {y} l i f = record {
        state = after begun.0 begun.1 (leaf (piece text p (e - p)));
        between = tt;
        shaped = ap (λ (s : Shape). shape ended s.some_tree s.brackets) (sym (ap shape_of begun.2) ∙ h.shaped);
        same = whole_name note run begun.0 begun.1 x same_begun l i (goes y) f;
      }

      pub name_refused : {r : ℕ} → p < e → e - p ≤ 32 → note x (word (piece text p (e - p))) ≡ fails r → outcome_by note x₀ text ≡ refused r p
      name_refused {r} l i f =
          let place : e - length (piece text p (e - p)) ≡ p = omega (arith, piece_length text p (e - p) (omega (arith, run.within))) in
          rw place at (sym (whole_name note run begun.0 begun.1 x same_begun l i (fails r) f))

      pub too_long : 32 < e - p → outcome_by note x₀ text ≡ refused 17 (p + 32)
      too_long = too_many note run begun.0 begun.1 x same_begun

  -- After a subtree.
  module _ {p : ℕ} {d : Bool} {fs : List Bool} {x : T} where
    pub cannot_follow : Standing note x₀ text p ended d fs x → p < length text
        → is_blank (get_or text p 0) ≡ false → (get_or text p 0 ≡ byte right → ⊥) → (get_or text p 0 ≡ byte comma → ⊥) → (get_or text p 0 ≡ byte semicolon → ⊥)
        → outcome_by note x₀ text ≡ refused 16 p
    cannot_follow h l i j k m = cannot_stand h l (none_follows d fs (tested (get_or text p 0)) i j k m)

    pub closes : {y : T} → Standing note x₀ text p ended d (true ∷ fs) x → p < length text → get_or text p 0 ≡ byte right → note x (sign right) ≡ goes y
        → Standing note x₀ text (p + 1) ended d fs y
    unfolding step_shape after_subtree
    closes h l is = sign_goes h l right is refl tt

    -- "two or more subtrees".
    pub closes_one : Standing note x₀ text p ended d (false ∷ fs) x → p < length text → get_or text p 0 ≡ byte right → outcome_by note x₀ text ≡ refused 16 p
    unfolding step_shape after_subtree
    closes_one h l is = sign_cannot h l right is refl

    pub goes_to_next : {f : Bool} {y : T} → Standing note x₀ text p ended d (f ∷ fs) x → p < length text → get_or text p 0 ≡ byte comma
        → note x (sign comma) ≡ goes y → Standing note x₀ text (p + 1) beginning d (true ∷ fs) y
    unfolding step_shape after_subtree
    goes_to_next h l is = sign_goes h l comma is refl tt

    pub finishes_inside : {f : Bool} → Standing note x₀ text p ended d (f ∷ fs) x → p < length text → get_or text p 0 ≡ byte semicolon
        → outcome_by note x₀ text ≡ refused 16 p
    unfolding step_shape after_subtree
    finishes_inside h l is = sign_cannot h l semicolon is refl

  -- After a subtree with no bracket open.
  module _ {p : ℕ} {d : Bool} {x : T} (h : Standing note x₀ text p ended d [] x) (l : p < length text) where
    pub finishes : {y : T} → get_or text p 0 ≡ byte semicolon → note x (sign semicolon) ≡ goes y → Standing note x₀ text (p + 1) beginning true [] y
    unfolding step_shape after_subtree
    finishes is = sign_goes h l semicolon is refl tt

    pub closes_none : get_or text p 0 ≡ byte right → outcome_by note x₀ text ≡ refused 16 p
    unfolding step_shape after_subtree
    closes_none is = sign_cannot h l right is refl

    pub next_outside : get_or text p 0 ≡ byte comma → outcome_by note x₀ text ≡ refused 16 p
    unfolding step_shape after_subtree
    next_outside is = sign_cannot h l comma is refl

  -- The file's end.
  module _ {p : ℕ} {phase : Phase} {d : Bool} {fs : List Bool} {x : T} (h : Standing note x₀ text p phase d fs x) (l : length text ≤ p) where
    settles : outcome_by note x₀ text ≡ settled note (ending p h.state) x
    settles = sym (rw (drop_of_length-le text l) at h.same) ∙ verdict_end note p h.state x (plain h)

    ends_short : (shape phase d fs ≡ shape beginning true [] → ⊥) → outcome_by note x₀ text ≡ refused 16 p
    ends_short f = settles ∙ rw (may_not_end p h.state (λ e. f (sym h.shaped ∙ e)))

  module _ {p : ℕ} {x : T} where
    pub ends : Standing note x₀ text p beginning true [] x → length text ≤ p → (ts : Trees) × (outcome_by note x₀ text ≡ accepted ts x)
    ends h l =
        let phase = ap (λ (s : Shape). s.phase) h.shaped in
        let some_tree = ap (λ (s : Shape). s.some_tree) h.shaped in
        let (ts, e) = may_end p h.state phase some_tree (ap (λ (s : Shape). s.brackets) h.shaped) in
        (ts, settles h l ∙ rw e)

    pub ends_unfinished : {d : Bool} {fs : List Bool} → Standing note x₀ text p ended d fs x → length text ≤ p → outcome_by note x₀ text ≡ refused 16 p
    ends_unfinished h l = ends_short h l (λ e. let f = ap (λ (s : Shape). s.phase) e in clash cc)

    pub ends_treeless : {phase : Phase} {fs : List Bool} → Standing note x₀ text p phase false fs x → length text ≤ p → outcome_by note x₀ text ≡ refused 16 p
    ends_treeless h l = ends_short h l (λ e. clash (sym (ap (λ (s : Shape). s.some_tree) e)))

    pub ends_inside : {phase : Phase} {d f : Bool} {fs : List Bool} → Standing note x₀ text p phase d (f ∷ fs) x → length text ≤ p
        → outcome_by note x₀ text ≡ refused 16 p
    ends_inside h l = ends_short h l (λ e. let f = ap (λ (s : Shape). s.brackets) e in clash cc)
