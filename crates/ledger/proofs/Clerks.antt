-- Two clerks whose books are related, and stay so at every token, come to related verdicts (`same_verdict`).
use mathlib.Core.Bool.{Bool, true, false, cond}
use mathlib.Core.List.{List, [], ◌∷◌}
use mathlib.Core.Option.{Option, none, some}
use Prim.Native.Nat.{ℕ, suc}
use Rattle.grammar.specs.Bytes.{Sign, Mark, mark, blank, letter, wrong}
use Rattle.grammar.specs.Bytes as bytes
use Rattle.grammar.specs.Trees.{Trees, Token, word, sign}
use Rattle.grammar.specs.Reader.{State, before, naming, after, step, Outcome, trees, ending}
use Rattle.grammar.specs.Reader as reader
use Rattle.grammar.specs.Verdict.{Check, goes, fails, Next, on, stop, Verdict, accepted, refused}
use Rattle.grammar.specs.Verdict.{too_long, named, first, stepped, signed, judge, settled, verdict}

module _ {T U : Type 0} (R : T → U → Type 0) where
  -- Both go on, with related books, or both refuse by the same number.
  pub data SameCheck : Check T → Check U → Type 0 where
    go : {x : T} {y : U} → R x y → SameCheck (goes x) (goes y)
    fail : {r : ℕ} → SameCheck (fails r) (fails r)

  data SameNext : Next T → Next U → Type 0 where
    go : {σ : State} {x : T} {y : U} → R x y → SameNext (on σ x) (on σ y)
    fail : {r q : ℕ} → SameNext (stop r q) (stop r q)

  pub data SameVerdict : Verdict T → Verdict U → Type 0 where
    go : {ts : Trees} {x : T} {y : U} → R x y → SameVerdict (accepted ts x) (accepted ts y)
    fail : {r q : ℕ} → SameVerdict (refused r q) (refused r q)

module _ {T U : Type 0} (R : T → U → Type 0) (note : T → Token → Check T) (note' : U → Token → Check U)
    (same : (x : T) (y : U) → R x y → (w : Token) → SameCheck R (note x w) (note' y w)) where
  -- What comes after a check.
  after_check : {c : Check T} {d : Check U} (q : ℕ) (f : T → Next T) (g : U → Next U) → SameCheck R c d → ((x : T) (y : U) → R x y → SameNext R (f x) (g y))
      → SameNext R (elim c [ goes x ↦ f x | fails r ↦ stop r q ]) (elim d [ goes y ↦ g y | fails r ↦ stop r q ])
  after_check q f g (go {x} {y} r) h = h x y r
  after_check q f g fail h = fail

  -- .. and after the name that ends, if one does.
  after_name : {x : T} {y : U} (p : ℕ) (σ : State) (f : T → Next T) (g : U → Next U) → R x y → ((x : T) (y : U) → R x y → SameNext R (f x) (g y))
      → SameNext R (elim (named note σ x) [ goes x ↦ f x | fails r ↦ stop r (first note p σ) ])
      (elim (named note' σ y) [ goes y ↦ g y | fails r ↦ stop r (first note' p σ) ])
  unfolding named
  after_name {x} {y} p (before d fs) f g r h = h x y r
  after_name {x} {y} p (naming d fs n) f g r h = after_check (first note p (naming d fs n)) f g (same x y r (word n)) h
  after_name {x} {y} p (after d fs t) f g r h = h x y r

  same_stepped : (p : ℕ) (o : Option State) (x : T) (y : U) → R x y → SameNext R (stepped note p o x) (stepped note' p o y)
  same_stepped p none x y r = fail
  same_stepped p (some σ) x y r = go r

  same_signed : (p : ℕ) (o : Option State) (g : Sign) (x : T) (y : U) → R x y → SameNext R (signed note p o x g) (signed note' p o y g)
  same_signed p none g x y r = fail
  same_signed p (some σ) g x y r = after_check p (on σ) (on σ) (same x y r (sign g)) (λ x y s. go s)

  same_letter : {x : T} {y : U} (p : ℕ) (c : Bool) (o : Option State) → R x y
      → SameNext R (cond c (stop 17 p) (stepped note p o x)) (cond c (stop 17 p) (stepped note' p o y))
  same_letter p true o r = fail
  same_letter {x} {y} p false o r = same_stepped p o x y r

  same_judge : {x : T} {y : U} (p : ℕ) (σ : State) (b : ℕ) (m : Mark) → R x y → SameNext R (judge note p σ x b m) (judge note' p σ y b m)
  unfolding judge
  same_judge p σ b letter r = same_letter p (too_long σ) (step σ b letter) r
  same_judge p σ b blank r = after_name p σ (stepped note p (step σ b blank)) (stepped note' p (step σ b blank)) r (same_stepped p (step σ b blank))
  same_judge p σ b wrong r = after_name p σ (λ x. stop 16 p) (λ y. stop 16 p) r (λ x y s. fail)
  same_judge p σ b (bytes.sign g) r =
      let o = step σ b (bytes.sign g) in after_name p σ (λ x. signed note p o x g) (λ y. signed note' p o y g) r (same_signed p o g)

  same_settled : {x : T} {y : U} (o : Outcome) → R x y → SameVerdict R (settled note o x) (settled note' o y)
  same_settled (trees ts) r = go r
  same_settled (reader.refused p) r = fail

  end_check : {c : Check T} {d : Check U} (q : ℕ) (o : Outcome) → SameCheck R c d
      → SameVerdict R (elim c [ goes x ↦ settled note o x | fails r ↦ refused r q ]) (elim d [ goes y ↦ settled note' o y | fails r ↦ refused r q ])
  end_check q o (go r) = same_settled o r
  end_check q o fail = fail

  same_end : {x : T} {y : U} (p : ℕ) (σ : State) → R x y → SameVerdict R (verdict note p σ x []) (verdict note' p σ y [])
  unfolding verdict named
  same_end p (before d fs) r = same_settled (ending p (before d fs)) r
  same_end {x} {y} p (naming d fs n) r = end_check (first note p (naming d fs n)) (ending p (naming d fs n)) (same x y r (word n))
  same_end p (after d fs t) r = same_settled (ending p (after d fs t)) r

  pub same_verdict : (s : List ℕ) (p : ℕ) (σ : State) (x : T) (y : U) → R x y → SameVerdict R (verdict note p σ x s) (verdict note' p σ y s)
  unfolding verdict
  same_verdict [] p σ x y r = same_end p σ r
  same_verdict (b ∷ s) p σ x y r = rest (same_judge p σ b (mark b) r) (same_verdict s (suc p))
    where
      rest : {n : Next T} {m : Next U} → SameNext R n m
          → ((σ : State) (x : T) (y : U) → R x y → SameVerdict R (verdict note (suc p) σ x s) (verdict note' (suc p) σ y s))
          → SameVerdict R (elim n [ on σ x ↦ verdict note (suc p) σ x s | stop r q ↦ refused r q ])
          (elim m [ on σ y ↦ verdict note' (suc p) σ y s | stop r q ↦ refused r q ])
      rest (go {σ} {x} {y} r) h = h σ x y r
      rest fail h = fail
