-- Every text that spells trees is read to them (`complete`), so that it spells no others (`unique`).
use mathlib.Core.Path.{◌≡◌, refl, ◌∙◌}
use mathlib.Core.List.{List, [], ◌∷◌, ◌++◌, append_assoc}
use mathlib.Core.Option.{none, some}
use Prim.Native.Nat.{ℕ, suc}
use Rattle.grammar.specs.Bytes.{Sign, Mark, mark, left, right, comma, semicolon, blank}
use Rattle.grammar.specs.Bytes as bytes
use Rattle.grammar.specs.Trees.{Tree, Trees, leaf, inner, one, then, Token, word, sign, tokens, commas, file}
use Rattle.grammar.specs.Text.{Name, only, more, Spells, end, gap, then_sign, then_word, Newick}
use Rattle.grammar.specs.Reader.{Done, State, before, naming, after, ended, step, trees, Outcome, ending, run, start, read}

-- One byte that can stand there.
pub went : {σ' : State} {m : Mark} (p : ℕ) (σ : State) (b : ℕ) (s : List ℕ) → mark b ≡ m → step σ b m ≡ some σ' → run p σ (b ∷ s) ≡ run (suc p) σ' s
unfolding run
went p σ b s e h = rw (e, h, run)

-- The outcome o is that of a text which spells the tokens k, read from σ on.
record On (k : List Token) (σ : State) (o : Outcome) : Type 0 where
  place : ℕ
  text : List ℕ
  spelt : Spells k text
  same : o ≡ run place σ text

-- Any text of the tokens k leads from σ to σ', and what is left of it spells k'.
record Leads (σ : State) (k : List Token) (σ' : State) (k' : List Token) : Type 0 where
  lead : {s : List ℕ} (p : ℕ) → Spells k s → On k' σ' (run p σ s)

back : {k : List Token} {σ : State} {o o' : Outcome} → o ≡ o' → On k σ o' → On k σ o
back e r = record { place = r.place; text = r.text; spelt = r.spelt; same = e ∙ r.same }

infixr 50 ◌⨾◌
◌⨾◌ : {σ σ' σ'' : State} {k k' k'' : List Token} → Leads σ k σ' k' → Leads σ' k' σ'' k'' → Leads σ k σ'' k''
f ⨾ g = record { lead = λ p x. let r = f.lead p x in back r.same (g.lead r.place r.spelt) }

-- A sign, after any blanks.
by_sign : {σ σ' : State} (g : Sign) {k : List Token} → ((b : ℕ) → step σ b blank ≡ some σ) → ((b : ℕ) → step σ b (bytes.sign g) ≡ some σ') → Leads σ (sign g ∷ k) σ' k
by_sign {σ} {σ'} g {k} stays goes = record { lead = go }
  where
    go : {s : List ℕ} (p : ℕ) → Spells (sign g ∷ k) s → On k σ' (run p σ s)
    go p (gap {b} e x) = back (went _ _ _ _ e (stays b)) (go (suc p) x)
    go p (then_sign {b} e x) = record { place = suc p; text = _; spelt = x; same = went _ _ _ _ e (goes b) }

opens : (d : Done) (fs : List Done) (k : List Token) → Leads (before d fs) (sign left ∷ k) (before d (none ∷ fs)) k
unfolding step
opens d fs k = by_sign left (λ b. refl) (λ b. refl)

-- A sign after a subtree.
ends : {d : Done} {fs : List Done} {t : Tree} {σ : State} (g : Sign) {k : List Token} → ended d fs t g ≡ some σ → Leads (after d fs t) (sign g ∷ k) σ k
unfolding step
ends g e = by_sign g (λ b. refl) (λ b. e)

-- ---- names

-- The rest of a name's letters.
letters : (d : Done) (fs : List Done) (m : List ℕ) (p : ℕ) {n : List ℕ} (s : List ℕ) → Name n → (q : ℕ) × (run p (naming d fs m) (n ++ s) ≡ run q (naming d fs (m ++ n)) s)
unfolding step
letters d fs m p s (only e) = (suc p, went _ _ _ _ e refl)
letters d fs m p s (more {b} {n} e x) =
    let (q, h) = letters d fs (m ++ b ∷ []) (suc p) s x in
    (q, went _ _ _ _ e refl ∙ h ∙ rw (append_assoc m (b ∷ []) n))

-- A name, where a subtree begins.
named : (d : Done) (fs : List Done) (p : ℕ) {n : List ℕ} (s : List ℕ) → Name n → (q : ℕ) × (run p (before d fs) (n ++ s) ≡ run q (naming d fs n) s)
unfolding step
named d fs p s (only e) = (suc p, went _ _ _ _ e refl)
named d fs p s (more {b} {n} e x) =
    let (q, h) = letters d fs (b ∷ []) (suc p) s x in
    (q, went _ _ _ _ e refl ∙ h)

-- It ends where a blank or a sign stands.
name_ends : (d : Done) (fs : List Done) (n : List ℕ) {g : Sign} {k : List Token} {s : List ℕ} (p : ℕ) → Spells (sign g ∷ k) s → run p (naming d fs n) s ≡ run p (after d fs (leaf n)) s
unfolding step run
name_ends d fs n p (gap e x) = rw (e, run)
name_ends d fs n p (then_sign e x) = rw (e, run)

a_leaf : (d : Done) (fs : List Done) (n : List ℕ) {g : Sign} {k : List Token} → Leads (before d fs) (word n ∷ sign g ∷ k) (after d fs (leaf n)) (sign g ∷ k)
unfolding step
a_leaf d fs n {g} {k} = record { lead = go }
  where
    go : {s : List ℕ} (p : ℕ) → Spells (word n ∷ sign g ∷ k) s → On (sign g ∷ k) (after d fs (leaf n)) (run p (before d fs) s)
    go p (gap e x) = back (went _ _ _ _ e refl) (go (suc p) x)
    go p (then_word {s = s} y x) =
        let (q, h) = named d fs p s y in
        record { place = q; text = s; spelt = x; same = h ∙ name_ends d fs n q x }

-- ---- trees

mutual
  unfolding tokens ended

  a_tree : (t : Tree) (d : Done) (fs : List Done) (g : Sign) (k : List Token) → Leads (before d fs) (tokens t (sign g ∷ k)) (after d fs t) (sign g ∷ k)
  a_tree (leaf n) d fs g k = a_leaf d fs n
  a_tree (inner ts t) d fs g k = opens d fs _ ⨾ some_trees ts d fs _ ⨾ a_tree t d (some ts ∷ fs) right _ ⨾ ends right refl

  some_trees : (ts : Trees) (d : Done) (fs : List Done) (k : List Token) → Leads (before d (none ∷ fs)) (commas ts k) (before d (some ts ∷ fs)) k
  some_trees (one t) d fs k = a_tree t d (none ∷ fs) comma k ⨾ ends comma refl
  some_trees (then ts t) d fs k = some_trees ts d fs _ ⨾ a_tree t d (some ts ∷ fs) comma k ⨾ ends comma refl

a_file : (ts : Trees) (k : List Token) → Leads start (file ts k) (before (some ts) []) k
unfolding file ended
a_file (one t) k = a_tree t none [] semicolon k ⨾ ends semicolon refl
a_file (then ts t) k = a_file ts _ ⨾ a_tree t (some ts) [] semicolon k ⨾ ends semicolon refl

blanks_end : (ts : Trees) {s : List ℕ} (p : ℕ) → Spells [] s → run p (before (some ts) []) s ≡ trees ts
unfolding step run ending
blanks_end ts p end = refl
blanks_end ts p (gap e x) = rw (e, run) (blanks_end ts (suc p) x)

pub complete : {s : List ℕ} {ts : Trees} → Newick s ts → read s ≡ trees ts
complete {ts = ts} x = let r = (a_file ts []).lead 0 x in r.same ∙ blanks_end ts r.place r.spelt

pub unique : {s : List ℕ} {ts us : Trees} → Newick s ts → Newick s us → ts ≡ us
unique x y = let e = complete x in let f = complete y in cc
