-- Each fault of a text has a number from 16 to 20 and stands in the text or at its end (`fault_known`). A text that is refused is refused by the first of
-- them (`refused_first`), so by such a number at such a place (`refused_known`).
use mathlib.Core.Path.{◌≡◌, refl, sym, ◌∙◌, subst}
use mathlib.Core.Bool.{Bool, true, false, cond}
use mathlib.Core.Logic.{◌⊎◌, inl, inr, ⊎_elim}
use mathlib.Core.List.Memᴰ
use mathlib.Core.List.{List, [], ◌∷◌, ◌++◌, Memᴰ}
use mathlib.Core.Option.{Option, none, some}
use Prim.Native.Nat.{ℕ, suc, ◌+◌, ◌-◌, ◌≤◌, ◌<◌}
use native.Mathlib.Decide.{dec_lt}
use native.Mathlib.Omega.{arith}
use lib.Dec.{ltb}
use lib.ListN.{length}
use Rattle.grammar.specs.Bytes.{Mark, mark, blank, letter, wrong}
use Rattle.grammar.specs.Bytes as bytes
use Rattle.grammar.specs.Trees.{Token, word, sign}
use Rattle.grammar.specs.Reader.{State, before, naming, after, step, start, ending}
use Rattle.grammar.specs.Verdict.{Verdict, refused, too_long}
use Rattle.grammar.specs.Faults.{Refusal, at, FirstOf, end_faults, name_faults, kept, ending_there, itself, then_kept, faults}
use Rattle.grammar.specs.Clerk.{Tally, nothing, wrongs, keep, outcome, faults_of}
use Rattle.grammar.proofs.Order.{rank, Rising, done, also, Numbers, end, next}
use Rattle.grammar.proofs.First.{First}
use Rattle.grammar.proofs.Reading.{numbers, refuses}

-- ---- numbers and places

-- Of refusals 16 to 20, at places up to q.
record Known (q : ℕ) (f : Refusal) : Type 0 where
  least : 16 ≤ f.number
  most : f.number ≤ 20
  place : f.place ≤ q

abbrev AllKnown : ℕ → List Refusal → Type 0
AllKnown q fs = (f : Refusal) → Memᴰ f fs → Known q f

none_known : {q : ℕ} → AllKnown q []
none_known f m = absurd (Memᴰ.not-nil m)

both_known : {q : ℕ} (fs gs : List Refusal) → AllKnown q fs → AllKnown q gs → AllKnown q (fs ++ gs)
both_known fs gs h k f m = ⊎_elim (h f) (k f) (Memᴰ.append_cases fs m)

one_known : {q : ℕ} (p r : ℕ) → 16 ≤ r → r ≤ 20 → p ≤ q → AllKnown q (at p (r ∷ []))
one_known p r l h k f m = rw (Memᴰ.eq_of_singleton m) (record { least = l; most = h; place = k })

at_most : {lo : ℕ} {rs : List ℕ} → Numbers lo rs → lo ≤ 21
at_most (end l) = l
at_most (next l n) = let h = at_most n in omega arith

numbers_known : {lo q : ℕ} {rs : List ℕ} (p : ℕ) → 16 ≤ lo → p ≤ q → Numbers lo rs → AllKnown q (at p rs)
numbers_known p h k (end l) = none_known
numbers_known {lo} {q} p h k (next {r = r} {rs} l n) =
    let top = at_most n in
    both_known (at p (r ∷ [])) (at p rs) (one_known p r (omega arith) (omega arith) k) (numbers_known p (omega arith) k n)

token_known : {q : ℕ} (p : ℕ) (x : Tally) (w : Token) → p ≤ q → AllKnown q (at p (wrongs x w))
token_known p x w l = numbers_known p (omega arith) l (numbers x w)

name_known : {q : ℕ} (p : ℕ) (σ : State) (x : Tally) → p ≤ q → AllKnown q (name_faults wrongs keep p σ x)
unfolding name_faults
name_known p (before d fs) x l = none_known
name_known {q} p (naming d fs n) x l = go (ltb 32 (length n))
  where
    go : (c : Bool) → AllKnown q (cond c [] (at (p - length n) (wrongs x (word n))))
    go true = none_known
    go false = token_known (p - length n) x (word n) (omega arith)
name_known p (after d fs t) x l = none_known

there_known : {q : ℕ} (p : ℕ) (σ : State) (x : Tally) (m : Mark) → p ≤ q → AllKnown q (ending_there wrongs keep p σ x m)
there_known {q} p σ x letter l = go (too_long σ)
  where
    go : (c : Bool) → AllKnown q (cond c (at p (17 ∷ [])) [])
    go true = one_known p 17 (omega arith) (omega arith) l
    go false = none_known
there_known p σ x blank l = name_known p σ x l
there_known p σ x wrong l = name_known p σ x l
there_known p σ x (bytes.sign g) l = name_known p σ x l

itself_known : {q : ℕ} (p : ℕ) (σ : State) (x : Tally) (m : Mark) → p ≤ q → AllKnown q (at p (itself wrongs keep σ x m))
itself_known p σ x letter l = none_known
itself_known p σ x blank l = none_known
itself_known p σ x wrong l = none_known
itself_known p σ x (bytes.sign g) l = token_known p (kept wrongs keep σ x) (sign g) l

end_known : {q : ℕ} (p : ℕ) (σ : State) → p ≤ q → AllKnown q (end_faults (ending p σ))
unfolding ending
end_known p (before none fs) l = one_known p 16 (omega arith) (omega arith) l
end_known p (before (some ts) []) l = none_known
end_known p (before (some ts) (f ∷ fs)) l = one_known p 16 (omega arith) (omega arith) l
end_known p (naming d fs n) l = one_known p 16 (omega arith) (omega arith) l
end_known p (after d fs t) l = one_known p 16 (omega arith) (omega arith) l

all_known : {q : ℕ} (s : List ℕ) (p : ℕ) (σ : State) (x : Tally) → p + length s ≤ q → AllKnown q (faults wrongs keep p σ x s)
unfolding faults
all_known [] p σ x l = both_known (name_faults wrongs keep p σ x) (end_faults (ending p σ)) (name_known p σ x (omega arith)) (end_known p σ (omega arith))
all_known {q} (b ∷ s) p σ x l =
    both_known (ending_there wrongs keep p σ x (mark b)) _ (there_known p σ x (mark b) (omega arith))
    (go (step σ b (mark b)) (λ σ'. all_known s (suc p) σ' (then_kept wrongs keep σ x (mark b)) (omega arith)))
  where
    y : Tally
    y = then_kept wrongs keep σ x (mark b)

    go : (o : Option State) → ((σ' : State) → AllKnown q (faults wrongs keep (suc p) σ' y s))
        → AllKnown q (elim o [ none ↦ at p (16 ∷ []) | some σ' ↦ at p (itself wrongs keep σ x (mark b)) ++ faults wrongs keep (suc p) σ' y s ])
    go none ih = one_known p 16 (omega arith) (omega arith) (omega arith)
    go (some σ') ih =
        both_known (at p (itself wrongs keep σ x (mark b))) (faults wrongs keep (suc p) σ' y s) (itself_known p σ x (mark b) (omega arith)) (ih σ')

pub fault_known : (s : List ℕ) {f : Refusal} → Memᴰ f (faults_of s) → (16 ≤ f.number) × (f.number ≤ 20) × (f.place ≤ length s)
fault_known s {f} m = let k = all_known {q = length s} s 0 start nothing (omega arith) f m in (k.least, k.most, k.place)

-- ---- the first

above : {q : ℕ} {fs : List Refusal} {g : Refusal} → Rising q fs → Memᴰ g fs → q ≤ rank g
above (also q f l x) (Memᴰ.head e) = rw e l
above (also q f l x) (Memᴰ.tail m) = let h = above x m in omega arith
above done l = elim l [ ]

-- Ranks are by place, then by number.
by_rank : {q : ℕ} {f g : Refusal} → Known q f → Known q g → rank f ≤ rank g → (f.place < g.place) ⊎ ((f.place ≡ g.place) × (f.number ≤ g.number))
by_rank {q} {f} {g} h k l = go (dec_lt f.place g.place)
  where
    go : Dec (f.place < g.place) → (f.place < g.place) ⊎ ((f.place ≡ g.place) × (f.number ≤ g.number))
    go (yes e) = inl e
    go (no e) = inr (omega (arith, h.most, k.most), omega (arith, h.most, k.most))

pub refused_first : (s : List ℕ) {r p : ℕ} → outcome s ≡ refused r p → FirstOf (faults_of s) (record { number = r; place = p })
refused_first s {r} {p} e = go (faults_of s) (refuses s).0 (refuses s).1 (all_known {q = length s} s 0 start nothing (omega arith))
  where
    go : (fs : List Refusal) → First fs (outcome s) → Rising 0 fs → AllKnown (length s) fs → FirstOf fs (record { number = r; place = p })
    go [] (ts, y, h) x k = let z : ◌≡◌ {A = ℕ} 0 1 = cc in absurd (omega arith)
    go (f ∷ fs) h (also q g l x) k =
        let z : ◌≡◌ {A = Verdict Tally} (refused f.number f.place) (refused r p) = sym h ∙ e in
        let number : f.number ≡ r = cc in
        let place : f.place ≡ p = cc in
        subst (FirstOf (f ∷ fs)) (λ i. record { number = number i; place = place i }) (record {
          one = Memᴰ.head refl;
          first = λ g m. by_rank (k f (Memᴰ.head refl)) (k g m) (least m);
        })
      where
        least : {g : Refusal} → Memᴰ g (f ∷ fs) → rank f ≤ rank g
        least (Memᴰ.head i) = rw i (omega arith)
        least (Memᴰ.tail m) = let h = above x m in omega arith

pub refused_known : (s : List ℕ) {r p : ℕ} → outcome s ≡ refused r p → (16 ≤ r) × (r ≤ 20) × (p ≤ length s)
refused_known s e = fault_known s (refused_first s e).one
