-- Only one tree shows a group (`only`): an answer and a name list have one text.
use mathlib.Core.Path.{◌≡◌, sym, ap, ◌∙◌, subst}
use mathlib.Core.Logic.{inl}
use mathlib.Core.List.{List, Memᴰ}
use Prim.Native.Nat.{ℕ, zero, suc, ◌^◌, ◌≤◌, ◌<◌}
use native.Mathlib.Decide.{dec_lt}
use native.Mathlib.Omega.{arith}
use Rattle.taxa.specs.Sets.{◌⊆◌, ◌∪◌, ◌∖◌, count}
use Rattle.taxa.proofs.Members.{in∪, in∖, ext, ⊆-refl, ⊆-trans, in_pow, pow_in}
use Rattle.grammar.specs.Trees.{Tree, Trees, leaf, inner, one, then}
use Rattle.grammar.specs.Columns.{Bytes}
use Rattle.clades.specs.Shows.{Groups, Lowest, Part, Shows, taxon, group, Row, first, next}
use Rattle.clades.proofs.Parts.{part_in}
use Rattle.clades.proofs.Drawing.{alone}
use Rattle.clades.proofs.Drawn.{part_<}

-- How many trees there are.
size : Trees → ℕ
size (one t) = 1
size (then ts t) = suc (size ts)

some : (ts : Trees) → 0 < size ts
unfolding size
some (one t) = omega arith
some (then ts t) = omega arith

lowest_only : {R i j : ℕ} → Lowest R i → Lowest R j → i ≡ j
lowest_only x y = omega (arith, x.least y.member, y.least x.member)

module _ {gs : List ℕ} (gr : Groups gs) where
  part_only : {S i P Q : ℕ} → Part gs S i P → Part gs S i Q → P ≡ Q
  part_only p q = ext (part_in gr.laminar p q p.member q.member) (part_in gr.laminar q p q.member p.member)

  -- The same place has the same part.
  next_part : {S R i j P Q : ℕ} → Lowest R i → Lowest R j → Part gs S i P → Part gs S j Q → P ≡ Q
  next_part {S} {Q = Q} o o' p q = part_only p (subst (λ (l : ℕ). Part gs S l Q) (lowest_only o' o) q)

  module _ {name : ℕ → Bytes} {S : ℕ} (g : Memᴰ S gs)
      (ih : (P : ℕ) (t u : Tree) → count 64 P < count 64 S → Shows name gs P t → Shows name gs P u → t ≡ u) where
    tree_same : {R i j P Q : ℕ} {t u : Tree} → Lowest R i → Lowest R j → Part gs S i P → Part gs S j Q → Shows name gs P t → Shows name gs Q u → t ≡ u
    tree_same {P = P} {t = t} {u = u} o o' p q h k = ih P t u (part_< gr g p) h (subst (λ (X : ℕ). Shows name gs X u) (sym (next_part o o' p q)) k)

    row_same : {D E : ℕ} {ts us : Trees} → Row name gs S D ts → Row name gs S E us → size ts ≡ size us → (D ≡ E) × (ts ≡ us)
    unfolding size
    row_same (first o p h) (first o' q k) e = (next_part o o' p q, ap one (tree_same o o' p q h k))
    row_same (first o p h) (next {ts = us} r o' q k f) e = absurd (omega (arith, some us))
    row_same (next {ts = ts} r o p h f) (first o' q k) e = absurd (omega (arith, some ts))
    row_same (next {D = D} {E = E} {P = P} {ts = ts} {t = t} r o p h f) (next {D = D'} {E = E'} {P = P'} {i = j} {ts = us} {t = u} r' o' q k f') e =
        go (row_same r r' (omega arith))
      where
        go : (D ≡ D') × (ts ≡ us) → (E ≡ E') × (then ts t ≡ then us u)
        go (a, b) =
            let w : Lowest (S ∖ D) j = rw a o' in
            let c = next_part o w p q in let d = tree_same o w p q h k in (cc, cc)

    -- A longer row shows all that one part more shows.
    covers : {D E i P : ℕ} {ts us : Trees} → Row name gs S D ts → Lowest (S ∖ D) i → Part gs S i P → Row name gs S E us → size ts < size us → D ∪ P ⊆ E
    unfolding size
    covers {ts = ts} r o p (first o' q k) l = absurd (omega (arith, some ts))
    covers {D} {E} {i} {P} {ts} r o p (next {D = D'} {P = Q} {i = j} {ts = us} r' o' q k f) l = go (dec_lt (size ts) (size us)) (λ m. covers r o p r' m)
      where
        same : (D ≡ D') × (ts ≡ us) → D ∪ P ⊆ E
        same (a, b) =
            let w : Lowest (S ∖ D) j = rw a o' in
            let c = next_part o w p q in
            let d : D ∪ P ≡ E = cc in rw d (⊆-refl E)

        go : Dec (size ts < size us) → (size ts < size us → D ∪ P ⊆ D') → D ∪ P ⊆ E
        go (yes m) h = ⊆-trans (h m) (record { sub = λ x. rw f ((in∪ D' Q).1 (inl x)) })
        go (no m) h = same (row_same r r' (omega arith))

    -- A row that is not all of S is no longer.
    no_longer : {D E i j P : ℕ} {ts us : Trees} → Row name gs S D ts → Lowest (S ∖ D) i → Part gs S i P → D ∪ P ≡ S
        → Row name gs S E us → Lowest (S ∖ E) j → size us ≤ size ts
    no_longer {D} {E} {P = P} {ts = ts} {us = us} r o p e q o' = go (dec_lt (size ts) (size us))
      where
        go : Dec (size ts < size us) → size us ≤ size ts
        go (yes m) = let (a, b) = (in∖ S E).0 o'.member in absurd (b ((covers r o p q m).sub (rw e a)))
        go (no m) = omega arith

    group_same : {D E i j P Q : ℕ} {ts us : Trees} {t u : Tree} → Row name gs S D ts → Lowest (S ∖ D) i → Part gs S i P → Shows name gs P t → D ∪ P ≡ S
        → Row name gs S E us → Lowest (S ∖ E) j → Part gs S j Q → Shows name gs Q u → E ∪ Q ≡ S → inner ts t ≡ inner us u
    group_same {D} {E} {i} {j} r o p h e r' o' q k f =
        let (a, b) = row_same r r' (omega (arith, no_longer r o p e r' o', no_longer r' o' q f r o)) in
        let w : Lowest (S ∖ D) j = rw a o' in
        let d = tree_same o w p q h k in cc

  -- A taxon alone is no group.
  not_alone : {S : ℕ} (i : ℕ) → Memᴰ S gs → S ≡ 2 ^ i → ⊥
  not_alone i g e = omega (arith, gr.two g, alone i e (gr.fits g))

  module _ {name : ℕ → Bytes} where
    step : {S : ℕ} {t u : Tree} → ((P : ℕ) (t u : Tree) → count 64 P < count 64 S → Shows name gs P t → Shows name gs P u → t ≡ u)
        → Shows name gs S t → Shows name gs S u → t ≡ u
    step ih (taxon i e a) (taxon j e' b) = let c : j ≡ i = pow_in i (rw (← e, e') (in_pow j)) in ap leaf (a ∙ ap name (sym c) ∙ sym b)
    step ih (taxon i e a) (group g r o p h k) = absurd (not_alone i g e)
    step ih (group g r o p h k) (taxon i e a) = absurd (not_alone i g e)
    step ih (group g r o p h e) (group g' r' o' q k e') = group_same g ih r o p h e r' o' q k e'

    same : (f S : ℕ) (t u : Tree) → count 64 S ≤ f → Shows name gs S t → Shows name gs S u → t ≡ u
    same zero S t u l x y = step (λ P t u m h k. absurd (omega arith)) x y
    same (suc f) S t u l x y = step (λ P t u m h k. same f P t u (omega arith) h k) x y

    pub only : {S : ℕ} {t u : Tree} → Shows name gs S t → Shows name gs S u → t ≡ u
    only {S} {t} {u} x y = same (count 64 S) S t u (omega arith) x y
