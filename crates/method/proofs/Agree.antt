-- Columns between which the method sees no difference: what it adds up over the ones comes to the same over the others, so it splits both alike, and what
-- was alike is flipped alike (`build_agrees`).
use mathlib.Core.Path.{◌≡◌, refl, sym, ap, ap₂, ◌∙◌, fun_ext, subst}
use mathlib.Core.Bool.{Bool, true, false, ◌&&◌, cond}
use mathlib.Core.Logic.{◌↔◌, by_cases}
use mathlib.Core.List.{List, [], ◌∷◌, ◌++◌}
use Prim.Native.Nat.{ℕ, zero, suc, ◌+◌, ◌*◌, ◌^◌, min}
use native.Mathlib.Decide.{ℕ_discrete}
use native.Mathlib.Omega.{arith}
use lib.Dec.{ltb, leb, eqb}
use borrow.Author.Tests.{eq-eqb, ne_eqb}
use Rattle.taxa.specs.Sum.{sum}
use Rattle.taxa.specs.Sets.{has, ◌∩◌, ◌∖◌, within, mass, count, low}
use Rattle.method.specs.Split.{Column, raise, lower, least, division, share, division_cost, key, side, split_cost}
use Rattle.method.specs.Split.{flip, flipped, after, apart, part, parts_of, parts, split_parts}
use Rattle.method.specs.Tree.{Group, Walk, leaf, walked, node, grown, build}
use Rattle.method.specs.Merging.{Alike, together}
use Rattle.method.proofs.Entries.{flip_weight}

-- ---- one column

pub alike_sym : {c d : Column} → Alike c d → Alike d c
alike_sym e = record { ones = sym e.ones; zeros = sym e.zeros }

-- What is merged is alike to the first.
pub merged_alike : (c d : Column) → Alike (together c d) c
merged_alike c d = record { ones = refl; zeros = refl }

-- A column with another weight.
abbrev reweighed : ℕ → Column → Column
reweighed w c = record { weight = w; ones = c.ones; zeros = c.zeros }

module _ (k : ℕ) (μ : ℕ → ℕ) (S A : ℕ) where
  share_alike : {c d : Column} → Alike c d → share k μ S A c ≡ share k μ S A d
  unfolding share
  share_alike e = rw (e.ones, e.zeros)

  -- Flips go by the sets and leave the weight.
  flip_reweighed : (w : ℕ) (c : Column) → flip k μ S A (reweighed w c) ≡ reweighed w (flip k μ S A c)
  unfolding flip raise lower
  flip_reweighed w c =
      let a = mass k μ (c.ones ∩ A) in
      let b = mass k μ (c.ones ∩ (S ∖ A)) in
      go (leb (mass k μ (c.zeros ∩ S)) (min a b)) (leb a b)
    where
      by : Bool → Bool → Column → Column
      by p q x = cond p (raise S x) (cond q (lower A x) (lower (S ∖ A) x))

      go : (p q : Bool) → by p q (reweighed w c) ≡ reweighed w (by p q c)
      go true q = refl
      go false true = refl
      go false false = refl

  -- So columns that are alike stay so, and merged columns flip as one.
  flip_alike : {c d : Column} → Alike c d → Alike (flip k μ S A c) (flip k μ S A d)
  flip_alike {c} {d} e = record { ones = sym (ap (λ (x : Column). x.ones) same); zeros = sym (ap (λ (x : Column). x.zeros) same) }
    where
      same : flip k μ S A d ≡ reweighed d.weight (flip k μ S A c)
      same =
          ap₂ (λ (o z : ℕ). flip k μ S A (record { weight = d.weight; ones = o; zeros = z })) (sym e.ones) (sym e.zeros)
          ∙ flip_reweighed d.weight c

  flip_together : (c d : Column) → flip k μ S A (together c d) ≡ together (flip k μ S A c) (flip k μ S A d)
  flip_together c d = simp flip_weight (flip_reweighed (together c d).weight c)

-- ---- columns that agree

-- What adds up where two columns are merged, and what all columns that are alike share.
abbrev pub Adds : (Column → ℕ) → Type 0
Adds q = (c d : Column) → Alike c d → q (together c d) ≡ q c + q d

abbrev pub Shared : (Column → ℕ) → Type 0
Shared q = (c d : Column) → Alike c d → q c ≡ q d

-- Two numbers of which both are 0 or neither is.
both_0 : (a b : ℕ) → (a ≡ 0) ↔ (b ≡ 0) → eqb a 0 ≡ eqb b 0
both_0 a b e =
    by_cases (ℕ_discrete a 0) (λ z. eq-eqb a 0 z ∙ sym (eq-eqb b 0 (e.0 z))) (λ s. ne_eqb a 0 s ∙ sym (ne_eqb b 0 (λ z. s (e.1 z))))

module _ (m m' : ℕ) (old old' : ℕ → Column) where
  -- m columns agree with m' others: what adds up comes to the same, what is shared is 0 in all of the ones where it is in all of the others, and those
  -- that were alike are alike.
  pub record Agree (cols cols' : ℕ → Column) : Type 0 where
    pub sums : (q : Column → ℕ) → Adds q → sum m (λ c. q (cols c)) ≡ sum m' (λ c. q (cols' c))
    pub none : (q : Column → ℕ) → Shared q → (sum m (λ c. q (cols c)) ≡ 0) ↔ (sum m' (λ c. q (cols' c)) ≡ 0)
    pub alike : {c c' : ℕ} → Alike (old c) (old' c') → Alike (cols c) (cols' c')

  module _ (k : ℕ) (μ : ℕ → ℕ) where
    -- ---- one split

    module _ {cols cols' : ℕ → Column} (agree : Agree cols cols') (S : ℕ) where
      cost_agrees : (A : ℕ) → division_cost k μ m cols S A ≡ division_cost k μ m' cols' S A
      unfolding division_cost
      cost_agrees A = agree.sums (λ c. c.weight * share k μ S A c) adds
        where
          adds : Adds (λ c. c.weight * share k μ S A c)
          adds c d e =
              omega (
                arith,
                ap (λ (n : ℕ). (together c d).weight * n) (share_alike k μ S A (merged_alike c d)),
                ap (λ (n : ℕ). d.weight * n) (share_alike k μ S A e),
              )

      key_agrees : (A : ℕ) → key k μ m cols S A ≡ key k μ m' cols' S A
      unfolding key
      key_agrees A = rw (cost_agrees A)

      side_agrees : side k μ m cols S ≡ side k μ m' cols' S
      unfolding side
      side_agrees = ap (λ (f : ℕ → ℕ). least (division k S) f (2 ^ low k S) S) (fun_ext key_agrees)

      split_agrees : split_cost k μ m cols S ≡ split_cost k μ m' cols' S
      split_agrees = ap (division_cost k μ m cols S) side_agrees ∙ cost_agrees (side k μ m' cols' S)

      flipped_agree : (A : ℕ) → Agree (flipped k μ m cols S A) (flipped k μ m' cols' S A)
      unfolding flipped
      flipped_agree A = record {
        sums = λ q adds. agree.sums (λ c. q (φ c)) (λ c d e. ap q (flip_together k μ S A c d) ∙ adds (φ c) (φ d) (flip_alike k μ S A e));
        none = λ q shared. agree.none (λ c. q (φ c)) (λ c d e. shared (φ c) (φ d) (flip_alike k μ S A e));
        alike = λ e. flip_alike k μ S A (agree.alike e);
      }
        where
          φ : Column → Column
          φ = flip k μ S A

      after_agrees : Agree (after k μ m cols S) (after k μ m' cols' S)
      after_agrees = subst (λ (A : ℕ). Agree (after k μ m cols S) (flipped k μ m' cols' S A)) side_agrees (flipped_agree (side k μ m cols S))

      -- ---- its parts

      apart_agrees : (A : ℕ) → apart k μ m cols S A ≡ apart k μ m' cols' S A
      unfolding apart
      apart_agrees A = both_0 _ _ (agree.none (share k μ S A) (λ c d. share_alike k μ S A))

      part_agrees : (i : ℕ) → part k μ m cols S i ≡ part k μ m' cols' S i
      unfolding part
      part_agrees i = ap (λ (ok : ℕ → Bool). least (λ A. within A S && has A i && ok A) (λ A. A) S S) (fun_ext apart_agrees)

      parts_agree : (f R : ℕ) → parts_of k μ m cols S f R ≡ parts_of k μ m' cols' S f R
      unfolding parts_of
      parts_agree zero R = refl
      parts_agree (suc f) zero = refl
      parts_agree (suc f) (suc r) =
          let e = part_agrees (low k (suc r)) in
          ap₂ (λ (P : ℕ) (Ps : List ℕ). P ∷ Ps) e
          (ap (λ (P : ℕ). parts_of k μ m cols S f (suc r ∖ P)) e ∙ parts_agree f (suc r ∖ part k μ m' cols' S (low k (suc r))))

    -- ---- the build

    -- Two walks that come to the same groups, and leave columns that agree.
    abbrev pub WalkAlike : Walk → Walk → Type 0
    WalkAlike w w' = (w.groups ≡ w'.groups) × Agree w.columns w'.columns

    -- Walks from columns that agree are so.
    abbrev Steps : ((ℕ → Column) → ℕ → Walk) → ((ℕ → Column) → ℕ → Walk) → Type 0
    Steps g g' = (cols cols' : ℕ → Column) → Agree cols cols' → (S : ℕ) → WalkAlike (g cols S) (g' cols' S)

    walked_agrees : (g g' : (ℕ → Column) → ℕ → Walk) → Steps g g' → (Ps : List ℕ) (cols cols' : ℕ → Column) → Agree cols cols'
        → WalkAlike (walked g cols Ps) (walked g' cols' Ps)
    unfolding walked
    walked_agrees g g' steps [] cols cols' agree = (refl, agree)
    walked_agrees g g' steps (P ∷ Ps) cols cols' agree =
        let (e, mid) = steps cols cols' agree P in
        let (f, end) = walked_agrees g g' steps Ps (g cols P).columns (g' cols' P).columns mid in
        (ap₂ (λ (gs hs : List Group). gs ++ hs) e f, end)

    node_agrees : (g g' : (ℕ → Column) → ℕ → Walk) → Steps g g' → Steps (node k μ m g) (node k μ m' g')
    unfolding node parts
    node_agrees g g' steps cols cols' agree S =
        let new = after_agrees agree S in
        let old-parts = split_parts k μ m cols S in
        let (e, end) =
        subst (λ (Ps : List ℕ). WalkAlike (walked g (after k μ m cols S) old-parts) (walked g' (after k μ m' cols' S) Ps)) (parts_agree new S k S)
        (walked_agrees g g' steps old-parts (after k μ m cols S) (after k μ m' cols' S) new) in
        (ap₂ (λ (n : ℕ) (gs : List Group). record { taxa = S; cost = n } ∷ gs) (split_agrees agree S) e, end)

    grown_agrees : (f : ℕ) → Steps (grown k μ m f) (grown k μ m' f)
    unfolding grown
    grown_agrees zero cols cols' agree S = (refl, agree)
    grown_agrees (suc f) cols cols' agree S = go (ltb 1 (count k S)) (node_agrees (grown k μ m f) (grown k μ m' f) (grown_agrees f) cols cols' agree S)
      where
        one : Walk
        one = node k μ m (grown k μ m f) cols S

        other : Walk
        other = node k μ m' (grown k μ m' f) cols' S

        go : (b : Bool) → WalkAlike one other → WalkAlike (elim b [ false ↦ leaf cols | true ↦ one ]) (elim b [ false ↦ leaf cols' | true ↦ other ])
        go false ih = (refl, agree)
        go true ih = ih

    pub build_agrees : {cols cols' : ℕ → Column} → Agree cols cols' → (S : ℕ) → WalkAlike (build k μ m cols S) (build k μ m' cols' S)
    unfolding build
    build_agrees {cols} {cols'} agree S = grown_agrees (count k S) cols cols' agree S
