-- Where each taxon stands for one, the method is what it was before C-14: so a matrix without multiplicities has the answer it had (`answer_before`).
use mathlib.Core.Path.{◌≡◌, refl, ap, ap₂, ◌∙◌, fun_ext}
use mathlib.Core.Bool.{Bool, true, false, cond}
use mathlib.Core.List.{List, [], ◌∷◌}
use Prim.Native.Nat.{ℕ, zero, suc}
use native.Mathlib.Nat.{mul-one}
use native.Mathlib.Omega.{arith}
use lib.Dec.{ltb}
use lib.ListN.{length}
use Rattle.taxa.specs.Sets.{has, ◌∖◌, unit, count, low, all, multiplicity}
use Rattle.method.specs.Split.{Column, share, division_cost, key, side, flip, flipped, after, apart, part, parts_of, parts, split_cost}
use Rattle.method.specs.Tree.{Walk, leaf, walked, node, grown, build, ordered, Flips, flip_list, total, weighed_flips, Matrix, Answer, column, answer}
use Rattle.method.specs.Flow.{joined, cap, through}
use Rattle.method.specs.Counted as old

module _ (k : ℕ) where
  -- ---- what weighs

  pub share_before : (S A : ℕ) (c : Column) → share k unit S A c ≡ old.share k S A c
  unfolding share old.share count
  share_before S A c = refl

  pub flip_before : (S A : ℕ) (c : Column) → flip k unit S A c ≡ old.flip k S A c
  unfolding flip old.flip count
  flip_before S A c = refl

  pub cap_before : (S : ℕ) (c : Column) (i : ℕ) → cap k unit S c i ≡ old.cap k S c i
  unfolding cap old.cap
  cap_before S c i = ap (λ (n : ℕ). cond (has (joined k S c) i) n 0) (mul-one c.weight)

  pub through_before : (S : ℕ) (c : Column) → through k unit S c ≡ old.through k S c
  unfolding through old.through count
  through_before S c = refl

  pub weighed_before : (cols : ℕ → Column) (fs : List Flips) → weighed_flips k unit cols fs ≡ old.weighed_flips k cols fs
  unfolding weighed_flips old.weighed_flips count
  weighed_before cols [] = refl
  weighed_before cols (f ∷ fs) = omega (arith, weighed_before cols fs)

  module _ (m : ℕ) where
    -- ---- one split

    pub side_before : (cols : ℕ → Column) (S : ℕ) → side k unit m cols S ≡ old.side k m cols S
    unfolding side key division_cost share old.side old.key old.division_cost old.share count
    side_before cols S = refl

    pub cost_before : (cols : ℕ → Column) (S : ℕ) → split_cost k unit m cols S ≡ old.division_cost k m cols S (old.side k m cols S)
    unfolding division_cost share old.division_cost old.share count
    cost_before cols S = ap (division_cost k unit m cols S) (side_before cols S)

    pub after_before : (cols : ℕ → Column) (S c : ℕ) → after k unit m cols S c ≡ old.after k m cols S c
    unfolding flipped flip old.after old.flip count
    after_before cols S c = ap (λ (A : ℕ). flip k unit S A (cols c)) (side_before cols S)

    part_before : (cols : ℕ → Column) (S i : ℕ) → part k unit m cols S i ≡ old.part k m cols S i
    unfolding part apart share old.part old.apart old.share count
    part_before cols S i = refl

    parts_before : (cols : ℕ → Column) (S f R : ℕ) → parts_of k unit m cols S f R ≡ old.parts_of k m cols S f R
    unfolding parts_of old.parts_of
    parts_before cols S zero R = refl
    parts_before cols S (suc f) zero = refl
    parts_before cols S (suc f) (suc r) =
        let e = part_before cols S (low k (suc r)) in
        ap₂ (λ (P : ℕ) (Ps : List ℕ). P ∷ Ps) e (parts_before cols S f (suc r ∖ part k unit m cols S (low k (suc r))) ∙ ap (λ (P : ℕ). old.parts_of k m cols S f (suc r ∖ P)) e)

    -- ---- the build

    node_before : (g : (ℕ → Column) → ℕ → Walk) (cols : ℕ → Column) (S : ℕ) → node k unit m g cols S ≡ old.node k m g cols S
    unfolding node old.node parts
    node_before g cols S =
        let e : after k unit m cols S ≡ old.after k m cols S = fun_ext (after_before cols S) in
        ap₂ put (cost_before cols S)
        (ap₂ (walked g) e (parts_before (after k unit m cols S) S k S ∙ ap (λ (x : ℕ → Column). old.parts_of k m x S k S) e))
      where
        put : ℕ → Walk → Walk
        put n w = record { columns = w.columns; groups = record { taxa = S; cost = n } ∷ w.groups }

    pub grown_before : (f : ℕ) (cols : ℕ → Column) (S : ℕ) → grown k unit m f cols S ≡ old.grown k m f cols S
    unfolding grown old.grown
    grown_before zero cols S = refl
    grown_before (suc f) cols S = go (ltb 1 (count k S)) (fun_ext (λ c. fun_ext (grown_before f c)))
      where
        go : (b : Bool) → grown k unit m f ≡ old.grown k m f
            → ◌≡◌ {A = Walk} (elim b [ false ↦ leaf cols | true ↦ node k unit m (grown k unit m f) cols S ]) (elim b [ false ↦ leaf cols | true ↦ old.node k m (old.grown k m f) cols S ])
        go false e = refl
        go true e = ap (λ (g : (ℕ → Column) → ℕ → Walk). node k unit m g cols S) e ∙ node_before (old.grown k m f) cols S

-- ---- the answer

pub answer_before : (M : Matrix) → ((i : ℕ) → multiplicity M.multiplicities i ≡ 1) → answer M ≡ old.answer M.taxa M.columns
unfolding answer build old.answer
answer_before M each =
    ap says (ap (λ (μ : ℕ → ℕ). build 64 μ m cols (all n)) (fun_ext each) ∙ grown_before 64 m (count 64 (all n)) cols (all n))
  where
    n : ℕ
    n = M.taxa

    m : ℕ
    m = length M.columns

    cols : ℕ → Column
    cols = column M.columns

    says : Walk → Answer
    says w = record { groups = ordered 64 n w.groups; flips = flip_list m cols w.columns; total = total (ordered 64 n w.groups) }

-- "where it's absent, all are 1".
pub answer_absent : (n : ℕ) (cs : List Column) → answer (record { taxa = n; multiplicities = []; columns = cs }) ≡ old.answer n cs
unfolding multiplicity
answer_absent n cs = answer_before (record { taxa = n; multiplicities = []; columns = cs }) (λ i. refl)
