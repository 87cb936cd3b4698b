-- The build flips nothing exactly where some rooted tree fits the columns (`fits_free`, `free_fits`).
use mathlib.Core.Path.{◌≡◌, refl, sym, ap, ◌∙◌, subst}
use mathlib.Core.Bool.{Bool, true, false, true≢false}
use mathlib.Core.Logic.{◌⊎◌, inl, inr, ⊎_elim}
use mathlib.Core.List.{List, Memᴰ}
use Prim.Native.Nat.{ℕ, zero, suc, ◌*◌, ◌^◌, ◌≤◌, ◌<◌}
use native.Mathlib.Nat.{eq-or-lt_of_le, le_of_suc-le-suc, mul-zero}
use native.Mathlib.Decide.{dec_lt}
use native.Mathlib.Omega.{arith}
use Rattle.taxa.specs.Sets.{◌∈◌, ◌∉◌, ◌⊆◌, Disjoint, ◌∩◌, ◌∖◌, within, mass, Positive, count, low}
use Rattle.taxa.specs.Groups.{NestedOrDisjoint}
use Rattle.taxa.proofs.Groups.{pair_sym}
use Rattle.taxa.proofs.Sums.{sum_none}
use Rattle.taxa.proofs.Members.{none as nothing, in∩, in∖, empty as all_out, ⊆-refl, ⊆-trans, ∩-⊆, ∩-⊆ʳ, within_⊆}
use Rattle.taxa.proofs.Masses.{mass_none}
use Rattle.method.specs.Split.{Column, Same, share, Division, division_cost, split_cost, after, split_parts}
use Rattle.method.specs.Tree.{Walk, walked, total, node, build, Clade, Fills, Laminar, Fits}
use Rattle.method.proofs.Flips.{Proper}
use Rattle.method.proofs.Parts.{Parts, done, next, inside_R}
use Rattle.method.proofs.Listing.{side_best, alone}
use Rattle.method.proofs.Entries.{same_sym, Heavy, heavy_as}
use Rattle.method.proofs.Splits.{split_parts_lem, part_in, after_weight, after_same}
use Rattle.method.proofs.Depth.{build_ind}
use Rattle.method.proofs.Walks.{total_++, build_tame}
use Rattle.method.proofs.Filling.{fills_same, fills_⊆, filled}
use Rattle.method.proofs.Clades.{single_in}

-- ---- families that fit the columns in X: each column can be filled so that its 1s in X are those of a member

abbrev Fitted : (ℕ → Type 0) → ℕ → ℕ → (ℕ → Column) → Type 0
Fitted family m X cols = (c : ℕ) → c < m → (F : ℕ) × family F × Fills X (cols c) F

fitted_⊆ : {family : ℕ → Type 0} {m X Y : ℕ} {cols : ℕ → Column} → X ⊆ Y → Fitted family m Y cols → Fitted family m X cols
fitted_⊆ s f c b = let (F, g, h) = f c b in (F, g, fills_⊆ s h)

fitted_same : {family : ℕ → Type 0} {m X : ℕ} {cols mid : ℕ → Column} → ((c i : ℕ) → c < m → Same (cols c) (mid c) i) → Fitted family m X cols → Fitted family m X mid
fitted_same e f c b = let (F, g, h) = f c b in (F, g, fills_same (λ i x. e c i b) h)

-- The clades of a tree and the empty set.
abbrev OrEmpty : (ℕ → Type 0) → ℕ → Type 0
OrEmpty clade F = F ≡ 0 ⊎ clade F

or_empty : {clade : ℕ → Type 0} → Laminar clade → Laminar (OrEmpty clade)
or_empty {clade} t = record { pair = go }
  where
    nothing_in : {X Y : ℕ} → X ≡ 0 → NestedOrDisjoint X Y
    nothing_in e = inl (record { sub = λ {i} h. absurd (nothing (subst (λ (Z : ℕ). i ∈ Z) e h)) })

    go : {X Y : ℕ} → OrEmpty clade X → OrEmpty clade Y → NestedOrDisjoint X Y
    go (inl e) q = nothing_in e
    go (inr p) (inl e) = pair_sym (nothing_in e)
    go (inr p) (inr q) = t.pair p q

-- One member for each column.
record Chosen (family : ℕ → Type 0) (m : ℕ) (X : ℕ) (cols : ℕ → Column) : Type 0 where
  pick : ℕ → ℕ
  clade : (c : ℕ) → c < m → family (pick c)
  fills : (c : ℕ) → c < m → Fills X (cols c) (pick c)

choose : {family : ℕ → Type 0} {m X : ℕ} {cols : ℕ → Column} → Fitted family m X cols → Chosen family m X cols
choose {family} {m} {X} {cols} f = record { pick = λ c. pick c (dec_lt c m); clade = λ c b. (good c b (dec_lt c m)).0; fills = λ c b. (good c b (dec_lt c m)).1 }
  where
    pick : (c : ℕ) → Dec (c < m) → ℕ
    pick c (yes b) = (f c b).0
    pick c (no n) = 0

    good : (c : ℕ) → c < m → (d : Dec (c < m)) → family (pick c d) × Fills X (cols c) (pick c d)
    good c b (yes b') = let (F, g, h) = f c b' in (g, h)
    good c b (no n) = absurd (n b)

-- ---- a fitting family has a division that costs nothing

module _ (k : ℕ) (μ : ℕ → ℕ) (m : ℕ) {family : ℕ → Type 0} (lam : Laminar family) (cols : ℕ → Column) (S : ℕ) (fits : S < 2 ^ k) (two : 1 < count k S) (fit : Chosen family m S cols) where
  -- The member G does not lie across A: it has all of S, or has of S only what is in A, or nothing of A.
  abbrev Clear : ℕ → ℕ → Type 0
  Clear A G = S ⊆ G ⊎ (G ∩ S ⊆ A ⊎ Disjoint A G)

  -- A division that no member cuts and across which none of the first c columns' members lies.
  record Free (c A : ℕ) : Type 0 where
    division : Division k S A
    uncut : {G : ℕ} → family G → A ⊆ G ⊎ (G ∩ S ⊆ A ⊎ Disjoint A G)
    clear : (d : ℕ) → d < c → Clear A (fit.pick d)

  start : Free 0 (2 ^ low k S)
  start = record { division = alone k μ m cols S fits two; uncut = λ {G} g. ⊎_elim inl (λ o. inr (inr o)) (single_in (low k S) G); clear = λ d l. absurd (omega arith) }

  -- One column more: its member takes the place of A where it has all of A and not all of S.
  more : (c : ℕ) → c < m → {A : ℕ} → Free c A → (B : ℕ) × Free (suc c) B
  more c b {A} f = go (within S G) refl (f.uncut (fit.clade c b))
    where
      G : ℕ
      G = fit.pick c

      -- What holds up to c, and at c.
      upto : {B : ℕ} → ((d : ℕ) → d < c → Clear B (fit.pick d)) → Clear B G → (d : ℕ) → d < suc c → Clear B (fit.pick d)
      upto {B} h l d b = ⊎_elim (λ e. subst (λ (a : ℕ). Clear B (fit.pick a)) (sym e) l) (h d) (eq-or-lt_of_le (le_of_suc-le-suc b))

      keep : Clear A G → (B : ℕ) × Free (suc c) B
      keep h = (A, record { division = f.division; uncut = f.uncut; clear = upto f.clear h })

      grow : A ⊆ G → (S ⊆ G → ⊥) → (B : ℕ) × Free (suc c) B
      grow a n = (G ∩ S, record { division = division; uncut = λ g. uncut (lam.pair (fit.clade c b) g); clear = upto clear (inr (inl (⊆-refl (G ∩ S)))) })
        where
          cut : {H : ℕ} → H ⊆ G → H ∩ S ⊆ G ∩ S
          cut {H} s = record { sub = λ h. let (x, y) = (in∩ H S).0 h in (in∩ G S).1 (s.sub x, y) }

          division : Division k S (G ∩ S)
          division = record {
            inside = ∩-⊆ʳ G S;
            lowest = (in∩ G S).1 (a.sub f.division.lowest, f.division.inside.sub f.division.lowest);
            proper = λ e. n (subst (λ (X : ℕ). X ⊆ G) e (∩-⊆ G S));
          }

          uncut : {H : ℕ} → NestedOrDisjoint G H → G ∩ S ⊆ H ⊎ (H ∩ S ⊆ G ∩ S ⊎ Disjoint (G ∩ S) H)
          uncut (inl s) = inl (⊆-trans (∩-⊆ G S) s)
          uncut (inr (inl s)) = inr (inl (cut s))
          uncut (inr (inr o)) = inr (inr (record { off = λ h. o.off ((∩-⊆ G S).sub h) }))

          clear : (d : ℕ) → d < c → Clear (G ∩ S) (fit.pick d)
          clear d l = go (f.clear d l) (lam.pair (fit.clade c b) (fit.clade d (omega arith)))
            where
              go : {H : ℕ} → Clear A H → NestedOrDisjoint G H → Clear (G ∩ S) H
              go (inl s) p = inl s
              go {H} (inr (inl s)) p = inr (inl (record { sub = λ h. (in∩ G S).1 (a.sub (s.sub h), (∩-⊆ʳ H S).sub h) }))
              go (inr (inr o)) (inl s) = absurd (o.off f.division.lowest (s.sub (a.sub f.division.lowest)))
              go (inr (inr o)) (inr (inl s)) = inr (inl (cut s))
              go (inr (inr o)) (inr (inr o')) = inr (inr (record { off = λ h. o'.off ((∩-⊆ G S).sub h) }))

      go : (w : Bool) → within S G ≡ w → A ⊆ G ⊎ (G ∩ S ⊆ A ⊎ Disjoint A G) → (B : ℕ) × Free (suc c) B
      go true e u = keep (inl ((within_⊆ S G).0 e))
      go false e (inl a) = grow a (λ s. true≢false (sym ((within_⊆ S G).1 s) ∙ e))
      go false e (inr u) = keep (inr u)

  find : (c : ℕ) → c ≤ m → (A : ℕ) × Free c A
  find zero l = (2 ^ low k S, start)
  find (suc c) l = more c l (find c (omega arith)).1

  -- Across it no column has ones on both sides and a zero.
  free_share : {A : ℕ} → Free m A → (c : ℕ) → c < m → share k μ S A (cols c) ≡ 0
  unfolding share
  free_share {A} f c b = go (f.clear c b)
    where
      fl : Fills S (cols c) (fit.pick c)
      fl = fit.fills c b

      none : (x X : ℕ) → ((i : ℕ) → i ∈ x → i ∉ X) → mass k μ (x ∩ X) ≡ 0
      none x X n = ap (mass k μ) (all_out (λ i h. let (a, b) = (in∩ x X).0 h in n i a b)) ∙ mass_none k μ

      go : Clear A (fit.pick c) → share k μ S A (cols c) ≡ 0
      go (inl s) = omega (arith, none (cols c).zeros S (λ i z x. fl.zeros x (s.sub x) z))
      go (inr (inl s)) = omega (arith, none (cols c).ones (S ∖ A) (λ i o x. let (y, n) = (in∖ S A).0 x in n (s.sub ((in∩ (fit.pick c) S).1 (fl.ones y o, y)))))
      go (inr (inr u)) = omega (arith, none (cols c).ones A (λ i o x. u.off x (fl.ones (f.division.inside.sub x) o)))

  -- So the least cost is 0.
  free_cost : split_cost k μ m cols S ≡ 0
  unfolding division_cost
  free_cost =
      let (A, f) = find m (omega arith) in
      let e : division_cost k μ m cols S A ≡ 0 = sum_none m (λ c b. ap (λ (n : ℕ). (cols c).weight * n) (free_share f c b) ∙ mul-zero (cols c).weight) in
      omega (arith, (side_best k μ m cols S fits two).cheapest A f.division)

-- ---- the build

module _ (k : ℕ) (μ : ℕ → ℕ) (m : ℕ) (pos : Positive μ) where
  module _ {family : ℕ → Type 0} (lam : Laminar family) where
    -- A walk of S costs nothing where the family fits.
    abbrev Free-walk : (ℕ → Column) → ℕ → Walk → Type 0
    Free-walk cols S w = Heavy m cols → Fitted family m S cols → total w.groups ≡ 0

    walked_free : {old : ℕ → Column} {S R : ℕ} {Ps : List ℕ} → Parts k μ m old S R Ps → ((P : ℕ) → Memᴰ P Ps → P < 2 ^ k)
        → ((P : ℕ) → Memᴰ P Ps → (c : ℕ → Column) → Free-walk c P (build k μ m c P))
        → (cols : ℕ → Column) → Heavy m cols → ((P : ℕ) → Memᴰ P Ps → Fitted family m P cols) → total (walked (build k μ m) cols Ps).groups ≡ 0
    unfolding walked total
    walked_free done small h cols w f = refl
    walked_free (next {P = P} {Ps = Ps} s p ps) small h cols w f =
        let a = build_tame k μ m pos cols P (small P (Memᴰ.head refl)) in
        let e = h P (Memᴰ.head refl) cols w (f P (Memᴰ.head refl)) in
        let mid = (build k μ m cols P).columns in
        let rest =
        walked_free ps (λ Q l. small Q (Memᴰ.tail l)) (λ Q l. h Q (Memᴰ.tail l)) mid (heavy_as a.weights w)
        (λ Q l. fitted_same (a.calm w e) (f Q (Memᴰ.tail l))) in
        omega (arith, total_++ (build k μ m cols P).groups (walked (build k μ m) mid Ps).groups)

    node_free : (cols : ℕ → Column) (S : ℕ) → S < 2 ^ k → 1 < count k S
        → ((P : ℕ) → Memᴰ P (split_parts k μ m cols S) → (c : ℕ → Column) → Free-walk c P (build k μ m c P)) → Free-walk cols S (node k μ m (build k μ m) cols S)
    unfolding node total
    node_free cols S fits two ih w fit =
        let cheap = free_cost k μ m lam cols S fits two (choose fit) in
        let ps = split_parts_lem k μ m cols S fits two in
        let rest =
        walked_free ps (λ P l. (part_in k μ m cols S fits two l).0) ih (after k μ m cols S) (heavy_as (after_weight k μ m cols S fits two) w)
        (λ P l. fitted_⊆ (inside_R k μ m (after k μ m cols S) S ps l) (fitted_same (after_same k μ m cols S fits two pos w cheap) fit)) in
        omega arith

    free : (cols : ℕ → Column) (S : ℕ) → S < 2 ^ k → Free-walk cols S (build k μ m cols S)
    unfolding total
    free = build_ind k μ m Free-walk (λ cols S fits few w f. refl) node_free

  -- If a rooted tree fits the columns in the group, no split costs anything,
  pub fits_free : {clade : ℕ → Type 0} → Laminar clade → (cols : ℕ → Column) (S : ℕ) → S < 2 ^ k → Heavy m cols → Fits clade m S cols → total (build k μ m cols S).groups ≡ 0
  fits_free t cols S fits w f = free (or_empty t) cols S fits w (λ c b. let (F, g, r, h) = f c b in (F, g, h))

  -- and if none does, the clades of the build fit the columns, which it leaves as they were.
  pub free_fits : (cols : ℕ → Column) (S : ℕ) → S < 2 ^ k → Heavy m cols → ((c : ℕ) → Proper (cols c))
      → total (build k μ m cols S).groups ≡ 0 → Fits (Clade S (build k μ m cols S).groups) m S cols
  free_fits cols S fits h q e c b =
      let (F, g, r, x) = filled k μ m pos cols S fits q c b in
      (F, g, r, fills_same (λ i y. same_sym ((build_tame k μ m pos cols S fits).calm h e c i b)) x)
