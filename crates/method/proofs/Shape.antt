-- The groups of a build: each inside its part, of two or more taxa, and of any two the later one is a smaller part of the earlier or shares no taxon
-- with it.
use mathlib.Core.Path.{refl, sym, ap, ◌∙◌, subst}
use mathlib.Core.Logic.{inl, inr, ⊎_elim}
use mathlib.Core.List.Memᴰ
use mathlib.Core.List.{List, [], ◌∷◌, ◌++◌, Memᴰ}
use Prim.Native.Nat.{ℕ, ◌^◌, ◌<◌}
use native.Mathlib.Omega.{arith}
use Rattle.taxa.specs.Sets.{◌⊆◌, Disjoint, count}
use Rattle.taxa.specs.Groups.{NestedOrDisjoint}
use Rattle.taxa.proofs.Groups.{pair_sym}
use Rattle.taxa.proofs.Members.{in∖, ⊆-refl, ⊆-trans}
use Rattle.taxa.proofs.Counts.{count_⊆}
use Rattle.method.specs.Split.{Column, after, split_parts}
use Rattle.method.specs.Tree.{Group, walked, node, build, Line, end, and}
use Rattle.method.proofs.Parts.{Parts, done, next, inside_R}
use Rattle.method.proofs.Splits.{split_parts_lem, part_in}
use Rattle.method.proofs.Depth.{build_ind}

-- ---- two sets, and two of a list

pub line_++ : {A : Type 0} {R : A → A → Type 0} {xs ys : List A} → Line R xs → Line R ys → ((x y : A) → Memᴰ x xs → Memᴰ y ys → R x y) → Line R (xs ++ ys)
line_++ end q h = q
line_++ (and {x} {xs} a p) q h =
    and (λ y l. ⊎_elim (a y) (h x y (Memᴰ.head refl)) (Memᴰ.append_cases xs l)) (line_++ p q (λ u v l. h u v (Memᴰ.tail l)))

pub line_map : {A : Type 0} {R Q : A → A → Type 0} {xs : List A} → ((x y : A) → Memᴰ x xs → Memᴰ y xs → R x y → Q x y) → Line R xs → Line Q xs
line_map f end = end
line_map f (and {x} a l) = and (λ y h. f x y (Memᴰ.head refl) (Memᴰ.tail h) (a y h)) (line_map (λ u v g h. f u v (Memᴰ.tail g) (Memᴰ.tail h)) l)

-- ---- the groups of a walk

module _ (k : ℕ) where
  -- Of two groups of a walk, x before y.
  pub data Ahead (x y : Group) : Type 0 where
    holds : y.taxa ⊆ x.taxa → count k y.taxa < count k x.taxa → Ahead x y
    apart : Disjoint x.taxa y.taxa → Ahead x y

  abbrev pub Lined : List Group → Type 0
  Lined = Line Ahead

  -- The groups of a walk of the sets Ps.
  pub record Shape (Ps : List ℕ) (gs : List Group) : Type 0 where
    pub inside : (g : Group) → Memᴰ g gs → (P : ℕ) × Memᴰ P Ps × g.taxa ⊆ P
    pub two : (g : Group) → Memᴰ g gs → 1 < count k g.taxa
    pub lined : Lined gs

  -- Of one set's walk.
  pub shape_in : {S : ℕ} {gs : List Group} {x : Group} → Shape (S ∷ []) gs → Memᴰ x gs → x.taxa ⊆ S
  shape_in {x = x} a h = let (P, l, s) = a.inside x h in subst (λ (X : ℕ). x.taxa ⊆ X) (Memᴰ.eq_of_singleton l) s

  no_shape : (Ps : List ℕ) → Shape Ps []
  no_shape Ps = record { inside = λ g l. absurd (Memᴰ.not-nil l); two = λ g l. absurd (Memᴰ.not-nil l); lined = end }

  module _ (μ : ℕ → ℕ) (m : ℕ) where
    walked_shape : {old : ℕ → Column} {S R : ℕ} {Ps : List ℕ} → Parts k μ m old S R Ps
        → ((P : ℕ) → Memᴰ P Ps → (cols : ℕ → Column) → Shape (P ∷ []) (build k μ m cols P).groups) → (cols : ℕ → Column) → Shape Ps (walked (build k μ m) cols Ps).groups
    unfolding walked
    walked_shape done t cols = no_shape []
    walked_shape {old} {S} (next {R} {P} {Ps} s p ps) t cols =
        join (t P (Memᴰ.head refl) cols) (walked_shape ps (λ Q l. t Q (Memᴰ.tail l)) (build k μ m cols P).columns)
      where
        gs : List Group
        gs = (build k μ m cols P).groups

        hs : List Group
        hs = (walked (build k μ m) (build k μ m cols P).columns Ps).groups

        join : Shape (P ∷ []) gs → Shape Ps hs → Shape (P ∷ Ps) (gs ++ hs)
        join a b = record {
          inside = λ x l. ⊎_elim (λ h. (P, Memᴰ.head refl, shape_in a h)) (λ h. let (Q, y, z) = b.inside x h in (Q, Memᴰ.tail y, z)) (Memᴰ.append_cases gs l);
          two = λ x l. ⊎_elim (a.two x) (b.two x) (Memᴰ.append_cases gs l);
          lined = line_++ a.lined b.lined (λ x y h l.
              let (Q, z, w) = b.inside y l in
              apart (record { off = λ i j. ((in∖ R P).0 ((inside_R k μ m old S ps z).sub (w.sub j))).1 ((shape_in a h).sub i) }));
        }

    node_shape : (cols : ℕ → Column) (S : ℕ) → S < 2 ^ k → 1 < count k S
        → ((P : ℕ) → Memᴰ P (split_parts k μ m cols S) → (c : ℕ → Column) → Shape (P ∷ []) (build k μ m c P).groups) → Shape (S ∷ []) (node k μ m (build k μ m) cols S).groups
    unfolding node
    node_shape cols S fits two t = record {
      inside = λ x l. (S, Memᴰ.head refl, ⊎_elim (λ e. subst (λ (X : ℕ). X ⊆ S) (sym (ap (λ (y : Group). y.taxa) e)) (⊆-refl S)) (λ h. (below x h).0) (Memᴰ.cases_cons l));
      two = λ x l. ⊎_elim (λ e. subst (λ (X : ℕ). 1 < count k X) (sym (ap (λ (y : Group). y.taxa) e)) two) (b.two x) (Memᴰ.cases_cons l);
      lined = and (λ y l. holds (below y l).0 (below y l).1) b.lined;
    }
      where
        ps : Parts k μ m (after k μ m cols S) S S (split_parts k μ m cols S)
        ps = split_parts_lem k μ m cols S fits two

        hs : List Group
        hs = (walked (build k μ m) (after k μ m cols S) (split_parts k μ m cols S)).groups

        b : Shape (split_parts k μ m cols S) hs
        b = walked_shape ps t (after k μ m cols S)

        below : (x : Group) → Memᴰ x hs → (x.taxa ⊆ S) × (count k x.taxa < count k S)
        below x h =
            let (P, l, s) = b.inside x h in
            (⊆-trans s (inside_R k μ m (after k μ m cols S) S ps l), omega (arith, count_⊆ k s, (part_in k μ m cols S fits two l).2))

    pub build_shape : (cols : ℕ → Column) (S : ℕ) → S < 2 ^ k → Shape (S ∷ []) (build k μ m cols S).groups
    build_shape = build_ind k μ m (λ cols S w. Shape (S ∷ []) w.groups) (λ cols S fits few. no_shape (S ∷ [])) node_shape

  -- So the groups are nested or disjoint.
  ahead_pair : {x y : Group} → Ahead x y → NestedOrDisjoint x.taxa y.taxa
  ahead_pair (holds s l) = inr (inl s)
  ahead_pair (apart o) = inr (inr o)

  pub lined_pair : {gs : List Group} {x y : Group} → Lined gs → Memᴰ x gs → Memᴰ y gs → NestedOrDisjoint x.taxa y.taxa
  lined_pair {x = x} {y = y} (and a p) (Memᴰ.head e) (Memᴰ.head f) = inl (subst (λ (z : Group). z.taxa ⊆ y.taxa) (f ∙ sym e) (⊆-refl y.taxa))
  lined_pair {x = x} {y = y} (and a p) (Memᴰ.head e) (Memᴰ.tail l) = ahead_pair (subst (λ (z : Group). Ahead z y) (sym e) (a y l))
  lined_pair {x = x} {y = y} (and a p) (Memᴰ.tail l) (Memᴰ.head f) = pair_sym (ahead_pair (subst (λ (z : Group). Ahead z x) (sym f) (a x l)))
  lined_pair (and a p) (Memᴰ.tail l) (Memᴰ.tail l') = lined_pair p l l'
  lined_pair end l _ = elim l [ ]
