-- A depth of as many as the taxa is enough: so the build of a group is its split and the build of its parts (`build_node`).
use mathlib.Core.Path.{◌≡◌, refl, sym, ap, ◌∙◌, subst}
use mathlib.Core.Bool.{Bool, true, false}
use mathlib.Core.List.{List, [], ◌∷◌, ◌++◌, Memᴰ}
use Prim.Native.Nat.{ℕ, zero, suc, ◌^◌, ◌≤◌, ◌<◌}
use mathlib.Core.Logic.{by_cases}
use native.Mathlib.Decide.{dec_lt, le_ind}
use native.Mathlib.Omega.{arith}
use lib.Dec.{ltb}
use borrow.Author.Tests.{ltb-true, ltb-false}
use Rattle.taxa.specs.Sets.{count}
use Rattle.method.specs.Split.{Column, split_cost, after, split_parts}
use Rattle.method.specs.Tree.{Walk, leaf, walked, node, grown, build}
use Rattle.method.proofs.Splits.{part_in}

walked_≡ : (g h : (ℕ → Column) → ℕ → Walk) (Ps : List ℕ) → ((P : ℕ) → Memᴰ P Ps → (cols : ℕ → Column) → g cols P ≡ h cols P) → (cols : ℕ → Column) → walked g cols Ps ≡ walked h cols Ps
unfolding walked
walked_≡ g h [] e cols = refl
walked_≡ g h (P ∷ Ps) e cols =
    ap (λ (w : Walk). record { columns = (walked g w.columns Ps).columns; groups = w.groups ++ (walked g w.columns Ps).groups }) (e P (Memᴰ.head refl) cols)
    ∙ ap (λ (w : Walk). record { columns = w.columns; groups = (h cols P).groups ++ w.groups }) (walked_≡ g h Ps (λ Q l. e Q (Memᴰ.tail l)) (h cols P).columns)

module _ (k : ℕ) (μ : ℕ → ℕ) (m : ℕ) where
  -- A property of the group's walk, by the number of its taxa.
  by_size : (Q : Walk → Type 0) (f : ℕ) (cols : ℕ → Column) (S : ℕ) → (count k S ≤ 1 → Q (leaf cols)) → (1 < count k S → Q (node k μ m (grown k μ m f) cols S)) → Q (grown k μ m (suc f) cols S)
  unfolding grown
  by_size Q f cols S few many = go (ltb 1 (count k S)) refl
    where
      go : (b : Bool) → ltb 1 (count k S) ≡ b → Q (elim b [ false ↦ leaf cols | true ↦ node k μ m (grown k μ m f) cols S ])
      go false e = few (ltb-false 1 (count k S) e)
      go true e = many (ltb-true 1 (count k S) e)

  node_≡ : {g h : (ℕ → Column) → ℕ → Walk} (cols : ℕ → Column) {S : ℕ} → S < 2 ^ k → 1 < count k S
      → ((P : ℕ) → P < 2 ^ k → count k P < count k S → (c : ℕ → Column) → g c P ≡ h c P) → node k μ m g cols S ≡ node k μ m h cols S
  unfolding node
  node_≡ {g} {h} cols {S} fits two e =
      ap (λ (w : Walk). record { columns = w.columns; groups = record { taxa = S; cost = split_cost k μ m cols S } ∷ w.groups })
      (walked_≡ g h (split_parts k μ m cols S) (λ P l. let (o, p, n) = part_in k μ m cols S fits two l in e P o n) (after k μ m cols S))

  -- One more changes nothing.
  grown_enough : (f S : ℕ) → S < 2 ^ k → count k S ≤ f → (cols : ℕ → Column) → grown k μ m (suc f) cols S ≡ grown k μ m f cols S
  unfolding grown
  grown_enough zero S fits l cols = by_size (λ w. w ≡ leaf cols) 0 cols S (λ few. refl) (λ two. absurd (omega arith))
  grown_enough (suc f) S fits l cols = go (ltb 1 (count k S)) refl (grown_enough f)
    where
      go : (b : Bool) → ltb 1 (count k S) ≡ b → ((P : ℕ) → P < 2 ^ k → count k P ≤ f → (c : ℕ → Column) → grown k μ m (suc f) c P ≡ grown k μ m f c P)
          → ◌≡◌ {A = Walk} (elim b [ false ↦ leaf cols | true ↦ node k μ m (grown k μ m (suc f)) cols S ]) (elim b [ false ↦ leaf cols | true ↦ node k μ m (grown k μ m f) cols S ])
      go false e ih = refl
      go true e ih = node_≡ cols fits (ltb-true 1 (count k S) e) (λ P o n. ih P o (omega arith))

  grown_any : (f S : ℕ) → S < 2 ^ k → count k S ≤ f → (cols : ℕ → Column) → grown k μ m f cols S ≡ grown k μ m (count k S) cols S
  grown_any f S fits l cols = le_ind (λ (n : ℕ). grown k μ m n cols S ≡ grown k μ m (count k S) cols S) refl (λ n h e. grown_enough n S fits h cols ∙ e) f l

  -- At any depth that is enough, it is the build.
  pub grown_build : (f : ℕ) {S : ℕ} → S < 2 ^ k → count k S ≤ f → (cols : ℕ → Column) → grown k μ m f cols S ≡ build k μ m cols S
  unfolding build
  grown_build f {S} fits l cols = grown_any f S fits l cols

  -- The build of one taxon changes nothing; that of a group splits it and builds its parts.
  pub build_leaf : (cols : ℕ → Column) {S : ℕ} → S < 2 ^ k → count k S ≤ 1 → build k μ m cols S ≡ leaf cols
  build_leaf cols {S} fits few = sym (grown_build 1 fits few cols) ∙ by_size (λ w. w ≡ leaf cols) 0 cols S (λ l. refl) (λ two. absurd (omega arith))

  pub build_node : (cols : ℕ → Column) {S : ℕ} → S < 2 ^ k → 1 < count k S → build k μ m cols S ≡ node k μ m (build k μ m) cols S
  build_node cols {S} fits two =
      sym (grown_build (suc (count k S)) fits (omega arith) cols)
      ∙ by_size (λ w. w ≡ node k μ m (build k μ m) cols S) (count k S) cols S (λ l. absurd (omega arith))
      (λ l. node_≡ cols fits two (λ P o n c. grown_build (count k S) o (omega arith) c))

  -- What holds of one taxon's build, and of a group's if it holds of all its parts', holds of every build.
  pub build_ind : (Q : (ℕ → Column) → ℕ → Walk → Type 0)
      → ((cols : ℕ → Column) (S : ℕ) → S < 2 ^ k → count k S ≤ 1 → Q cols S (leaf cols))
      → ((cols : ℕ → Column) (S : ℕ) (fits : S < 2 ^ k) (two : 1 < count k S)
      → ((P : ℕ) → Memᴰ P (split_parts k μ m cols S) → (c : ℕ → Column) → Q c P (build k μ m c P)) → Q cols S (node k μ m (build k μ m) cols S))
      → (cols : ℕ → Column) (S : ℕ) → S < 2 ^ k → Q cols S (build k μ m cols S)
  build_ind Q few many cols S fits = go (count k S) cols S fits (omega arith)
    where
      one : (cols : ℕ → Column) (S : ℕ) → S < 2 ^ k → count k S ≤ 1 → Q cols S (build k μ m cols S)
      one cols S fits l = subst (Q cols S) (sym (build_leaf cols fits l)) (few cols S fits l)

      go : (f : ℕ) (cols : ℕ → Column) (S : ℕ) → S < 2 ^ k → count k S ≤ f → Q cols S (build k μ m cols S)
      go zero cols S fits l = one cols S fits (omega arith)
      go (suc f) cols S fits l =
          by_cases
          (dec_lt 1 (count k S))
          (λ two. subst (Q cols S) (sym (build_node cols fits two)) (many cols S fits two (λ P x c. let (o, e, n) = part_in k μ m cols S fits two x in go f c P o (omega arith))))
          (λ n. one cols S fits (omega arith))
