-- After the build each column can be filled: its unknowns can be chosen so that its 1s make the empty set or a clade (`filled`).
use mathlib.Core.Path.{◌≡◌, refl, sym, subst}
use mathlib.Core.Logic.{◌⊎◌, inl, inr, ⊎_elim}
use mathlib.Core.List.Memᴰ
use mathlib.Core.List.{List, Memᴰ}
use Prim.Native.Nat.{ℕ, ◌^◌, ◌≤◌, ◌<◌}
use native.Mathlib.Decide.{dec_lt, ℕ_discrete}
use native.Mathlib.Omega.{arith}
use Rattle.taxa.specs.Sets.{◌∈◌, ◌∉◌, ◌⊆◌, ◌∩◌, ◌∖◌, Positive, count}
use Rattle.taxa.proofs.Members.{none as nothing, in?, in∩, in∖, ⊆-refl, ⊆-trans, ∖-⊆, ⊆-≤, below, in_pow, pow_in, pow_⊆}
use Rattle.taxa.proofs.Counts.{count_in, count_<, count_some, count_pow}
use Rattle.method.specs.Split.{Column, Same, split_cost, after, split_parts}
use Rattle.method.specs.Tree.{Group, Walk, walked, node, build, Clade, group, single, Fills, Filled}
use Rattle.method.proofs.Flips.{Proper}
use Rattle.method.proofs.Parts.{Parts, Part, done, next, inside_R, cover, unique, is_part, ones_together}
use Rattle.method.proofs.Entries.{same_one, same_zero, no_zero, no_one}
use Rattle.method.proofs.Splits.{split_parts_lem, after_proper}
use Rattle.method.proofs.Depth.{build_ind}
use Rattle.method.proofs.Walks.{Tame, stays, build_tame, parts_tame}

pub fills_⊆ : {X Y F : ℕ} {c : Column} → X ⊆ Y → Fills Y c F → Fills X c F
fills_⊆ s f = record { ones = λ x. f.ones (s.sub x); zeros = λ x. f.zeros (s.sub x) }

pub fills_same : {X F : ℕ} {c d : Column} → ((i : ℕ) → i ∈ X → Same c d i) → Fills X c F → Fills X d F
fills_same e f = record { ones = λ {i} x h. f.ones x (same_one (e i x) h); zeros = λ {i} x y h. f.zeros x y (same_zero (e i x) h) }

pub clade_more : {X Y : ℕ} {gs hs : List Group} {F : ℕ} → X ⊆ Y → ((g : Group) → Memᴰ g gs → Memᴰ g hs) → Clade X gs F → Clade Y hs F
clade_more x s (single i b e) = single i (x.sub b) e
clade_more x s (group g l e) = group g (s g l) e

-- The empty set stays so.
pub or_more : {A : Type 0} {X Y : ℕ} {gs hs : List Group} {F : ℕ} → X ⊆ Y → ((g : Group) → Memᴰ g gs → Memᴰ g hs) → A ⊎ Clade X gs F → A ⊎ Clade Y hs F
or_more x s = ⊎_elim inl (λ d. inr (clade_more x s d))

-- Two taxa of a set of one are one.
count_one : (k : ℕ) {S i j : ℕ} → S < 2 ^ k → count k S ≤ 1 → i ∈ S → j ∈ S → j ≡ i
count_one k {S} {i} {j} fits l x y =
    elim (ℕ_discrete j i) [
      | yes e ↦ e
      | no n ↦ absurd (omega (arith, count_pow k (below k fits x), count_< k (pow_⊆ x) (below k fits y) y (λ h. n (pow_in i h))))
    ]

module _ (k : ℕ) (μ : ℕ → ℕ) (m : ℕ) where
  -- A group of one taxon.
  leaf_filled : {S : ℕ} {c : Column} {gs : List Group} → S < 2 ^ k → count k S ≤ 1 → Proper c → Filled (Clade S gs) S c
  leaf_filled {S} {c} {gs} fits l p = go (dec_lt 0 (count k (c.ones ∩ S)))
    where
      go : Dec (0 < count k (c.ones ∩ S)) → Filled (Clade S gs) S c
      go (yes q) =
          let (i, b, h) = count_some k (c.ones ∩ S) q in
          let (o, x) = (in∩ c.ones S).0 h in (
            2 ^ i,
            inr (single i x refl),
            pow_⊆ x,
            record {
              ones = λ y o'. subst (λ (j : ℕ). j ∈ 2 ^ i) (sym (count_one k fits l x y)) (in_pow i);
              zeros = λ x' y z. p.clash o (subst (λ (j : ℕ). j ∈ c.zeros) (pow_in i y) z);
            },
          )
      go (no q) = (
        0,
        inl refl,
        record { sub = λ h. absurd (nothing h) },
        record {
          ones = λ x o. absurd (q (count_in k (below k fits x) ((in∩ c.ones S).1 (o, x))));
          zeros = λ x h. absurd (nothing h);
        },
      )

  -- A walk of S fills the columns.
  abbrev Fill : (ℕ → Column) → ℕ → Walk → Type 0
  Fill cols S w = ((c : ℕ) → Proper (cols c)) → (c : ℕ) → c < m → Filled (Clade S w.groups) S (w.columns c)

  walked_filled : Positive μ → {old : ℕ → Column} {S R : ℕ} {Ps : List ℕ} → R < 2 ^ k → Parts k μ m old S R Ps → ((P : ℕ) → Memᴰ P Ps → (cols : ℕ → Column) → Fill cols P (build k μ m cols P))
      → (P : ℕ) → Memᴰ P Ps → (cols : ℕ → Column) → Fill cols P (walked (build k μ m) cols Ps)
  unfolding walked
  walked_filled pos {old} {S} fits (next {R} {P} {Ps} s p ps) h Q (Memᴰ.head e) cols q c b =
      let mid = (build k μ m cols P).columns in
      let rest = parts_tame k μ m pos {R = R ∖ P} (omega (arith, ⊆-≤ (∖-⊆ R P))) ps mid in
      let (F, d, r, f) = h P (Memᴰ.head refl) cols q c b in (
        F,
        or_more (subst (λ (X : ℕ). P ⊆ X) (sym e) (⊆-refl P)) (λ x l. Memᴰ.append_left (walked (build k μ m) mid Ps).groups l) d,
        subst (λ (X : ℕ). F ⊆ X) (sym e) r,
        subst (λ (X : ℕ). Fills X ((walked (build k μ m) mid Ps).columns c) F) (sym e) (fills_same (λ i x. rest.frame c (λ y. ((in∖ R P).0 y).1 x)) f),
      )
  walked_filled pos fits (next {R} {P} {Ps} s p ps) h Q (Memᴰ.tail l) cols q c b =
      let proper = (build_tame k μ m pos cols P (omega (arith, ⊆-≤ s))).propers q in
      let (F, d, r, f) = walked_filled pos (omega (arith, ⊆-≤ (∖-⊆ R P))) ps (λ X y. h X (Memᴰ.tail y)) Q l (build k μ m cols P).columns proper c b in
      (F, or_more (⊆-refl Q) (λ x l. Memᴰ.append_right (build k μ m cols P).groups l) d, r, f)
  walked_filled pos fits done h Q l cols q c b = elim l [ ]

  module _ (pos : Positive μ) (cols : ℕ → Column) (S : ℕ) (fits : S < 2 ^ k) (two : 1 < count k S) where
    abbrev next_cols : ℕ → Column
    next_cols = after k μ m cols S

    abbrev Ps : List ℕ
    Ps = split_parts k μ m cols S

    abbrev last : ℕ → Column
    last = (walked (build k μ m) next_cols Ps).columns

    ps : Parts k μ m next_cols S S Ps
    ps = split_parts_lem k μ m cols S fits two

    tame : Tame k μ m next_cols S Ps (walked (build k μ m) next_cols Ps)
    tame = parts_tame k μ m pos fits ps next_cols

    node_filled : ((P : ℕ) → Memᴰ P Ps → (c : ℕ → Column) → Fill c P (build k μ m c P)) → Fill cols S (node k μ m (build k μ m) cols S)
    unfolding node
    node_filled h q c b = go (dec_lt 0 (count k ((next_cols c).zeros ∩ S))) (dec_lt 0 (count k ((next_cols c).ones ∩ S)))
      where
        gs : List Group
        gs = (node k μ m (build k μ m) cols S).groups

        -- The part of a one has all the ones, and the other parts are settled.
        within_part : {i l : ℕ} → l ∈ S → l ∈ (next_cols c).zeros → i ∈ S → i ∈ (next_cols c).ones → Filled (Clade S gs) S (last c)
        within_part {i} {l} l_s lz iS io =
            let (P, x, iP) = cover k μ m next_cols S ps iS in
            let p = (is_part k μ m next_cols S ps x).1 in
            let (F, d, r, f) = walked_filled pos fits ps h P x next_cols (after_proper k μ m cols S fits two q) c b in (
              F,
              or_more p.inside (λ y z. Memᴰ.tail z) d,
              ⊆-trans r p.inside,
              record {
                ones = λ {i = j} jS jo. elim (in? j P) [ yes jP ↦ f.ones jP jo | no n ↦ absurd (n (all P iP p j jS (same_one (other P x iP p j jS n) jo))) ];
                zeros = λ jS jF. f.zeros (r.sub jF) jF;
              },
            )
          where
            all : (P : ℕ) → i ∈ P → {a : ℕ} → Part k μ m next_cols S a P → (j : ℕ) → j ∈ S → j ∈ (next_cols c).ones → j ∈ P
            all P iP p j jS jo = ones_together k μ m next_cols S fits pos c b p.inside p.shut l_s lz iP io jS jo

            other : (P : ℕ) → Memᴰ P Ps → i ∈ P → {a : ℕ} → Part k μ m next_cols S a P → (j : ℕ) → j ∈ S → j ∉ P → Same (next_cols c) (last c) j
            other P x iP p j jS n =
                let (Q, y, jQ) = cover k μ m next_cols S ps jS in
                tame.still c y
                (no_one (λ e eQ eo. n (subst (λ (X : ℕ). j ∈ X) (unique k μ m next_cols S ps y x eQ (all P iP p e ((inside_R k μ m next_cols S ps y).sub eQ) eo)) jQ)))
                jQ

        go : Dec (0 < count k ((next_cols c).zeros ∩ S)) → Dec (0 < count k ((next_cols c).ones ∩ S)) → Filled (Clade S gs) S (last c)
        go (no z) o =
            let none : (i : ℕ) → i ∈ S → i ∉ (next_cols c).zeros = λ i x y. z (count_in k (below k fits x) ((in∩ (next_cols c).zeros S).1 (y, x))) in (
              S,
              inr (group (record { taxa = S; cost = split_cost k μ m cols S }) (Memᴰ.head refl) refl),
              ⊆-refl S,
              record { ones = λ x y. x; zeros = λ {i} x z y. none i x (same_zero (stays k μ m ps tame c (no_zero none) x) y) },
            )
        go (yes z) (no o) =
            let none : (i : ℕ) → i ∈ S → i ∉ (next_cols c).ones = λ i x y. o (count_in k (below k fits x) ((in∩ (next_cols c).ones S).1 (y, x))) in (
              0,
              inl refl,
              record { sub = λ x. absurd (nothing x) },
              record { ones = λ {i} x y. absurd (none i x (same_one (stays k μ m ps tame c (no_one none) x) y)); zeros = λ x y. absurd (nothing y) },
            )
        go (yes z) (yes o) =
            let (l, a, x) = count_some k ((next_cols c).zeros ∩ S) z in
            let (i, a', y) = count_some k ((next_cols c).ones ∩ S) o in
            let (lz, l_s) = (in∩ (next_cols c).zeros S).0 x in
            let (io, iS) = (in∩ (next_cols c).ones S).0 y in
            within_part l_s lz iS io

  -- Each column can be filled in the group.
  pub filled : Positive μ → (cols : ℕ → Column) (S : ℕ) → S < 2 ^ k → Fill cols S (build k μ m cols S)
  filled pos = build_ind k μ m Fill (λ cols S fits few q c b. leaf_filled fits few (q c)) (node_filled pos)
