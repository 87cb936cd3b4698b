-- What is drawn of any list of groups: the part of a taxon has it and is smaller than the set (`piece`), so that the fuel is enough. The parts that are
-- left come one by one (`parts_next`); a taxon alone is drawn by its name (`drawn_taxon`), any larger set by its parts (`drawn_group`).
use mathlib.Core.Path.{◌≡◌, refl, sym, ap, ap₂, ◌∙◌}
use mathlib.Core.Bool.{Bool, true, false, true≢false, ◌&&◌, not, cond}
use mathlib.Core.Logic.{◌⊎◌, inl, inr, ⊎_elim}
use mathlib.Core.List.{List, [], ◌∷◌, map, Memᴰ}
use Prim.Native.Nat.{ℕ, zero, suc, ◌^◌, ◌≤◌, ◌<◌}
use native.Mathlib.Decide.{dec_lt, ℕ_discrete}
use native.Mathlib.Omega.{arith}
use lib.Dec.{eqb}
use borrow.Author.Tests.{eqb-true, eqb-false, lt-ltb, le-ltb, ne_eqb}
use Rattle.taxa.specs.Sets.{◌∈◌, ◌⊆◌, ◌∖◌, within, count, low}
use Rattle.taxa.proofs.Members.{none, in?, in∖, ext, ⊆-refl, ⊆-trans, ∖-⊆, ⊆-≤, in_pow, pow_⊆, below, low_in, within_⊆}
use Rattle.taxa.proofs.Counts.{count_le, count_pow, count_<, count_pos, count_zero, count_tight, count_⊆}
use Rattle.grammar.specs.Trees.{leaf}
use Rattle.grammar.specs.Columns.{Bytes}
use Rattle.clades.specs.Draw.{wider, part, parts, joined, draw, drawn}

pub alone : {S : ℕ} (i : ℕ) → S ≡ 2 ^ i → S < 2 ^ 64 → count 64 S ≡ 1
alone i e s = ap (count 64) e ∙ count_pow 64 {j = i} (below 64 (rw e at s) (in_pow i))

pub proper_< : {P S : ℕ} → S < 2 ^ 64 → P ⊆ S → (P ≡ S → ⊥) → count 64 P < count 64 S
proper_< {P} {S} s i n = go (ℕ_discrete (count 64 P) (count 64 S))
  where
    go : Dec (count 64 P ≡ count 64 S) → count 64 P < count 64 S
    go (yes e) = absurd (n (count_tight 64 s i e))
    go (no m) = omega (arith, count_⊆ 64 i)

pub nothing_more : {P S : ℕ} → P ⊆ S → S ∖ P ≡ 0 → P ≡ S
nothing_more {P} {S} s z = ext s (record { sub = λ {i} x. elim (in? i P) [ yes y ↦ y | no n ↦ absurd (none (rw z at ((in∖ S P).1 (x, n)))) ] })

pub some_more : {P S : ℕ} → P ⊆ S → (P ≡ S → ⊥) → 0 < S ∖ P
some_more {P} {S} s n = elim (ℕ_discrete (S ∖ P) 0) [ yes z ↦ absurd (n (nothing_more s z)) | no m ↦ omega arith ]

-- ---- the part of a taxon

-- What the part becomes with one group more.
pub data Grows (S G P : ℕ) : ℕ → Type 0 where
  takes : P ⊆ G → G ⊆ S → (G ≡ S → ⊥) → Grows S G P G
  keeps : (P ⊆ G → G ⊆ S → (G ≡ S → ⊥) → ⊥) → Grows S G P P

pub grows : (S G P : ℕ) → Grows S G P (wider S G P)
unfolding wider
grows S G P = go (within P G) (within G S) (eqb G S) refl refl refl
  where
    go : (a b c : Bool) → within P G ≡ a → within G S ≡ b → eqb G S ≡ c → Grows S G P (cond (a && (b && not c)) G P)
    go true true true x y z = keeps (λ s t n. n (eqb-true G S z))
    go true true false x y z = takes ((within_⊆ P G).0 x) ((within_⊆ G S).0 y) (eqb-false G S z)
    go true false c x y z = keeps (λ s t n. true≢false (sym ((within_⊆ G S).1 t) ∙ y))
    go false b c x y z = keeps (λ s t n. true≢false (sym ((within_⊆ P G).1 s) ∙ x))

-- All that `Part` says but that it is the largest.
pub record Piece (gs : List ℕ) (S i P : ℕ) : Type 0 where
  pub member : i ∈ P
  pub inside : P ⊆ S
  pub proper : P ≡ S → ⊥
  pub kind : (P ≡ 2 ^ i) ⊎ Memᴰ P gs

pub piece : (gs : List ℕ) {S i : ℕ} → i ∈ S → (2 ^ i ≡ S → ⊥) → Piece gs S i (part gs S i)
unfolding part
piece [] {S} {i} x n = record { member = in_pow i; inside = pow_⊆ x; proper = n; kind = inl refl }
piece (G ∷ gs) {S} {i} x n = go (grows S G (part gs S i)) (piece gs x n)
  where
    go : {Q : ℕ} → Grows S G (part gs S i) Q → Piece gs S i (part gs S i) → Piece (G ∷ gs) S i Q
    go (takes s t m) p = record { member = s.sub p.member; inside = t; proper = m; kind = inr (Memᴰ.head refl) }
    go (keeps k) p = record { member = p.member; inside = p.inside; proper = p.proper; kind = ⊎_elim inl (λ l. inr (Memᴰ.tail l)) p.kind }

-- ---- the parts of S that are left

module _ (gs : List ℕ) (S : ℕ) where
  pub none_left : (f : ℕ) → parts gs S f 0 ≡ []
  unfolding parts
  none_left zero = refl
  none_left (suc f) = refl

  pub some_left : (f : ℕ) {R : ℕ} → 0 < R → parts gs S (suc f) R ≡ part gs S (low 64 R) ∷ parts gs S f (R ∖ part gs S (low 64 R))
  unfolding parts
  some_left f {R} p = rw (ne_eqb R 0 (omega arith), parts)

module _ (gs : List ℕ) {S : ℕ} (fits : S < 2 ^ 64) (two : 1 < count 64 S) where
  -- That of the lowest taxon in R.
  pub piece_in : {R : ℕ} → R ⊆ S → 0 < R → Piece gs S (low 64 R) (part gs S (low 64 R))
  piece_in {R} s p =
      let x = s.sub (low_in 64 p (omega (arith, ⊆-≤ s))) in
      piece gs x (λ e. omega (arith, alone (low 64 R) (sym e) fits))

  -- Less is left after it.
  pub left_< : {R : ℕ} → R ⊆ S → 0 < R → count 64 (R ∖ part gs S (low 64 R)) < count 64 R
  left_< {R} s p =
      let f : R < 2 ^ 64 = omega (arith, ⊆-≤ s) in
      let x = low_in 64 p f in count_< 64 (∖-⊆ R _) (below 64 f x) x (λ y. ((in∖ R _).0 y).1 (piece_in s p).member)

  enough : (f g : ℕ) {R : ℕ} → R ⊆ S → count 64 R ≤ f → count 64 R ≤ g → parts gs S f R ≡ parts gs S g R
  enough zero g {R} s l m = let e = count_zero 64 {x = R} (omega (arith, ⊆-≤ s)) (omega arith) in rw (e, none_left gs S 0, none_left gs S g)
  enough (suc f) zero {R} s l m = let e = count_zero 64 {x = R} (omega (arith, ⊆-≤ s)) (omega arith) in rw (e, none_left gs S 0, none_left gs S (suc f))
  enough (suc f) (suc g) {R} s l m = go (ℕ_discrete R 0) (λ p. enough f g (⊆-trans (∖-⊆ R _) s) (omega (arith, left_< s p)) (omega (arith, left_< s p)))
    where
      P : ℕ
      P = part gs S (low 64 R)

      go : Dec (R ≡ 0) → (0 < R → parts gs S f (R ∖ P) ≡ parts gs S g (R ∖ P)) → parts gs S (suc f) R ≡ parts gs S (suc g) R
      go (yes e) h = rw (e, none_left gs S (suc f), none_left gs S (suc g))
      go (no n) h = let p : 0 < R = omega arith in some_left gs S f p ∙ ap (λ ps. P ∷ ps) (h p) ∙ sym (some_left gs S g p)

  pub parts_next : {R : ℕ} → R ⊆ S → 0 < R → parts gs S 64 R ≡ part gs S (low 64 R) ∷ parts gs S 64 (R ∖ part gs S (low 64 R))
  parts_next {R} s p =
      let P = part gs S (low 64 R) in
      let l = left_< s p in
      let rest = enough 63 64 {R = R ∖ P} (⊆-trans (∖-⊆ R P) s) (omega (arith, count_le 64 R)) (omega (arith, count_le 64 R)) in
      some_left gs S 63 p ∙ ap (λ ps. P ∷ ps) rest

  pub two_parts : (P : ℕ) × (Q : ℕ) × (Ps : List ℕ) × (parts gs S 64 S ≡ P ∷ Q ∷ Ps)
  two_parts =
      let some = count_pos 64 {x = S} (omega arith) in
      let p = piece_in (⊆-refl S) some in
      let rest = parts_next (∖-⊆ S _) (some_more p.inside p.proper) in (_, _, _, parts_next (⊆-refl S) some ∙ ap (λ ps. part gs S (low 64 S) ∷ ps) rest)

  -- Two functions that are the same on smaller sets.
  parts_same : {A : Type 0} {g h : ℕ → A} → ((P : ℕ) → P ⊆ S → count 64 P < count 64 S → g P ≡ h P)
      → (f : ℕ) {R : ℕ} → R ⊆ S → map g (parts gs S f R) ≡ map h (parts gs S f R)
  unfolding parts
  parts_same e zero s = refl
  parts_same {A} {g} {h} e (suc f) {R} s = go (ℕ_discrete R 0) (parts_same e f (⊆-trans (∖-⊆ R _) s))
    where
      P : ℕ
      P = part gs S (low 64 R)

      go : Dec (R ≡ 0) → map g (parts gs S f (R ∖ P)) ≡ map h (parts gs S f (R ∖ P)) → map g (parts gs S (suc f) R) ≡ map h (parts gs S (suc f) R)
      go (yes z) k = rw z
      go (no n) k =
          let p = piece_in s (omega arith) in
          rw (some_left gs S f {R = R} (omega arith)) (ap₂ ◌∷◌ (e P p.inside (proper_< fits p.inside p.proper)) k)

-- ---- sets drawn

module _ (name : ℕ → Bytes) (gs : List ℕ) where
  alone_drawn : (f S : ℕ) → count 64 S ≤ 1 → draw name gs f S ≡ leaf (name (low 64 S))
  unfolding draw
  alone_drawn zero S l = refl
  alone_drawn (suc f) S l = rw (le-ltb 1 (count 64 S) l, draw)

  more_drawn : (f S : ℕ) → 1 < count 64 S → draw name gs (suc f) S ≡ joined (map (draw name gs f) (parts gs S 64 S))
  unfolding draw
  more_drawn f S l = rw (lt-ltb 1 (count 64 S) l, draw)

  deep_enough : (f g S : ℕ) → S < 2 ^ 64 → count 64 S ≤ f → count 64 S ≤ g → draw name gs f S ≡ draw name gs g S
  deep_enough zero g S s l m = alone_drawn 0 S (omega arith) ∙ sym (alone_drawn g S (omega arith))
  deep_enough (suc f) zero S s l m = alone_drawn (suc f) S (omega arith) ∙ sym (alone_drawn 0 S (omega arith))
  deep_enough (suc f) (suc g) S s l m = go (dec_lt 1 (count 64 S)) (λ P i h. deep_enough f g P (omega (arith, ⊆-≤ i)) (omega arith) (omega arith))
    where
      go : Dec (1 < count 64 S) → ((P : ℕ) → P ⊆ S → count 64 P < count 64 S → draw name gs f P ≡ draw name gs g P)
          → draw name gs (suc f) S ≡ draw name gs (suc g) S
      go (yes two) h = more_drawn f S two ∙ ap joined (parts_same gs s two h 64 (⊆-refl S)) ∙ sym (more_drawn g S two)
      go (no n) h = alone_drawn (suc f) S (omega arith) ∙ sym (alone_drawn (suc g) S (omega arith))

  pub drawn_taxon : (S : ℕ) → count 64 S ≤ 1 → drawn name gs S ≡ leaf (name (low 64 S))
  drawn_taxon S l = alone_drawn 64 S l

  pub drawn_group : (S : ℕ) → S < 2 ^ 64 → 1 < count 64 S → drawn name gs S ≡ joined (map (drawn name gs) (parts gs S 64 S))
  drawn_group S s two =
      more_drawn 63 S two
      ∙ ap joined (parts_same gs s two (λ P i h. deep_enough 63 64 P (omega (arith, ⊆-≤ i)) (omega (arith, count_le 64 S)) (count_le 64 P)) 64 (⊆-refl S))
