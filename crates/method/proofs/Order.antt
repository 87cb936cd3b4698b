-- How many groups there are, and their order in the file.
use mathlib.Core.Path.{◌≡◌, refl, sym, ap, ◌∙◌, subst}
use mathlib.Core.Bool.{Bool, true, false, cond, true≢false}
use mathlib.Core.Logic.{⊎_elim}
use mathlib.Core.List.Memᴰ
use mathlib.Core.List.{List, [], ◌∷◌, ◌++◌, Memᴰ}
use Prim.Native.Nat.{ℕ, zero, suc, ◌+◌, ◌^◌, ◌≤◌, ◌<◌}
use native.Mathlib.Nat.{eq-or-lt_of_le, le_of_suc-le-suc}
use native.Mathlib.Decide.{dec_lt, ℕ_discrete}
use native.Mathlib.Omega.{arith}
use lib.Dec.{ltb, eqb}
use lib.ListN.{length, length-append}
use borrow.Author.Tests.{eqb-true, eq-eqb, lt-ltb, le-ltb, ne_eqb}
use Rattle.taxa.specs.Sets.{◌∈◌, ◌∖◌, count, low}
use Rattle.taxa.specs.Groups.{sooner, larger}
use Rattle.taxa.proofs.Members.{⊆-≤, low_in}
use Rattle.taxa.proofs.Counts.{count_none, count_∖, count_pos}
use Rattle.method.specs.Split.{Column, after, split_parts}
use Rattle.method.specs.Tree.{Group, walked, node, build, kept, ordered, total, InFileOrder, Line, end, and}
use Rattle.method.proofs.Parts.{Parts, done, next}
use Rattle.method.proofs.Splits.{split_parts_lem, part_in}
use Rattle.method.proofs.Depth.{build_ind}
use Rattle.method.proofs.Shape.{line_++, line_map, Ahead, holds, apart, Shape, shape_in, build_shape}

-- ---- how many

module _ (k : ℕ) (μ : ℕ → ℕ) (m : ℕ) where
  few_parts : {old : ℕ → Column} {S R : ℕ} {Ps : List ℕ} → Parts k μ m old S R Ps → length Ps ≡ 0 → count k R ≡ 0
  few_parts done e = count_none k
  few_parts (next s p ps) e = absurd (omega arith)

  -- There are two parts or more, where each is smaller than the whole.
  two_parts : {old : ℕ → Column} {S R : ℕ} {Ps : List ℕ} → Parts k μ m old S R Ps → 0 < count k R → ((P : ℕ) → Memᴰ P Ps → count k P < count k R) → 2 ≤ length Ps
  two_parts done p h = absurd (omega (arith, count_none k))
  two_parts {old} {S} (next {R} {P} {Ps} s q ps) p h = go Ps ps
    where
      go : (Qs : List ℕ) → Parts k μ m old S (R ∖ P) Qs → 2 ≤ suc (length Qs)
      go [] t = absurd (omega (arith, few_parts t refl, count_∖ k s, h P (Memᴰ.head refl)))
      go (Q ∷ Qs) t = omega arith

  pub split_two : (cols : ℕ → Column) (S : ℕ) → S < 2 ^ k → 1 < count k S → 2 ≤ length (split_parts k μ m cols S)
  split_two cols S fits two = two_parts (split_parts_lem k μ m cols S fits two) (omega arith) (λ P l. (part_in k μ m cols S fits two l).2)

  parts_length : {old : ℕ → Column} {S R : ℕ} {Ps : List ℕ} → Parts k μ m old S R Ps → ((P : ℕ) → Memᴰ P Ps → 0 < count k P) → length Ps ≤ count k R
  parts_length done h = omega arith
  parts_length (next {P = P} s p ps) h = omega (arith, h P (Memᴰ.head refl), parts_length ps (λ Q l. h Q (Memᴰ.tail l)), count_∖ k s)

  beside : {old : ℕ → Column} {S R P : ℕ} {Ps : List ℕ} → Parts k μ m old S R Ps → ((Q : ℕ) → Memᴰ Q Ps → 0 < count k Q) → Memᴰ P Ps
      → count k P + length Ps ≤ count k R + 1
  beside (next s p ps) h (Memᴰ.head e) = rw e (omega (arith, parts_length ps (λ Q l. h Q (Memᴰ.tail l)), count_∖ k s))
  beside (next {P = P} s p ps) h (Memᴰ.tail l) = omega (arith, beside ps (λ Q l. h Q (Memᴰ.tail l)) l, h P (Memᴰ.head refl), count_∖ k s)
  beside done h l = elim l [ ]

  -- Each part beside a part has a taxon of its own.
  pub split_beside : (cols : ℕ → Column) (S : ℕ) → S < 2 ^ k → 1 < count k S → {P : ℕ} → Memᴰ P (split_parts k μ m cols S)
      → count k P + length (split_parts k μ m cols S) ≤ count k S + 1
  split_beside cols S fits two = beside (split_parts_lem k μ m cols S fits two) (λ Q l. (part_in k μ m cols S fits two l).1)

  walked_length : {old : ℕ → Column} {S R : ℕ} {Ps : List ℕ} → Parts k μ m old S R Ps
      → ((P : ℕ) → Memᴰ P Ps → (cols : ℕ → Column) → length (build k μ m cols P).groups < count k P) → (cols : ℕ → Column)
      → length (walked (build k μ m) cols Ps).groups + length Ps ≤ count k R
  unfolding walked
  walked_length done h cols = omega arith
  walked_length (next {R} {P} {Ps} s p ps) h cols =
      omega (
        arith,
        length-append (build k μ m cols P).groups (walked (build k μ m) (build k μ m cols P).columns Ps).groups,
        h P (Memᴰ.head refl) cols,
        walked_length ps (λ Q l. h Q (Memᴰ.tail l)) (build k μ m cols P).columns,
        count_∖ k s,
      )

  -- A group of taxa has fewer groups than taxa.
  pub build_length : (cols : ℕ → Column) (S : ℕ) → S < 2 ^ k → 0 < count k S → length (build k μ m cols S).groups < count k S
  unfolding node
  build_length = build_ind k μ m (λ cols S w. 0 < count k S → length w.groups < count k S) (λ cols S fits few p. p) (λ cols S fits two ih p.
      let small = walked_length (split_parts_lem k μ m cols S fits two) (λ P l c. ih P l c (part_in k μ m cols S fits two l).1) (after k μ m cols S) in
      omega (arith, split_two cols S fits two))

-- ---- the order in the file

-- The groups that are kept are those that pass.
kept_in : (p : Group → Bool) (gs : List Group) {x : Group} → Memᴰ x (kept p gs) → Memᴰ x gs × (p x ≡ true)
unfolding kept
kept_in p [] l = absurd (Memᴰ.not-nil l)
kept_in p (g ∷ gs) {x} l = go (p g) refl l (λ l. kept_in p gs l)
  where
    go : (b : Bool) → p g ≡ b → Memᴰ x (cond b (g ∷ kept p gs) (kept p gs)) → (Memᴰ x (kept p gs) → Memᴰ x gs × (p x ≡ true)) → Memᴰ x (g ∷ gs) × (p x ≡ true)
    go true e (Memᴰ.head f) ih = (Memᴰ.head f, ap p f ∙ e)
    go true e (Memᴰ.tail l) ih = let (a, b) = ih l in (Memᴰ.tail a, b)
    go false e l ih = let (a, b) = ih l in (Memᴰ.tail a, b)

in_kept : (p : Group → Bool) (gs : List Group) {x : Group} → Memᴰ x gs → p x ≡ true → Memᴰ x (kept p gs)
unfolding kept
in_kept p [] l e = absurd (Memᴰ.not-nil l)
in_kept p (g ∷ gs) {x} l e = go (p g) refl l (λ l. in_kept p gs l e)
  where
    go : (b : Bool) → p g ≡ b → Memᴰ x (g ∷ gs) → (Memᴰ x gs → Memᴰ x (kept p gs)) → Memᴰ x (cond b (g ∷ kept p gs) (kept p gs))
    go true f (Memᴰ.head h) ih = Memᴰ.head h
    go true f (Memᴰ.tail l) ih = Memᴰ.tail (ih l)
    go false f (Memᴰ.head h) ih = absurd (true≢false (sym e ∙ ap p h ∙ f))
    go false f (Memᴰ.tail l) ih = ih l

kept_line : {R : Group → Group → Type 0} (p : Group → Bool) {gs : List Group} → Line R gs → Line R (kept p gs)
unfolding kept
kept_line p end = end
kept_line {R} p (and {x} {xs = gs} a l) = go (p x) (kept_line p l)
  where
    go : (b : Bool) → Line R (kept p gs) → Line R (cond b (x ∷ kept p gs) (kept p gs))
    go true l = and (λ y h. a y (kept_in p gs h).0) l
    go false l = l

-- Below n + 1 is below n, or n.
next_one : (l n x : ℕ) → cond (ltb l (suc n)) x 0 ≡ cond (ltb l n) x 0 + cond (eqb l n) x 0
next_one l n x = go (dec_lt l n) (ℕ_discrete l n)
  where
    is : {b c : Bool} → b ≡ c → cond b x 0 ≡ cond c x 0
    is e = ap (λ (b : Bool). cond b x 0) e

    go : Dec (l < n) → Dec (l ≡ n) → cond (ltb l (suc n)) x 0 ≡ cond (ltb l n) x 0 + cond (eqb l n) x 0
    go (yes a) d = omega (arith, is (lt-ltb l (suc n) (omega arith)), is (lt-ltb l n a), is (ne_eqb l n (λ e. omega arith)))
    go (no a) (yes e) = omega (arith, is (lt-ltb l (suc n) (omega arith)), is (le-ltb l n (omega arith)), is (eq-eqb l n e))
    go (no a) (no e) = omega (arith, is (le-ltb l (suc n) (omega arith)), is (le-ltb l n (omega arith)), is (ne_eqb l n e))

-- A number for each group, added up.
unfoldable tally : (Group → ℕ) → List Group → ℕ
tally h [] = 0
tally h (g ∷ gs) = h g + tally h gs

tally_++ : (h : Group → ℕ) (gs hs : List Group) → tally h (gs ++ hs) ≡ tally h gs + tally h hs
unfolding tally
tally_++ h [] hs = omega arith
tally_++ h (g ∷ gs) hs = omega (arith, tally_++ h gs hs)

tally_length : (gs : List Group) → tally (λ g. 1) gs ≡ length gs
unfolding tally
tally_length [] = refl
tally_length (g ∷ gs) = omega (arith, tally_length gs)

tally_total : (gs : List Group) → tally (λ g. g.cost) gs ≡ total gs
unfolding tally total
tally_total [] = refl
tally_total (g ∷ gs) = omega (arith, tally_total gs)

module _ (k : ℕ) where
  -- The groups of the file are those of the walk,
  pub ordered_in : (n : ℕ) (gs : List Group) {x : Group} → Memᴰ x (ordered k n gs) → Memᴰ x gs × (low k x.taxa < n)
  unfolding ordered
  ordered_in zero gs l = absurd (Memᴰ.not-nil l)
  ordered_in (suc n) gs {x} l =
      ⊎_elim (λ h. let (a, b) = ordered_in n gs h in (a, omega arith)) (λ h. let (a, b) = kept_in (λ g. eqb (low k g.taxa) n) gs h in (a, omega (arith, eqb-true (low k x.taxa) n b)))
      (Memᴰ.append_cases (ordered k n gs) l)

  pub in_ordered : (n : ℕ) (gs : List Group) {x : Group} → Memᴰ x gs → low k x.taxa < n → Memᴰ x (ordered k n gs)
  unfolding ordered
  in_ordered zero gs l b = absurd (omega arith)
  in_ordered (suc n) gs {x} l b =
      ⊎_elim (λ e. Memᴰ.append_right (ordered k n gs) (in_kept (λ g. eqb (low k g.taxa) n) gs l (eq-eqb (low k x.taxa) n e))) (λ c. Memᴰ.append_left (kept (λ g. eqb (low k g.taxa) n) gs) (in_ordered n gs l c))
      (eq-or-lt_of_le (le_of_suc-le-suc b))

  -- and stand in that order.
  pub ordered_line : (n : ℕ) {gs : List Group} → Line (Ahead k) gs → ((x : Group) → Memᴰ x gs → low k x.taxa ∈ x.taxa) → Line (InFileOrder k) (ordered k n gs)
  unfolding ordered
  ordered_line zero l h = end
  ordered_line (suc n) {gs} l h = line_++ (ordered_line n l h) (line_map inner (kept_line p l)) outer
    where
      p : Group → Bool
      p g = eqb (low k g.taxa) n

      at : {x : Group} → Memᴰ x (kept p gs) → low k x.taxa ≡ n
      at {x} a = eqb-true (low k x.taxa) n (kept_in p gs a).1

      inner : (x y : Group) → Memᴰ x (kept p gs) → Memᴰ y (kept p gs) → Ahead k x y → InFileOrder k x y
      inner x y a b (holds s c) = larger (at a ∙ sym (at b)) c
      inner x y a b (apart o) = absurd (o.off (h x (kept_in p gs a).0) (subst (λ (i : ℕ). i ∈ y.taxa) (at b ∙ sym (at a)) (h y (kept_in p gs b).0)))

      outer : (x y : Group) → Memᴰ x (ordered k n gs) → Memᴰ y (kept p gs) → InFileOrder k x y
      outer x y a b = sooner (omega (arith, (ordered_in n gs a).1, at b))

  -- None is lost and none is twice.
  module _ (h : Group → ℕ) where
    ordered_more : (n : ℕ) (g : Group) (gs : List Group) → tally h (ordered k n (g ∷ gs)) ≡ cond (ltb (low k g.taxa) n) (h g) 0 + tally h (ordered k n gs)
    unfolding ordered kept tally
    ordered_more zero g gs = omega (arith, ap (λ (b : Bool). cond b (h g) 0) (le-ltb (low k g.taxa) 0 (omega arith)))
    ordered_more (suc n) g gs =
        omega (
          arith,
          ordered_more n g gs,
          next_one (low k g.taxa) n (h g),
          kept_more (eqb (low k g.taxa) n),
          tally_++ h (ordered k n (g ∷ gs)) (kept p (g ∷ gs)),
          tally_++ h (ordered k n gs) (kept p gs),
        )
      where
        p : Group → Bool
        p x = eqb (low k x.taxa) n

        kept_more : (b : Bool) → tally h (cond b (g ∷ kept p gs) (kept p gs)) ≡ cond b (h g) 0 + tally h (kept p gs)
        kept_more true = refl
        kept_more false = omega arith

    ordered_tally : (n : ℕ) (gs : List Group) → ((x : Group) → Memᴰ x gs → low k x.taxa < n) → tally h (ordered k n gs) ≡ tally h gs
    unfolding ordered kept tally
    ordered_tally n [] l = none n
      where
        none : (n : ℕ) → tally h (ordered k n []) ≡ 0
        none zero = refl
        none (suc n) = omega (arith, tally_++ h (ordered k n []) [], none n)
    ordered_tally n (g ∷ gs) l =
        omega (arith, ordered_more n g gs, ap (λ (b : Bool). cond b (h g) 0) (lt-ltb (low k g.taxa) n (l g (Memᴰ.head refl))), ordered_tally n gs (λ x q. l x (Memᴰ.tail q)))

  pub ordered_length : (n : ℕ) (gs : List Group) → ((x : Group) → Memᴰ x gs → low k x.taxa < n) → length (ordered k n gs) ≡ length gs
  ordered_length n gs l = sym (tally_length (ordered k n gs)) ∙ ordered_tally (λ g. 1) n gs l ∙ tally_length gs

  pub ordered_total : (n : ℕ) (gs : List Group) → ((x : Group) → Memᴰ x gs → low k x.taxa < n) → total (ordered k n gs) ≡ total gs
  ordered_total n gs l = sym (tally_total (ordered k n gs)) ∙ ordered_tally (λ g. g.cost) n gs l ∙ tally_total gs

  -- A group that has taxon 0 and is first in the walk is first in the file.
  pub ordered_first : (n : ℕ) (g : Group) (gs : List Group) → low k g.taxa ≡ 0 → (rest : List Group) × (ordered k (suc n) (g ∷ gs) ≡ g ∷ rest)
  unfolding ordered kept
  ordered_first zero g gs e = (kept p gs, ap (λ (b : Bool). cond b (g ∷ kept p gs) (kept p gs)) (eq-eqb (low k g.taxa) 0 e))
    where
      p : Group → Bool
      p x = eqb (low k x.taxa) 0
  ordered_first (suc n) g gs e =
      let (rest, q) = ordered_first n g gs e in
      let more = kept (λ x. eqb (low k x.taxa) (suc n)) (g ∷ gs) in
      (rest ++ more, ap (λ (x : List Group). x ++ more) q)

  module _ (μ : ℕ → ℕ) (m : ℕ) (cols : ℕ → Column) (S : ℕ) (fits : S < 2 ^ k) where
    sh : Shape k (S ∷ []) (build k μ m cols S).groups
    sh = build_shape k μ m cols S fits

    -- A group of the build has its lowest taxon, which is one of S.
    pub group_low : {x : Group} → Memᴰ x (build k μ m cols S).groups → low k x.taxa ∈ x.taxa × low k x.taxa ∈ S
    group_low {x} l =
        let s = shape_in k sh l in
        let h = low_in k {x = x.taxa} (count_pos k (omega (arith, sh.two x l))) (omega (arith, ⊆-≤ s)) in
        (h, s.sub h)

    -- So the file's order is document 01's.
    pub file_order : (n : ℕ) → Line (InFileOrder k) (ordered k n (build k μ m cols S).groups)
    file_order n = ordered_line n sh.lined (λ x l. (group_low l).0)
