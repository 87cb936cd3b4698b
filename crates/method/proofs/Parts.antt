-- The parts of a group (document 01): they are not empty, share no taxon and cover the group, no column that takes part joins two of them,
-- and after a division's flips each lies on one side of it.
use mathlib.Core.Path.{◌≡◌, refl, sym, ap, ap₂, ◌∙◌, subst}
use mathlib.Core.Bool.{Bool, true, ◌&&◌, and-eq-true_iff}
use mathlib.Core.Logic.{◌↔◌, ◌⊎◌, inl, inr, ⊎_elim}
use mathlib.Core.List.{List, [], ◌∷◌, Memᴰ}
use Prim.Native.Nat.{ℕ, zero, suc, ◌^◌, ◌≤◌, ◌<◌}
use native.Mathlib.Nat.{eq-or-lt_of_le}
use native.Mathlib.Omega.{arith}
use borrow.Author.Tests.{eqb-true, eq-eqb}
use Rattle.taxa.specs.Sum.{sum}
use Rattle.taxa.specs.Sets.{has, ◌∈◌, ◌∉◌, ◌⊆◌, ◌∩◌, ◌∖◌, within, mass, Positive, count, low}
use Rattle.taxa.proofs.Sums.{sum_none, term_≤}
use Rattle.taxa.proofs.Members.{none as nothing, in?, in∩, in∖, ext, empty, ⊆-refl, ⊆-trans, ∩-⊆, ∩-⊆ʳ, ∖-⊆, ⊆-≤, within_⊆, below, low_in}
use Rattle.taxa.proofs.Masses.{mass_none, mass_in}
use Rattle.taxa.proofs.Counts.{count_zero, count_le, count_<}
use Rattle.method.specs.Split.{Column, raise, lower, share, Division, flip, flipped, apart, part, parts_of, parts}
use Rattle.method.proofs.Least.{Least, least_is}
use Rattle.method.proofs.Shares.{submodular, share_rest, share_all, parted_in}
use Rattle.method.proofs.Flips.{Flip, up, left, right, flip_is}

-- ---- sets apart, and parts

module _ (k : ℕ) (μ : ℕ → ℕ) (m : ℕ) (cols : ℕ → Column) (S : ℕ) where
  pub record Apart (A : ℕ) : Type 0 where
    pub none : (c : ℕ) → c < m → share k μ S A (cols c) ≡ 0

  apart_is : (A : ℕ) → (apart k μ m cols S A ≡ true) ↔ Apart A
  unfolding apart
  apart_is A = (
    λ e. record { none = λ c l. omega (arith, term_≤ m (λ c. share k μ S A (cols c)) l, eqb-true (sum m (λ c. share k μ S A (cols c))) 0 e) },
    λ p. eq-eqb (sum m (λ c. share k μ S A (cols c))) 0 (sum_none m p.none),
  )

  pub apart_∩ : {A D : ℕ} → A ⊆ S → D ⊆ S → Apart A → Apart D → Apart (A ∩ D)
  apart_∩ {A} {D} a d p q = record { none = λ c l. omega (arith, submodular k μ S (cols c) A D a d, p.none c l, q.none c l) }

  pub apart_rest : {A : ℕ} → A ⊆ S → Apart A → Apart (S ∖ A)
  apart_rest {A} a p = record { none = λ c l. omega (arith, share_rest k μ S (cols c) A a, p.none c l) }

  apart_all : Apart S
  apart_all = record { none = λ c l. share_all k μ S (cols c) }

  -- The least set that has taxon i and is apart from the rest of S.
  pub record Part (i P : ℕ) : Type 0 where
    pub inside : P ⊆ S
    pub member : i ∈ P
    pub shut : Apart P
    pub smallest : {Q : ℕ} → Q ⊆ S → i ∈ Q → Apart Q → P ⊆ Q

  pub part_is : {i : ℕ} → i ∈ S → Part i (part k μ m cols S i)
  unfolding part
  part_is {i} h = record { inside = found.0; member = found.1; shut = found.2; smallest = smallest }
    where
      ok : ℕ → Bool
      ok A = within A S && has A i && apart k μ m cols S A

      P : ℕ
      P = part k μ m cols S i

      search_is : Least ok (λ A. A) S S P
      search_is = least_is ok (λ A. A) S S

      pass : (A : ℕ) → A ⊆ S → i ∈ A → Apart A → ok A ≡ true
      pass A s j p = (and-eq-true_iff (within A S && has A i) (apart k μ m cols S A)).1 ((and-eq-true_iff (within A S) (has A i)).1 ((within_⊆ A S).1 s, j.is), (apart_is A).1 p)

      found : P ⊆ S × i ∈ P × Apart P
      found =
          let (p, q) = (and-eq-true_iff (within P S && has P i) (apart k μ m cols S P)).0 (search_is.passes (pass S (⊆-refl S) h apart_all)) in
          let (r, s) = (and-eq-true_iff (within P S) (has P i)).0 p in
          ((within_⊆ P S).0 r, record { is = s }, (apart_is P).0 q)

      smallest : {Q : ℕ} → Q ⊆ S → i ∈ Q → Apart Q → P ⊆ Q
      smallest {Q} s j q = subst (λ (X : ℕ). X ⊆ Q) whole (∩-⊆ʳ P Q)
        where
          t : P ∩ Q ⊆ S
          t = ⊆-trans (∩-⊆ P Q) found.0

          le : P ≤ P ∩ Q
          le =
              ⊎_elim
              (λ e. omega (arith, search_is.first))
              (λ l. search_is.others (P ∩ Q) l (pass (P ∩ Q) t ((in∩ P Q).1 (found.1, j)) (apart_∩ found.0 s found.2 q)))
              (eq-or-lt_of_le (⊆-≤ t))

          whole : P ∩ Q ≡ P
          whole = omega (arith, le, ⊆-≤ (∩-⊆ P Q))

  pub part_unique : {i P Q : ℕ} → Part i P → Part i Q → P ≡ Q
  part_unique p q = ext (p.smallest q.inside q.member q.shut) (q.smallest p.inside p.member p.shut)

  -- It lies in any set that is apart from the rest, or off it.
  pub one_side : {i P A : ℕ} → Part i P → A ⊆ S → Apart A → P ⊆ A ⊎ P ⊆ S ∖ A
  one_side {i} {P} {A} p s a = go (in? i A)
    where
      go : Dec (i ∈ A) → P ⊆ A ⊎ P ⊆ S ∖ A
      go (yes h) = inl (p.smallest s h a)
      go (no h) = inr (p.smallest (∖-⊆ S A) ((in∖ S A).1 (p.inside.sub p.member, h)) (apart_rest s a))

  -- A list of the parts that make up R, by lowest taxon.
  pub data Parts : ℕ → List ℕ → Type 0 where
    done : Parts 0 []
    next : {R P : ℕ} {Ps : List ℕ} → P ⊆ R → Part (low k R) P → Parts (R ∖ P) Ps → Parts R (P ∷ Ps)

  pub inside_R : {R P : ℕ} {Ps : List ℕ} → Parts R Ps → Memᴰ P Ps → P ⊆ R
  inside_R (next {R} {P = Q} s p ps) (Memᴰ.head e) = subst (λ (X : ℕ). X ⊆ R) (sym e) s
  inside_R (next {R} {P = Q} s p ps) (Memᴰ.tail h) = ⊆-trans (inside_R ps h) (∖-⊆ R Q)
  inside_R done h = elim h [ ]

  -- Each taxon of R is in a part,
  pub cover : {R i : ℕ} {Ps : List ℕ} → Parts R Ps → i ∈ R → (P : ℕ) × Memᴰ P Ps × i ∈ P
  cover done h = absurd (nothing h)
  cover {i = i} (next {R} {P} {Ps} s p ps) h = go (in? i P) (λ n. cover ps ((in∖ R P).1 (h, n)))
    where
      go : Dec (i ∈ P) → (i ∉ P → (Q : ℕ) × Memᴰ Q Ps × i ∈ Q) → (Q : ℕ) × Memᴰ Q (P ∷ Ps) × i ∈ Q
      go (yes j) rest = (P, Memᴰ.head refl, j)
      go (no n) rest = let (Q, l, j) = rest n in (Q, Memᴰ.tail l, j)

  -- and in no other.
  pub unique : {R i P Q : ℕ} {Ps : List ℕ} → Parts R Ps → Memᴰ P Ps → Memᴰ Q Ps → i ∈ P → i ∈ Q → P ≡ Q
  unique (next s p ps) (Memᴰ.head e) (Memᴰ.head f) i j = e ∙ sym f
  unique {i = h} (next {R} {P = X} s p ps) (Memᴰ.head e) (Memᴰ.tail l) i j = absurd (((in∖ R X).0 ((inside_R ps l).sub j)).1 (subst (λ (Y : ℕ). h ∈ Y) e i))
  unique {i = h} (next {R} {P = X} s p ps) (Memᴰ.tail l) (Memᴰ.head e) i j = absurd (((in∖ R X).0 ((inside_R ps l).sub i)).1 (subst (λ (Y : ℕ). h ∈ Y) e j))
  unique (next s p ps) (Memᴰ.tail l) (Memᴰ.tail l') i j = unique ps l l' i j
  unique done l _ i j = elim l [ ]

  pub is_part : {R P : ℕ} {Ps : List ℕ} → Parts R Ps → Memᴰ P Ps → (i : ℕ) × Part i P
  is_part (next {R} s p ps) (Memᴰ.head e) = (low k R, subst (λ (X : ℕ). Part (low k R) X) (sym e) p)
  is_part (next s p ps) (Memᴰ.tail h) = is_part ps h
  is_part done h = elim h [ ]

  -- There is one such list.
  pub parts_unique : {R : ℕ} {Ps Qs : List ℕ} → Parts R Ps → Parts R Qs → Ps ≡ Qs
  parts_unique done done = refl
  parts_unique done (next s p ps) = absurd (nothing (s.sub p.member))
  parts_unique (next s p ps) done = absurd (nothing (s.sub p.member))
  parts_unique (next {R} {Ps = Ps} s p ps) (next {P = Q} {Ps = Qs} t q qs) =
      let e = part_unique p q in
      ap₂ (λ (X : ℕ) (Xs : List ℕ). X ∷ Xs) e (parts_unique ps (subst (λ (X : ℕ). Parts (R ∖ X) Qs) (sym e) qs))

  module _ (fits : S < 2 ^ k) where
    -- Enough fuel for R makes a list of its parts.
    abbrev Enough : ℕ → Type 0
    Enough f = (R : ℕ) → R ⊆ S → Apart R → count k R ≤ f → Parts R (parts_of k μ m cols S f R)

    parts_step : (f : ℕ) → Enough f → Enough (suc f)
    unfolding parts_of
    parts_step f ih zero s a l = done
    parts_step f ih (suc r) s a l = next in_r p (ih (R ∖ P) (⊆-trans (∖-⊆ R P) s) apart_r (omega (arith, count_< k (∖-⊆ R P) (below k fits l_s) l_r (λ h. ((in∖ R P).0 h).1 p.member))))
      where
        R : ℕ
        R = suc r

        l_r : low k R ∈ R
        l_r = low_in k (omega arith) (omega (arith, ⊆-≤ s))

        l_s : low k R ∈ S
        l_s = s.sub l_r

        P : ℕ
        P = part k μ m cols S (low k R)

        p : Part (low k R) P
        p = part_is l_s

        in_r : P ⊆ R
        in_r = p.smallest s l_r a

        apart_r : Apart (R ∖ P)
        apart_r =
            subst Apart
            (ext (record { sub = λ h. let (x, y) = (in∩ R (S ∖ P)).0 h in (in∖ R P).1 (x, ((in∖ S P).0 y).1) })
            (record { sub = λ h. let (x, y) = (in∖ R P).0 h in (in∩ R (S ∖ P)).1 (x, (in∖ S P).1 (s.sub x, y)) }))
            (apart_∩ s (∖-⊆ S P) a (apart_rest p.inside p.shut))

    parts_of_lem : (f : ℕ) → Enough f
    unfolding parts_of
    parts_of_lem zero = λ R s a l. subst (λ (X : ℕ). Parts X []) (sym (count_zero k {x = R} (omega (arith, ⊆-≤ s)) (omega arith))) done
    parts_of_lem (suc f) = parts_step f (parts_of_lem f)

    -- The parts of S are such a list.
    pub parts_are : Parts S (parts k μ m cols S)
    unfolding parts
    parts_are = parts_of_lem k S (⊆-refl S) apart_all (count_le k S)

    -- A column that takes part and has a one in a part has all its ones of S there.
    pub ones_together : Positive μ → {A i j l : ℕ} (c : ℕ) → c < m → A ⊆ S → Apart A → l ∈ S → l ∈ (cols c).zeros → i ∈ A → i ∈ (cols c).ones → j ∈ S → j ∈ (cols c).ones → j ∈ A
    unfolding share
    ones_together pos {A} {i} {j} {l} c b s a l_s lz iA io jS jo = go (in? j A)
      where
        go : Dec (j ∈ A) → j ∈ A
        go (yes h) = h
        go (no n) =
            absurd (
            omega (
              arith,
              a.none c b,
              mass_in k μ pos (below k fits (s.sub iA)) ((in∩ (cols c).ones A).1 (io, iA)),
              mass_in k μ pos (below k fits jS) ((in∩ (cols c).ones (S ∖ A)).1 (jo, (in∖ S A).1 (jS, n))),
              mass_in k μ pos (below k fits l_s) ((in∩ (cols c).zeros S).1 (lz, l_s)),
            ))

-- ---- after the flips of a division

-- The flipped column has no zero left in S, or no one on one of the sides.
flip_apart : (k : ℕ) (μ : ℕ → ℕ) (S A : ℕ) (c : Column) → share k μ S A (flip k μ S A c) ≡ 0
unfolding share raise lower
flip_apart k μ S A c = go (flip_is k μ S A c)
  where
    gone : (x y : ℕ) → mass k μ ((x ∖ y) ∩ y) ≡ 0
    gone x y = ap (mass k μ) (empty (λ i h. let (p, q) = (in∩ (x ∖ y) y).0 h in ((in∖ x y).0 p).1 q)) ∙ mass_none k μ

    go : {d : Column} → Flip k μ S A c d → share k μ S A d ≡ 0
    go (up h l) = omega (arith, gone c.zeros S)
    go (left h l) = omega (arith, gone c.ones A)
    go (right h l) = omega (arith, gone c.ones (S ∖ A))

module _ (k : ℕ) (μ : ℕ → ℕ) (m : ℕ) (cols : ℕ → Column) (S A : ℕ) (s : A ⊆ S) where
  pub flipped_apart : Apart k μ m (flipped k μ m cols S A) S A
  unfolding flipped
  flipped_apart = record { none = λ c l. flip_apart k μ S A (cols c) }

  -- Each part lies on one side of the division,
  pub part_side : {i P : ℕ} → Part k μ m (flipped k μ m cols S A) S i P → P ⊆ A ⊎ P ⊆ S ∖ A
  part_side p = one_side k μ m (flipped k μ m cols S A) S p s flipped_apart

  -- and so is smaller than S: there are at least two.
  pub part_smaller : {i P : ℕ} → S < 2 ^ k → Division k S A → Part k μ m (flipped k μ m cols S A) S i P → count k P < count k S
  part_smaller {i} {P} fits d p = ⊎_elim in_A in_rest (part_side p)
    where
      miss : {j : ℕ} → j ∈ S → j ∉ P → count k P < count k S
      miss h n = count_< k p.inside (below k fits h) h n

      in_A : P ⊆ A → count k P < count k S
      in_A r = let (h, n) = (in∖ S A).0 (parted_in k fits d) in miss h (λ j. n (r.sub j))

      in_rest : P ⊆ S ∖ A → count k P < count k S
      in_rest r = miss (s.sub d.lowest) (λ h. ((in∖ S A).0 (r.sub h)).1 d.lowest)
