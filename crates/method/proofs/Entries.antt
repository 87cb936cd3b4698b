-- Entries of a column before and after a split: outside the group nothing changes, and in each part the column is as it was or settled. So flips
-- add up where no entry is flipped twice.
use mathlib.Core.Path.{◌≡◌, refl, sym, ap, ◌∙◌}
use mathlib.Core.Logic.{◌⊎◌, inl, inr, ⊎_elim}
use Prim.Native.Nat.{ℕ, zero, suc, ◌+◌, ◌*◌, ◌^◌, ◌<◌}
use native.Mathlib.Nat.{mul-add, mul-zero, suc-mul}
use native.Mathlib.Omega.{arith}
use Rattle.taxa.specs.Sets.{has, ◌∈◌, ◌∉◌, ◌⊆◌, ◌∩◌, ◌∪◌, ◌∖◌, mass, Positive}
use Rattle.taxa.proofs.Sums.{sum_≡, sum_+, sum_none, term_≤}
use Rattle.taxa.proofs.Members.{in∩, in∖, in∪, ext, empty, ⊆-refl, ∩-⊆ʳ, ∖-⊆, below, same_bool, ∪-comm, ∪-split}
use Rattle.taxa.proofs.Masses.{mass_none, mass_in, mass_∪}
use Rattle.method.specs.Split.{Column, Same, raise, lower, share, flip, division_cost}
use Rattle.method.proofs.Flips.{Proper, flips, weighed, Flip, up, left, right, flip_is}

-- ---- entries

pub same_refl : (c : Column) (i : ℕ) → Same c c i
same_refl c i = record { ones = refl; zeros = refl }

pub same_trans : {c d e : Column} {i : ℕ} → Same c d i → Same d e i → Same c e i
same_trans s t = record { ones = s.ones ∙ t.ones; zeros = s.zeros ∙ t.zeros }

pub same_sym : {c d : Column} {i : ℕ} → Same c d i → Same d c i
same_sym s = record { ones = sym s.ones; zeros = sym s.zeros }

pub same_one : {c d : Column} {i : ℕ} → Same c d i → i ∈ d.ones → i ∈ c.ones
same_one s h = record { is = s.ones ∙ h.is }

pub same_zero : {c d : Column} {i : ℕ} → Same c d i → i ∈ d.zeros → i ∈ c.zeros
same_zero s h = record { is = s.zeros ∙ h.is }

-- A column that has no 0, or no 1, in X: no split of X or of a part of X flips it.
pub data Settled (X : ℕ) (c : Column) : Type 0 where
  no_zero : ((i : ℕ) → i ∈ X → i ∉ c.zeros) → Settled X c
  no_one : ((i : ℕ) → i ∈ X → i ∉ c.ones) → Settled X c

pub settled_⊆ : {X Y : ℕ} {c : Column} → X ⊆ Y → Settled Y c → Settled X c
settled_⊆ s (no_zero h) = no_zero (λ i x. h i (s.sub x))
settled_⊆ s (no_one h) = no_one (λ i x. h i (s.sub x))

-- A column that is the same in X is settled there too.
pub settled_same : {X : ℕ} {c d : Column} → ((i : ℕ) → i ∈ X → Same c d i) → Settled X c → Settled X d
settled_same e (no_zero h) = no_zero (λ i x z. h i x (same_zero (e i x) z))
settled_same e (no_one h) = no_one (λ i x z. h i x (same_one (e i x) z))

pub raise_same : (X : ℕ) (c : Column) {i : ℕ} → i ∉ c.zeros ∩ X → Same c (raise X c) i
unfolding raise
raise_same X c n = record {
  ones = same_bool (λ h. (in∪ c.ones (c.zeros ∩ X)).1 (inl h)) (λ h. ⊎_elim (λ j. j) (λ j. absurd (n j)) ((in∪ c.ones (c.zeros ∩ X)).0 h));
  zeros = same_bool (λ h. (in∖ c.zeros X).1 (h, λ x. n ((in∩ c.zeros X).1 (h, x)))) (λ h. ((in∖ c.zeros X).0 h).0);
}

pub lower_same : (X : ℕ) (c : Column) {i : ℕ} → i ∉ c.ones ∩ X → Same c (lower X c) i
unfolding lower
lower_same X c n = record {
  ones = same_bool (λ h. (in∖ c.ones X).1 (h, λ x. n ((in∩ c.ones X).1 (h, x)))) (λ h. ((in∖ c.ones X).0 h).0);
  zeros = same_bool (λ h. (in∪ c.zeros (c.ones ∩ X)).1 (inl h)) (λ h. ⊎_elim (λ j. j) (λ j. absurd (n j)) ((in∪ c.zeros (c.ones ∩ X)).0 h));
}

-- The taxa that a column knows: flips leave them.
abbrev pub known : Column → ℕ
known c = c.ones ∪ c.zeros

raise_known : (X : ℕ) (c : Column) → known (raise X c) ≡ known c
unfolding raise
raise_known X c = ∪-split c.ones c.zeros X

lower_known : (X : ℕ) (c : Column) → known (lower X c) ≡ known c
unfolding lower
lower_known X c = ∪-comm (c.ones ∖ X) (c.zeros ∪ (c.ones ∩ X)) ∙ ∪-split c.zeros c.ones X ∙ ∪-comm c.zeros c.ones

-- In a group a column is as it was in the file, or settled.
abbrev pub Kept : Column → ℕ → Column → Type 0
Kept file X c = ((i : ℕ) → i ∈ X → Same file c i) ⊎ Settled X c

-- ---- one split, one column

-- Flips keep the weight.
pub flip_weight : (k : ℕ) (μ : ℕ → ℕ) (S A : ℕ) (c : Column) → (flip k μ S A c).weight ≡ c.weight
unfolding raise lower
flip_weight k μ S A c = go (flip_is k μ S A c)
  where
    go : {d : Column} → Flip k μ S A c d → d.weight ≡ c.weight
    go (up h l) = refl
    go (left h l) = refl
    go (right h l) = refl

module _ (k : ℕ) (μ : ℕ → ℕ) (S A : ℕ) (s : A ⊆ S) (c : Column) where
  pub flip_known : known (flip k μ S A c) ≡ known c
  flip_known = go (flip_is k μ S A c)
    where
      go : {d : Column} → Flip k μ S A c d → known d ≡ known c
      go (up h l) = raise_known S c
      go (left h l) = lower_known A c
      go (right h l) = lower_known (S ∖ A) c

  pub flip_proper : Proper c → Proper (flip k μ S A c)
  unfolding raise lower
  flip_proper p = go (flip_is k μ S A c)
    where
      raised : (X : ℕ) → Proper (raise X c)
      raised X = record { clash = λ h z. let (x, y) = (in∖ c.zeros X).0 z in ⊎_elim (λ o. p.clash o x) (λ o. y ((in∩ c.zeros X).0 o).1) ((in∪ c.ones (c.zeros ∩ X)).0 h) }

      lowered : (X : ℕ) → Proper (lower X c)
      lowered X = record { clash = λ h z. let (x, y) = (in∖ c.ones X).0 h in ⊎_elim (λ o. p.clash x o) (λ o. y ((in∩ c.ones X).0 o).1) ((in∪ c.zeros (c.ones ∩ X)).0 z) }

      go : {d : Column} → Flip k μ S A c d → Proper d
      go (up h l) = raised S
      go (left h l) = lowered A
      go (right h l) = lowered (S ∖ A)

  -- Outside S nothing changes,
  pub flip_frame : {i : ℕ} → i ∉ S → Same c (flip k μ S A c) i
  flip_frame {i} n = go (flip_is k μ S A c)
    where
      go : {d : Column} → Flip k μ S A c d → Same c d i
      go (up h l) = raise_same S c (λ j. n ((∩-⊆ʳ c.zeros S).sub j))
      go (left h l) = lower_same A c (λ j. n (s.sub ((∩-⊆ʳ c.ones A).sub j)))
      go (right h l) = lower_same (S ∖ A) c (λ j. n ((∖-⊆ S A).sub ((∩-⊆ʳ c.ones (S ∖ A)).sub j)))

  -- nor in a column that costs nothing, as one that is settled in S;
  pub flip_free : Positive μ → S < 2 ^ k → share k μ S A c ≡ 0 → (i : ℕ) → Same c (flip k μ S A c) i
  unfolding share
  flip_free pos fits e i = go (flip_is k μ S A c)
    where
      none : (x X : ℕ) → X ⊆ S → mass k μ (x ∩ X) ≡ 0 → i ∉ x ∩ X
      none x X t e h = omega (arith, mass_in k μ pos (below k fits (t.sub ((∩-⊆ʳ x X).sub h))) h)

      go : {d : Column} → Flip k μ S A c d → Same c d i
      go (up h l) = raise_same S c (none c.zeros S (⊆-refl S) (omega arith))
      go (left h l) = lower_same A c (none c.ones A s (omega arith))
      go (right h l) = lower_same (S ∖ A) c (none c.ones (S ∖ A) (∖-⊆ S A) (omega arith))

  pub settled_share : Settled S c → share k μ S A c ≡ 0
  unfolding share
  settled_share q = go q
    where
      none : (x X : ℕ) → X ⊆ S → ((i : ℕ) → i ∈ S → i ∉ x) → mass k μ (x ∩ X) ≡ 0
      none x X t n = ap (mass k μ) (empty (λ i h. let (a, b) = (in∩ x X).0 h in n i (t.sub b) a)) ∙ mass_none k μ

      go : Settled S c → share k μ S A c ≡ 0
      go (no_zero n) = omega (arith, none c.zeros S (⊆-refl S) n)
      go (no_one n) = omega (arith, none c.ones A s n)

  -- and in each part the column is the same or settled.
  pub flip_part : {P : ℕ} → P ⊆ S → (P ⊆ A ⊎ P ⊆ S ∖ A) → ((i : ℕ) → i ∈ P → Same c (flip k μ S A c) i) ⊎ Settled P (flip k μ S A c)
  unfolding raise lower
  flip_part {P} t o = go o (flip_is k μ S A c)
    where
      off : {X : ℕ} → ((i : ℕ) → i ∈ P → i ∉ X) → (i : ℕ) → i ∈ P → Same c (lower X c) i
      off {X} n i h = lower_same X c (λ j. n i h ((∩-⊆ʳ c.ones X).sub j))

      lowered : {X : ℕ} → P ⊆ X → Settled P (lower X c)
      lowered {X} u = no_one (λ i h j. ((in∖ c.ones X).0 j).1 (u.sub h))

      go : {d : Column} → P ⊆ A ⊎ P ⊆ S ∖ A → Flip k μ S A c d → ((i : ℕ) → i ∈ P → Same c d i) ⊎ Settled P d
      go o (up h l) = inr (no_zero (λ i h z. ((in∖ c.zeros S).0 z).1 (t.sub h)))
      go (inl u) (left h l) = inr (lowered u)
      go (inr u) (left h l) = inl (off (λ i h. ((in∖ S A).0 (u.sub h)).1))
      go (inl u) (right h l) = inl (off (λ i h j. ((in∖ S A).0 j).1 (u.sub h)))
      go (inr u) (right h l) = inr (lowered u)

  -- So what holds of a column in the group holds of it, after the split, in each part.
  pub kept_part : {P : ℕ} {file : Column} → Positive μ → S < 2 ^ k → P ⊆ S → (P ⊆ A ⊎ P ⊆ S ∖ A) → Kept file S c → Kept file P (flip k μ S A c)
  kept_part pos fits t o (inl e) = ⊎_elim (λ f. inl (λ i h. same_trans (e i (t.sub h)) (f i h))) inr (flip_part t o)
  kept_part pos fits t o (inr q) = inr (settled_⊆ t (settled_same (λ i h. flip_free pos fits (settled_share q) i) q))

-- ---- flips add up where no entry is flipped twice

-- At i the first two sets agree and the flip from y is not there, or the last two and the flip to w is not.
abbrev Either : ℕ → ℕ → ℕ → ℕ → ℕ → Type 0
Either x y z w i = ((has x i ≡ has z i) × i ∉ x ∩ y) ⊎ ((has y i ≡ has w i) × i ∉ z ∩ w)

mass_adds : (k : ℕ) (μ : ℕ → ℕ) (x y z w : ℕ) → ((i : ℕ) → Either x y z w i) → mass k μ (x ∩ w) ≡ mass k μ (x ∩ y) + mass k μ (z ∩ w)
mass_adds k μ x y z w h =
    ap (mass k μ) (ext (record { sub = λ {i} a. to i (h i) ((in∩ x w).0 a) }) (record { sub = λ {i} a. from i (h i) ((in∪ (x ∩ y) (z ∩ w)).0 a) }))
    ∙ mass_∪ k μ {x = x ∩ y} {y = z ∩ w} (record { off = λ {i} a b. ⊎_elim (λ e. e.1 a) (λ e. e.1 b) (h i) })
  where
    to : (i : ℕ) → Either x y z w i → i ∈ x × i ∈ w → i ∈ (x ∩ y) ∪ (z ∩ w)
    to i (inl (e, n)) (p, q) = (in∪ (x ∩ y) (z ∩ w)).1 (inr ((in∩ z w).1 (record { is = sym e ∙ p.is }, q)))
    to i (inr (e, n)) (p, q) = (in∪ (x ∩ y) (z ∩ w)).1 (inl ((in∩ x y).1 (p, record { is = e ∙ q.is })))

    from : (i : ℕ) → Either x y z w i → i ∈ x ∩ y ⊎ i ∈ z ∩ w → i ∈ x ∩ w
    from i (inl (e, n)) (inl b) = absurd (n b)
    from i (inl (e, n)) (inr b) = let (p, q) = (in∩ z w).0 b in (in∩ x w).1 (record { is = e ∙ p.is }, q)
    from i (inr (e, n)) (inl b) = let (p, q) = (in∩ x y).0 b in (in∩ x w).1 (p, record { is = sym e ∙ q.is })
    from i (inr (e, n)) (inr b) = absurd (n b)

module _ (k : ℕ) (μ : ℕ → ℕ) {c d e : Column} (p : Proper c) (q : Proper d) (once : (i : ℕ) → Same c d i ⊎ Same d e i) where
  flips_add : flips k μ c e ≡ flips k μ c d + flips k μ d e
  unfolding flips
  flips_add =
      omega (
        arith,
        mass_adds k μ c.zeros d.ones d.zeros e.ones (λ i. up_or i (once i)),
        mass_adds k μ c.ones d.zeros d.ones e.zeros (λ i. down_or i (once i)),
      )
    where
      up_or : (i : ℕ) → Same c d i ⊎ Same d e i → Either c.zeros d.ones d.zeros e.ones i
      up_or i (inl s) = inl (s.zeros, λ h. let (a, b) = (in∩ c.zeros d.ones).0 h in p.clash (same_one s b) a)
      up_or i (inr s) = inr (s.ones, λ h. let (a, b) = (in∩ d.zeros e.ones).0 h in q.clash (same_one s b) a)

      down_or : (i : ℕ) → Same c d i ⊎ Same d e i → Either c.ones d.zeros d.ones e.zeros i
      down_or i (inl s) = inl (s.ones, λ h. let (a, b) = (in∩ c.ones d.zeros).0 h in p.clash a (same_zero s b))
      down_or i (inr s) = inr (s.zeros, λ h. let (a, b) = (in∩ d.ones e.zeros).0 h in q.clash a (same_zero s b))

flips_self : (k : ℕ) (μ : ℕ → ℕ) {c : Column} → Proper c → flips k μ c c ≡ 0
unfolding flips
flips_self k μ {c} p =
    omega (
      arith,
      ap (mass k μ) (empty (λ i h. let (a, b) = (in∩ c.zeros c.ones).0 h in p.clash b a)),
      ap (mass k μ) (empty (λ i h. let (a, b) = (in∩ c.ones c.zeros).0 h in p.clash a b)),
      mass_none k μ,
    )

module _ (k : ℕ) (μ : ℕ → ℕ) (m : ℕ) where
  pub weighed_self : (cols : ℕ → Column) → ((c : ℕ) → Proper (cols c)) → weighed k μ m cols cols ≡ 0
  unfolding weighed
  weighed_self cols p = sum_none m (λ c l. ap (λ (n : ℕ). (cols c).weight * n) (flips_self k μ (p c)) ∙ mul-zero (cols c).weight)

  pub weighed_add : (cols mid last : ℕ → Column) → ((c : ℕ) → Proper (cols c)) → ((c : ℕ) → Proper (mid c)) → ((c : ℕ) → (mid c).weight ≡ (cols c).weight)
      → ((c i : ℕ) → Same (cols c) (mid c) i ⊎ Same (mid c) (last c) i) → weighed k μ m cols last ≡ weighed k μ m cols mid + weighed k μ m mid last
  unfolding weighed
  weighed_add cols mid last p q w once =
      sum_≡ m (λ c l. each c) ∙ sum_+ m (at cols mid) (at mid last)
    where
      at : (ℕ → Column) → (ℕ → Column) → ℕ → ℕ
      at x y c = (x c).weight * flips k μ (x c) (y c)

      each : (c : ℕ) → at cols last c ≡ at cols mid c + at mid last c
      each c =
          ap (λ (n : ℕ). (cols c).weight * n) (flips_add k μ (p c) (q c) (once c)) ∙ mul-add (cols c).weight (flips k μ (cols c) (mid c)) (flips k μ (mid c) (last c))
          ∙ ap (λ (n : ℕ). at cols mid c + n * flips k μ (mid c) (last c)) (sym (w c))

-- No weight is 0.
pub record Heavy (m : ℕ) (cols : ℕ → Column) : Type 0 where
  pub positive : (c : ℕ) → c < m → 0 < (cols c).weight

pub heavy_as : {m : ℕ} {cols mid : ℕ → Column} → ((c : ℕ) → (mid c).weight ≡ (cols c).weight) → Heavy m cols → Heavy m mid
heavy_as w h = record { positive = λ c b. omega (arith, w c, h.positive c b) }

-- A division that costs nothing flips no column.
pub cost_free : (k : ℕ) (μ : ℕ → ℕ) (m : ℕ) (cols : ℕ → Column) (S A : ℕ) → Heavy m cols → division_cost k μ m cols S A ≡ 0 → (c : ℕ) → c < m → share k μ S A (cols c) ≡ 0
unfolding division_cost
cost_free k μ m cols S A h e c b = go (cols c).weight (share k μ S A (cols c)) (h.positive c b) (omega (arith, term_≤ m (λ c. (cols c).weight * share k μ S A (cols c)) b))
  where
    go : (w n : ℕ) → 0 < w → w * n ≡ 0 → n ≡ 0
    go zero n p z = absurd (omega arith)
    go (suc w) n p z = omega (arith, suc-mul w n)
