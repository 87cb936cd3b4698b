-- A loop over the columns flips them as the method does (`all_flipped`).
use mathlib.Core.Path.{◌≡◌, sym, ap, ◌∙◌, fun_ext}
use mathlib.Core.List.{List}
use mathlib.Core.Logic.{⊎_elim}
use Prim.Native.Nat.{ℕ, ◌+◌, ◌≤◌, ◌<◌, min}
use native.Mathlib.Omega.{arith}
use lib.ListN.{length, get_or, set, get_or-eq_default}
use borrow.Author.Tests.{le-leb, lt-leb}
use Rattle.taxa.specs.Sets.{◌∩◌, ◌∪◌, ◌∖◌, mass}
use Rattle.taxa.proofs.Members.{in∩, in∖, in∪, none, empty}
use Rattle.matrix.specs.declared.Column as matrix
use Rattle.method.specs.Split.{Column, raise, lower, flip, flipped}
use Rattle.method.proofs.Flips.{Flip, up, left, right, flip_is}
use Rattle.method.proofs.Entries.{flip_weight}
use Rattle.search.specs.Search.{cols_of}
use Rattle.split.specs.Columns.{column_of}
use Rattle.split.specs.inner.Handing.{Parallel}
use Rattle.split.proofs.Filling.{Filled, fill_one, fill_all}

-- ---- the rows of the method's table

module _ (k : ℕ) (μ : ℕ → ℕ) (S A : ℕ) (c : Column) where
  abbrev ones_a : ℕ
  ones_a = mass k μ (c.ones ∩ A)

  abbrev ones_b : ℕ
  ones_b = mass k μ (c.ones ∩ (S ∖ A))

  abbrev zeros_s : ℕ
  zeros_s = mass k μ (c.zeros ∩ S)

  pub raised : zeros_s ≤ min ones_a ones_b → raise S c ≡ flip k μ S A c
  unfolding flip
  raised h = rw (le-leb zeros_s (min ones_a ones_b) h)

  pub lowered_side : min ones_a ones_b < zeros_s → ones_a ≤ ones_b → lower A c ≡ flip k μ S A c
  unfolding flip
  lowered_side h l = rw (lt-leb zeros_s (min ones_a ones_b) h, le-leb ones_a ones_b l)

  pub lowered_rest : min ones_a ones_b < zeros_s → ones_b < ones_a → lower (S ∖ A) c ≡ flip k μ S A c
  unfolding flip
  lowered_rest h l = rw (lt-leb zeros_s (min ones_a ones_b) h, lt-leb ones_a ones_b l)

-- ---- columns past the end

-- Of no taxa there is nothing to raise or lower.
nothing_more : (X : ℕ) → 0 ∪ (0 ∩ X) ≡ 0
nothing_more X = empty (λ i h. ⊎_elim none (λ g. none ((in∩ 0 X).0 g).0) ((in∪ 0 (0 ∩ X)).0 h))

nothing_less : (X : ℕ) → 0 ∖ X ≡ 0
nothing_less X = empty (λ i h. none ((in∖ 0 X).0 h).0)

module _ (k : ℕ) (μ : ℕ → ℕ) (S A : ℕ) (c : Column) where
  -- A column with no entries stays so.
  flip_nothing : c.ones ≡ 0 → c.zeros ≡ 0 → ((flip k μ S A c).ones ≡ 0) × ((flip k μ S A c).zeros ≡ 0)
  unfolding raise lower
  flip_nothing o z = go (flip_is k μ S A c)
    where
      go : {d : Column} → Flip k μ S A c d → (d.ones ≡ 0) × (d.zeros ≡ 0)
      go (up h l) = (rw (o, z) (nothing_more S), rw z (nothing_less S))
      go (left h l) = (rw o (nothing_less A), rw (z, o) (nothing_more A))
      go (right h l) = (rw o (nothing_less (S ∖ A)), rw (z, o) (nothing_more (S ∖ A)))

-- ---- the loop

module _ (μ : ℕ → ℕ) (ws os₀ zs₀ : List ℕ) (S A : ℕ) where
  -- The columns before, and what the flips make of one.
  abbrev old : ℕ → Column
  old = cols_of ws os₀ zs₀

  abbrev new : ℕ → Column
  new c = flip 64 μ S A (old c)

  pub record Flipping (os zs : List ℕ) (c : ℕ) : Type 0 where
    pub ones : Filled (λ x. (new x).ones) os₀ os c
    pub zeros : Filled (λ x. (new x).zeros) zs₀ zs c

  module _ (p : Parallel ws os₀ zs₀) where
    past : (x : ℕ) → length ws ≤ x → ((new x).ones ≡ 0) × ((new x).zeros ≡ 0)
    unfolding cols_of
    past x b = flip_nothing 64 μ S A (old x) (get_or-eq_default os₀ 0 (omega arith)) (get_or-eq_default zs₀ 0 (omega arith))

    module _ {os zs : List ℕ} {c : ℕ} (f : Flipping os zs c) where
      pub flip_next : {r : matrix.Column} → c < length ws → column_of r ≡ flip 64 μ S A (cols_of ws os zs c)
          → Flipping (set os c r.ones) (set zs c r.zeros) (c + 1)
      unfolding cols_of
      flip_next {r} b e =
          let same : cols_of ws os zs c ≡ old c = λ i. record { weight = get_or ws c 0; ones = f.ones.left c (omega arith) i; zeros = f.zeros.left c (omega arith) i } in
          let flips : column_of r ≡ new c = e ∙ ap (flip 64 μ S A) same in
          record {
            ones = fill_one f.ones (omega arith) (ap (λ (d : Column). d.ones) flips);
            zeros = fill_one f.zeros (omega arith) (ap (λ (d : Column). d.zeros) flips);
          }

      pub all_flipped : length ws ≤ c → cols_of ws os zs ≡ flipped 64 μ (length ws) old S A
      unfolding flipped cols_of
      all_flipped b =
          fun_ext (λ x i. record {
            weight = sym (flip_weight 64 μ S A (old x)) i;
            ones = fill_all f.ones (omega arith) (λ y l. (past y (omega arith)).0) x i;
            zeros = fill_all f.zeros (omega arith) (λ y l. (past y (omega arith)).1) x i;
          })

      pub still_parallel : Parallel ws os zs
      still_parallel = record { ones = omega arith; zeros = omega arith }
