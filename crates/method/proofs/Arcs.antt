-- How many arcs a group's network has (`arc_count`): a build never comes to a group that has more (`comes_arcs`), and none has more than there are 1s
-- (`arcs_ones`). So a workspace with a number for each 1 is enough (document 02, C-13).
use mathlib.Core.Path.{◌≡◌, refl}
use mathlib.Core.Bool.{Bool, true, false, cond}
use mathlib.Core.Logic.{inl, inr}
use Prim.Native.Nat.{ℕ, ◌^◌, ◌≤◌, ◌<◌}
use lib.Dec.{ltb}
use borrow.Author.Tests.{ltb-true, lt-ltb}
use Rattle.taxa.specs.Sets.{◌∈◌, ◌⊆◌, ◌∩◌, Positive, count, sizes}
use Rattle.taxa.proofs.Members.{in∩, none, ⊆-trans, ∩-⊆}
use Rattle.taxa.proofs.Counts.{count_in, count_some}
use Rattle.taxa.proofs.Ranks.{sizes_⊆}
use Rattle.method.specs.Split.{Column}
use Rattle.method.specs.Flow.{joined, arc_count}
use Rattle.method.specs.Tree.{HandsOn, Comes, here, below}
use Rattle.method.proofs.Network.{joined_⊆}
use Rattle.method.proofs.Entries.{same_refl, same_one, same_zero, no_zero, no_one, Kept}
use Rattle.method.proofs.Comes.{comes_⊆, comes_kept}

-- ---- one column

module _ (k S : ℕ) (c : Column) where
  -- A column that joins a taxon has a 0 in S,
  joined_zero : {i : ℕ} → i ∈ joined k S c → (j : ℕ) × (j < k) × (j ∈ c.zeros ∩ S)
  unfolding joined
  joined_zero {i} h = go (ltb 0 (count k (c.zeros ∩ S))) refl h
    where
      go : (t : Bool) → ltb 0 (count k (c.zeros ∩ S)) ≡ t → i ∈ cond t (c.ones ∩ S) 0 → (j : ℕ) × (j < k) × (j ∈ c.zeros ∩ S)
      go true e h = count_some k (c.zeros ∩ S) (ltb-true 0 (count k (c.zeros ∩ S)) e)
      go false e h = absurd (none h)

  -- and one that has joins its ones there.
  zero_joined : {i j : ℕ} → j < k → j ∈ c.zeros ∩ S → i ∈ c.ones ∩ S → i ∈ joined k S c
  unfolding joined
  zero_joined b z h = rw (lt-ltb 0 (count k (c.zeros ∩ S)) (count_in k b z)) h

-- A column that in P is as it was, or settled, joins no other taxa there than it did in S: settled it joins none.
joined_kept : (k : ℕ) {S P : ℕ} {old new : Column} → P ⊆ S → Kept old P new → joined k P new ⊆ joined k S old
joined_kept k {S} {P} {old} {new} s q = record {
  sub = λ {i} h. let (j, b, z) = joined_zero k P new h in go i j b ((in∩ new.ones P).0 ((joined_⊆ k P new).sub h)) ((in∩ new.zeros P).0 z) q;
}
  where
    go : (i j : ℕ) → j < k → i ∈ new.ones × i ∈ P → j ∈ new.zeros × j ∈ P → Kept old P new → i ∈ joined k S old
    go i j b (one, x) (zero, y) (inl e) =
        zero_joined k S old b ((in∩ old.zeros S).1 (same_zero (e j y) zero, s.sub y)) ((in∩ old.ones S).1 (same_one (e i x) one, s.sub x))
    go i j b (one, x) (zero, y) (inr (no_zero n)) = absurd (n j y zero)
    go i j b (one, x) (zero, y) (inr (no_one n)) = absurd (n i x one)

-- ---- all columns

module _ (m : ℕ) where
  -- Raised 1s take no arc: their column has no 0 left there.
  pub comes_arcs : {μ : ℕ → ℕ} → Positive μ → {cols cols' : ℕ → Column} {S S' : ℕ} → S < 2 ^ 64 → Comes 64 μ m cols S cols' S' → arc_count m cols' S' ≤ arc_count m cols S
  unfolding arc_count
  comes_arcs {μ} pos {cols} fits p =
      sizes_⊆ m (λ c b. joined_kept 64 (comes_⊆ 64 μ m fits p) (comes_kept 64 μ m pos {file = cols c} fits p c (inl (λ i h. same_refl (cols c) i))))

  pub turn_arcs : {μ : ℕ → ℕ} → Positive μ → {cols mid : ℕ → Column} {S P : ℕ} → S < 2 ^ 64 → HandsOn 64 μ m cols S mid P → arc_count m mid P ≤ arc_count m cols S
  turn_arcs pos fits d = comes_arcs pos fits (below d here)

  pub arcs_ones : (cols : ℕ → Column) (S : ℕ) → arc_count m cols S ≤ sizes m (λ c. (cols c).ones)
  unfolding arc_count
  arcs_ones cols S = sizes_⊆ m (λ c b. ⊆-trans (joined_⊆ 64 S (cols c)) (∩-⊆ (cols c).ones S))
