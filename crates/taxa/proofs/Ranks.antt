-- Ranks: how many taxa of a set are below one of its taxa; and the sizes of a row of sets, added up.
use mathlib.Core.Path.{◌≡◌, ap, sym, ◌∙◌}
use mathlib.Core.Bool.{Bool, cond}
use Prim.Native.Nat.{ℕ, suc, ◌+◌, ◌*◌, ◌≤◌, ◌<◌}
use native.Mathlib.Omega.{arith}
use Rattle.taxa.specs.Sum.{sum, inside}
use Rattle.taxa.specs.Sets.{has, ◌∈◌, ◌⊆◌, ◌∩◌, mass, unit, count, sizes, all}
use Rattle.taxa.proofs.Sums.{sum_≡, sum_≤, sum_next, sum_mono, sum_bound}
use Rattle.taxa.proofs.Members.{in∩, in_all, all_<, ∩-≤, same_bool}
use Rattle.taxa.proofs.Counts.{count_le, count_⊆, count_width}

-- ---- one set

-- The taxa below i are those of the set masked.
pub count_below : {i k : ℕ} (x : ℕ) → i ≤ k → count k (x ∩ all i) ≡ count i x
unfolding count mass
count_below {i} {k} x l = sym (count_width l (omega (arith, ∩-≤ x (all i), all_< i))) ∙ sum_≡ i (λ j b. ap (λ (p : Bool). cond p 1 0) (same_bool (λ h. ((in∩ x (all i)).0 h).0) (λ h. (in∩ x (all i)).1 (h, in_all i b))))

module _ {i x : ℕ} (h : i ∈ x) where
  -- A taxon of the set counts above its own rank only.
  rank_next : count (suc i) x ≡ count i x + 1
  unfolding count mass sum
  rank_next = ap (λ (p : Bool). sum i (inside (has x) unit) + cond p 1 0) h.is

  pub rank_less : {j : ℕ} → i < j → count i x < count j x
  unfolding count mass
  rank_less l = omega (arith, rank_next, sum_mono (inside (has x) unit) l)

-- ---- a row of sets

module _ (row : ℕ → ℕ) where
  pub sizes_next : (c : ℕ) → sizes (c + 1) row ≡ sizes c row + count 64 (row c)
  unfolding sizes
  sizes_next c = sum_next c (λ e. count 64 (row e))

  pub sizes_mono : {c m : ℕ} → c ≤ m → sizes c row ≤ sizes m row
  unfolding sizes
  sizes_mono = sum_mono (λ e. count 64 (row e))

  pub sizes_few : (m : ℕ) → sizes m row ≤ m * 64
  unfolding sizes
  sizes_few m = sum_bound m 64 (λ c b. count_le 64 (row c))

module _ (m : ℕ) {row other : ℕ → ℕ} where
  pub sizes_≡ : ((c : ℕ) → c < m → row c ≡ other c) → sizes m row ≡ sizes m other
  unfolding sizes
  sizes_≡ e = sum_≡ m (λ c b. ap (count 64) (e c b))

  pub sizes_⊆ : ((c : ℕ) → c < m → row c ⊆ other c) → sizes m row ≤ sizes m other
  unfolding sizes
  sizes_⊆ s = sum_≤ m (λ c b. count_⊆ 64 (s c b))
