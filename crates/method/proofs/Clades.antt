-- Groups of n taxa that are nested or disjoint, all n taxa among them, are with the single taxa a rooted tree (`clades_tree`): those of a build, and those of
-- any answer.
use mathlib.Core.Path.{◌≡◌, refl, sym, ap, subst}
use mathlib.Core.Logic.{◌⊎◌, inl, inr, ⊎_elim}
use mathlib.Core.List.{List, Memᴰ}
use Prim.Native.Nat.{ℕ, ◌^◌, ◌<◌}
use native.Mathlib.Decide.{dec_lt}
use native.Mathlib.Omega.{arith}
use Rattle.taxa.specs.Sets.{◌∈◌, ◌⊆◌, Disjoint, count, all}
use Rattle.taxa.specs.Groups.{NestedOrDisjoint}
use Rattle.taxa.proofs.Groups.{pair_sym}
use Rattle.taxa.proofs.Members.{in?, in_all, in_pos, in_pow, pow_in, pow_⊆}
use Rattle.taxa.proofs.Counts.{count_pos}
use Rattle.method.specs.Tree.{Group, Clade, group, single, RootedTree}

-- A set has a taxon or shares nothing with it.
pub single_in : (i Y : ℕ) → 2 ^ i ⊆ Y ⊎ Disjoint (2 ^ i) Y
single_in i Y = elim (in? i Y) [ yes h ↦ inl (pow_⊆ h) | no n ↦ inr (record { off = λ x y. n (subst (λ (a : ℕ). a ∈ Y) (pow_in i x) y) }) ]

pair_single : (i Y : ℕ) → NestedOrDisjoint (2 ^ i) Y
pair_single i Y = ⊎_elim inl (λ o. inr (inr o)) (single_in i Y)

-- Groups of n taxa as document 01 has them in an answer.
pub record Grouped (n : ℕ) (gs : List Group) : Type 0 where
  pub some : 0 < n
  pub whole : 1 < n → (g : Group) × Memᴰ g gs × (g.taxa ≡ all n)
  pub two : {g : Group} → Memᴰ g gs → 1 < count 64 g.taxa
  pub inside : {g : Group} → Memᴰ g gs → g.taxa ⊆ all n
  pub nested : {g h : Group} → Memᴰ g gs → Memᴰ h gs → NestedOrDisjoint g.taxa h.taxa

pub clades_tree : {n : ℕ} {gs : List Group} → Grouped n gs → RootedTree (all n) (Clade (all n) gs)
clades_tree {n} {gs} of =
    record {
      root = elim (dec_lt 1 n) [
        | yes several ↦ let (g, l, e) = of.whole several in group g l (sym e)
        | no one ↦ let e : n ≡ 1 = omega (arith, of.some) in single 0 (in_all n of.some) (ap all e)
      ];
      leaf = λ {i} x. single i x refl;
      some = some;
      inside = inside;
      laminar = record { pair = pair };
    }
  where
    some : {Y : ℕ} → Clade (all n) gs Y → 0 < Y
    some (group g l e) = omega (arith, e, count_pos 64 {x = g.taxa} (omega (arith, of.two l)))
    some (single i x e) = omega (arith, e, in_pos (in_pow i))

    inside : {Y : ℕ} → Clade (all n) gs Y → Y ⊆ all n
    inside (group g l e) = rw e (of.inside l)
    inside (single i x e) = rw e (pow_⊆ x)

    pair : {X Y : ℕ} → Clade (all n) gs X → Clade (all n) gs Y → NestedOrDisjoint X Y
    pair {Y = Y} (single i x e) q = rw e (pair_single i Y)
    pair {X = X} (group g l e) (single i y f) = rw f (pair_sym (pair_single i X))
    pair (group g l e) (group h r f) = rw (e, f) (of.nested l r)
