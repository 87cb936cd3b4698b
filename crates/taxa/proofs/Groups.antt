-- Laws of two groups: nested or disjoint goes both ways (`pair_sym`), and the file's order is a strict one (`before_trans`, `before_differ`).
use mathlib.Core.Path.{ap, ◌∙◌}
use mathlib.Core.Logic.{◌≢◌, inl, inr}
use Prim.Native.Nat.{ℕ}
use native.Mathlib.Omega.{arith}
use Rattle.taxa.specs.Sets.{Disjoint, count, low}
use Rattle.taxa.specs.Groups.{NestedOrDisjoint, Before, sooner, larger}

pub disjoint_sym : {X Y : ℕ} → Disjoint X Y → Disjoint Y X
disjoint_sym o = record { off = λ y x. o.off x y }

pub pair_sym : {X Y : ℕ} → NestedOrDisjoint X Y → NestedOrDisjoint Y X
pair_sym (inl s) = inr (inl s)
pair_sym (inr (inl s)) = inl s
pair_sym (inr (inr o)) = inr (inr (disjoint_sym o))

pub before_trans : {k x y z : ℕ} → Before k x y → Before k y z → Before k x z
before_trans (sooner l) (sooner h) = sooner (omega arith)
before_trans (sooner l) (larger e h) = sooner (omega arith)
before_trans (larger e l) (sooner h) = sooner (omega arith)
before_trans (larger e l) (larger d h) = larger (e ∙ d) (omega arith)

-- "None twice."
pub before_differ : {k x y : ℕ} → Before k x y → x ≢ y
before_differ {k} (sooner l) e = omega (arith, ap (low k) e)
before_differ {k} (larger s l) e = omega (arith, ap (count k) e)
