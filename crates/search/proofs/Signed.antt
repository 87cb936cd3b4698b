-- Laws of an integer told by what goes out and what comes in. `omega` reads no integer, and reads these two numbers.
use mathlib.Core.Path.{◌≡◌, refl, subst}
use mathlib.Core.Bool.{Bool, true, false, cond}
use Prim.Native.Nat.{ℕ, zero, suc, ◌+◌, ◌-◌, ◌≤◌, ◌<◌, ◌^◌, zero-le}
use native.Mathlib.Nat.{not-suc-le-zero}
use native.Mathlib.Omega.{arith}
use lib.Dec.{T, ltb}
use lib.IntN.{ℤ, pos, negsuc, sub_ℕ, neg_ℤ, nat_abs, ◌+ℤ◌, ◌-ℤ◌}
use lib.Signed.{lt_z, non_neg}
use lib.Pow.{pow_pos}
use mir.Syntax.{Width}
use mir.Val.{SFits, hbits}
use borrow.Author.Tests.{ltb-true, ltb-false}
use Rattle.search.specs.Signed.{out_of, inn_of}
use Rattle.search.specs.inner.Places.{Diff}

pub itself : (z : ℤ) → Diff (out_of z) (inn_of z) z
itself (pos n) = omega arith
itself (negsuc n) = omega arith

-- ---- sums and differences

by_test : (b : Bool) (x y : ℤ) (P : ℤ → Type 0) → (b ≡ true → P x) → (b ≡ false → P y) → P (cond b x y)
by_test true x y P f g = f refl
by_test false x y P f g = g refl

sub_nat : (a b : ℕ) → Diff a b (sub_ℕ a b)
sub_nat a b =
    by_test (ltb a b) (negsuc (b - suc a)) (pos (a - b)) (Diff a b)
    (λ e. let h = ltb-true a b e in omega arith)
    (λ e. let h = ltb-false a b e in omega arith)

pub add : (x y : ℤ) → Diff (out_of x + out_of y) (inn_of x + inn_of y) (x +ℤ y)
add (pos a) (pos b) = omega arith
add (pos a) (negsuc b) = let d = sub_nat a (suc b) in omega arith
add (negsuc a) (pos b) = let d = sub_nat b (suc a) in omega arith
add (negsuc a) (negsuc b) = omega arith

neg : (z : ℤ) → Diff (inn_of z) (out_of z) (neg_ℤ z)
neg (pos zero) = omega arith
neg (pos (suc n)) = omega arith
neg (negsuc n) = omega arith

pub sub : (x y : ℤ) → Diff (out_of x + inn_of y) (inn_of x + out_of y) (x -ℤ y)
sub x y = let d = add x (neg_ℤ y) in let n = neg y in let i = itself y in omega arith

-- ---- what a signed type of a width holds

pub fits : (w : Width) (z : ℤ) → out_of z < 2 ^ hbits w → inn_of z ≤ 2 ^ hbits w → SFits w z
fits w (pos n) h l = record { sfits = h }
fits w (negsuc n) h l = record { sfits = l }

pub record Held (w : Width) (z : ℤ) : Type 0 where
  pub out : out_of z < 2 ^ hbits w
  pub inn : inn_of z ≤ 2 ^ hbits w

pub held : {w : Width} {z : ℤ} → SFits w z → Held w z
held {w} {z = pos n} h = record { out = h.sfits; inn = zero-le }
held {w} {z = negsuc n} h = record { out = pow_pos (hbits w); inn = h.sfits }

-- ---- the test z < 0

pub below : (z : ℤ) → lt_z z (pos 0) ≡ true → out_of z ≡ 0
below (pos n) e = absurd (not-suc-le-zero (ltb-true n 0 e))
below (negsuc n) e = refl

-- A number that is not below 0 is its own absolute value: what a cast to an unsigned type reads.
pub record NonNeg (z : ℤ) : Type 0 where
  pub test : T (non_neg z)
  pub abs : nat_abs z ≡ out_of z
  pub inn : inn_of z ≡ 0

pub unsign : (z : ℤ) → inn_of z ≡ 0 → NonNeg z
unsign (pos n) e = record { test = tt; abs = refl; inn = refl }
unsign (negsuc n) e = absurd (omega arith)

pub above : (z : ℤ) → lt_z z (pos 0) ≡ false → NonNeg z
above (pos n) e = record { test = tt; abs = refl; inn = refl }
above (negsuc n) e = absurd (subst T e tt)
