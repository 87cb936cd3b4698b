-- `taxa::all` meets its contract: 2 to the 64 is out of a word, and 1 less is the word of ones.
use native.Mathlib.Omega.{arith}
use mathlib.Core.Path.{◌≡◌, ap}
use Prim.Native.Nat.{ℕ, ◌^◌}
use lib.Pow.{pow_pos}
use Rattle.taxa.proofs.all.Goals as goal

pub overflow_sub-result : goal.overflow_sub-result
overflow_sub-result c = omega (arith, c.single.ensures, pow_pos c.args.n)

pub returns-then-n-lt64 : goal.returns-then-n-lt64
returns-then-n-lt64 c = omega (arith, c.single.ensures)

pub returns-else-n-lt64 : goal.returns-else-n-lt64
returns-else-n-lt64 c = let e : c.args.n ≡ 64 = omega arith in omega (arith, ap (λ (n : ℕ). 2 ^ n) e)
