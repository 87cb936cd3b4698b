-- `score::distance` meets its contract: a weight below 2^16 times at most 16,256 fits.
use native.Mathlib.Nat.{mul-le-mul_left}
use native.Mathlib.Omega.{arith}
use Prim.Native.Nat.{◌+◌, ◌≤◌}
use Rattle.score.specs.Score.{distance}
use Rattle.score.proofs.distance.Goals as goal

pub overflow_mul-result : goal.overflow_mul-result
overflow_mul-result c =
    let raises = c.raises_at-raises in
    let lowers = c.lowers_at-lowers in
    let few : raises.result.0 + lowers.result.0 ≤ 16256 = omega arith in
    record { fits = omega (arith, mul-le-mul_left c.from.result few) }

pub returns : goal.returns
unfolding distance
returns c = rw (c.from.ensures, c.raises_at-raises.ensures.0, c.lowers_at-lowers.ensures.0)
