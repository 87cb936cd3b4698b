-- `score::weighed` meets its contract: a weight below 2^16 times at most 127 fits.
use mathlib.Core.Path.{ap}
use Prim.Native.Nat.{ℕ, ◌*◌}
use native.Mathlib.Nat.{mul-le-mul_left}
use native.Mathlib.Omega.{arith}
use Rattle.score.proofs.weighed.Goals as goal

pub overflow_mul-result : goal.overflow_mul-result
overflow_mul-result c = record { fits = omega (arith, mul-le-mul_left c.from.result c.requires) }

pub returns : goal.returns
returns c = (ap (λ (w : ℕ). w * c.args.flips) c.from.ensures, omega (arith, mul-le-mul_left c.from.result c.requires))
