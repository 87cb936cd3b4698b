-- `taxa::rest` meets its contract: the lowest set digit goes.
use native.Mathlib.Omega.{arith}
use Prim.Native.Nat.{◌-◌}
use lib.Bits.{and_le_r}
use Rattle.taxa.proofs.Walk.{rest_is}
use Rattle.taxa.proofs.rest.Goals as goal

pub returns : goal.returns
returns c = (rest_is 64 c.args.x c.requires c.ranges.x.fits, omega (arith, and_le_r c.args.x (c.args.x - 1)))
