-- `taxa::listed` meets its contract: inside the list nothing is read past its end.
use native.Mathlib.Omega.{arith}
use mathlib.Core.Path.{sym}
use lib.ListN.{get_or-eq_default}
use Rattle.taxa.specs.Sets.{multiplicity}
use Rattle.taxa.proofs.Planes.{any_default}
use Rattle.taxa.proofs.listed.Goals as goal

pub overflow_cast-result : goal.overflow_cast-result
overflow_cast-result c = omega (arith, c.type_inv.multiplicities c.args.i)

pub returns-then-i-multiplicities : goal.returns-then-i-multiplicities
unfolding multiplicity
returns-then-i-multiplicities c = let a = c.args in any_default a.multiplicities.now a.i 0 1 (omega arith)

pub returns-else-i-multiplicities : goal.returns-else-i-multiplicities
unfolding multiplicity
returns-else-i-multiplicities c = sym (get_or-eq_default c.args.multiplicities.now 1 (omega arith))
