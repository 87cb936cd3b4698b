-- `taxa::multiplicity` meets its contract, by the table.
use native.Mathlib.Omega.{arith}
use Rattle.taxa.proofs.Planes.{in_small}
use Rattle.taxa.proofs.multiplicity.Goals as goal

pub overflow_cast-result-2 : goal.overflow_cast-result-2
overflow_cast-result-2 c = let a = c.args in omega (arith, c.requires.1.is a.i c.requires.0, in_small a.planes.now a.i)

pub returns : goal.returns
returns c =
    let a = c.args in
    let is = c.requires.1.is a.i c.requires.0 in
    (is, omega (arith, is, in_small a.planes.now a.i))
