-- `matrix::load_planes` meets its contract: the bytes it hands on are the multiplicities.
use native.Mathlib.Omega.{arith}
use mathlib.Core.Path.{◌≡◌}
use Prim.Native.Nat.{◌+◌, ◌-◌}
use Rattle.matrix.specs.Matrix.{multiplicity_count, multiplicities_in}
use Rattle.matrix.proofs.load_planes.Goals as goal

pub put_planes-requires : goal.put_planes-requires
unfolding multiplicities_in
put_planes-requires c =
    let handed_on : 12 + c.multiplicity_count.result - 12 ≡ multiplicity_count c.args.file.now = omega arith in
    rw handed_on c.requires.fit

pub returns : goal.returns
unfolding multiplicities_in
returns c =
    let handed_on : 12 + c.multiplicity_count.result - 12 ≡ multiplicity_count c.args.file.now = omega arith in
    rw handed_on at c.put_planes.ensures
