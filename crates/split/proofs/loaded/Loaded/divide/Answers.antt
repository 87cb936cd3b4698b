-- `Loaded::divide` meets its contract, by that over slices.
use native.Mathlib.Omega.{arith}
use Rattle.split.proofs.Standing.{sized}
use Rattle.split.proofs.loaded.Loaded.divide.Goals as goal

pub divide-requires : goal.divide-requires
divide-requires c =
    let x = c.args.self.now in
    let all = sized x x.weights (omega arith) in
    (rw all at c.requires.0, rw all at c.requires.1)

pub returns : goal.returns
returns c =
    let x = c.args.self.now in
    let all = sized x x.weights (omega arith) in
    (c.divide.ensures.0, rw all c.divide.ensures.1)
