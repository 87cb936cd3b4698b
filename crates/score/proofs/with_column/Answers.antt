-- `score::with_column` meets its contract: nothing without a 1 (`without_ones`), else the flips at the node (`with_ones`), by what it calls.
use native.Mathlib.Omega.{arith}
use mathlib.Core.Path.{ap}
use Prim.Native.Nat.{◌*◌}
use Rattle.score.proofs.Columns.{without_ones, with_ones, flips_few}
use Rattle.score.proofs.with_column.Goals as goal

pub returns-then-it-eq0 : goal.returns-then-it-eq0
returns-then-it-eq0 c =
    let given = c.args in
    rw (without_ones _ given.it given.node (omega arith)) (record { raised = (omega arith, omega arith); lowered = (omega arith, omega arith) })

pub weighed-requires : goal.weighed-requires
weighed-requires c = omega (arith, flips_few _ _ c.args.node c.requires.2)

pub weighed-requires-2 : goal.weighed-requires-2
weighed-requires-2 c =
    omega (arith, flips_few _ _ c.args.node c.requires.2)

pub returns : goal.returns
returns c =
    let given = c.args in
    let up = ap (◌*◌ given.it.weight) c.raises_at.ensures.0 in
    let down = ap (◌*◌ given.it.weight) c.lowers_at.ensures.0 in
    rw (with_ones _ given.it given.node (omega arith)) (record { raised = (omega (arith, c.weighed.ensures, up), omega (arith, c.weighed.ensures)); lowered = (omega (arith, c.weighed-2.ensures, down), omega (arith, c.weighed-2.ensures)) })
