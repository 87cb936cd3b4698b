-- `matrix::pass_columns` meets its contract. The invariant: what is left to pass comes to what all comes to.
use mathlib.Core.Path.{◌≡◌, ◌∙◌}
use Prim.Native.Nat.{◌-◌, ◌+◌}
use native.Mathlib.Omega.{arith}
use Rattle.record.proofs.Passing.{handed_on}
use Rattle.matrix.specs.Check.{columns_passed}
use Rattle.matrix.proofs.Judging.{one_more}
use Rattle.matrix.proofs.pass_columns.Goals as goal

pub returns-in_err-cursor : goal.returns-in_err-cursor
returns-in_err-cursor c =
    let in-loop = c.loop in
    handed_on _ _ c.from_residual.ensures.1 ∙ rw (in-loop.invariant, one_more _ _ (c.args.m - in-loop.counter) in-loop.cursor (omega arith), ← c.pass_column.ensures, c.in_err-cursor.was)

pub loop-preserved : goal.loop-preserved
loop-preserved c =
    let in-loop = c.loop in
    let left : c.args.m - in-loop.counter - 1 ≡ c.args.m - (in-loop.counter + 1) = omega arith in
    rw (in-loop.invariant, one_more _ _ (c.args.m - in-loop.counter) in-loop.cursor (omega arith), ← c.pass_column.ensures, c.in_ok-cursor.was, left)

pub returns : goal.returns
unfolding columns_passed
returns c =
    let none : c.args.m - c.loop.counter ≡ 0 = omega arith in
    rw (c.loop.invariant, none)
