-- `record::same_few` meets its contract. The invariant: what is left to compare comes to what all comes to.
use borrow.Author.Tests.{eq-eqb, ne_eqb}
use mathlib.Core.Path.{sym}
use native.Mathlib.Omega.{arith}
use Rattle.record.proofs.Equal.{equal_next, equal_end}
use Rattle.record.proofs.same_few.Goals as goal

pub returns-then-one-i : goal.returns-then-one-i
returns-then-one-i c =
    let args = c.args in
    rw (c.loop-i.invariant.1, equal_next args.one.now args.other.now c.loop-i.i (omega arith) (omega arith), ne_eqb _ _ c.if-one-i.true)

pub loop-i-preserved : goal.loop-i-preserved
loop-i-preserved c =
    let args = c.args in
    (omega arith, rw (c.loop-i.invariant.1, equal_next args.one.now args.other.now c.loop-i.i (omega arith) (omega arith), eq-eqb _ _ c.if-one-i.false))

pub returns : goal.returns
returns c =
    let args = c.args in
    rw (c.loop-i.invariant.1, equal_end args.one.now args.other.now c.loop-i.i (omega arith) (omega arith))
