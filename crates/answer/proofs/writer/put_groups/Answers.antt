-- `answer::writer::put_groups` meets its contract. The invariant: the records written so far stand at the front.
use borrow.Author.Rules.{rules}
use Rattle.record.proofs.Over.{nothing, next}
use Rattle.answer.specs.Content.{run}
use Rattle.answer.proofs.Runs.{run_more}
use Rattle.answer.proofs.Pieces.{length_groups}
use native.Mathlib.Omega.{arith}
use Rattle.answer.proofs.writer.put_groups.Goals as goal

pub loop-i-init : goal.loop-i-init
unfolding run
loop-i-init c = (search rules, nothing 0 _)

pub loop-i-preserved : goal.loop-i-preserved
loop-i-preserved c =
    let s = c.args in
    (search rules, rw run_more (next _ _ _ _ _ c.loop-i.invariant.1 c.put_group.ensures (omega arith) (omega (arith, length_groups s.taxa.now s.costs.now c.loop-i.i))))
