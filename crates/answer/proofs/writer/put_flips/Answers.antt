-- `answer::writer::put_flips` meets its contract. The invariant: the records written so far stand at the front.
use borrow.Author.Rules.{rules}
use Rattle.record.proofs.Over.{nothing, next}
use Rattle.answer.specs.Content.{run}
use Rattle.answer.proofs.Runs.{run_more}
use Rattle.answer.proofs.Pieces.{length_all_flips}
use native.Mathlib.Omega.{arith}
use Rattle.answer.proofs.writer.put_flips.Goals as goal

pub loop-j-init : goal.loop-j-init
unfolding run
loop-j-init c = (search rules, nothing 0 _)

pub overflow_cast-columns : goal.overflow_cast-columns
overflow_cast-columns c = omega (arith, c.requires.by_index c.loop-j.j (omega arith))

pub loop-j-preserved : goal.loop-j-preserved
loop-j-preserved c =
    let s = c.args in
    (search rules, rw run_more (next _ _ _ _ _ c.loop-j.invariant.1 c.put_entry.ensures (omega arith) (omega (arith, length_all_flips s.columns.now s.raised.now s.lowered.now c.loop-j.j))))
