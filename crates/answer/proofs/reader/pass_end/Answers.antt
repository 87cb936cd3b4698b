-- `answer::reader::pass_end` meets its contract: a refused step goes straight out, and else the total is judged.
use mathlib.Core.Path.{refl}
use Rattle.record.specs.Records as records
use Rattle.answer.specs.Tests.{end_test}
use Rattle.answer.proofs.Walks.{sum_padded, found_at}
use Rattle.answer.proofs.reader.pass_end.Goals as goal

pub returns-in_default : goal.returns-in_default
unfolding end_test
returns-in_default c = rw (c.past.ensures, c.in_default.is, ← found_at _ records.answer_end c.of.ensures refl c.read-step.ensures c.in_default.is)

pub returns : goal.returns
unfolding end_test
returns c =
    rw (c.judge.ensures, c.total_fault.ensures, c.u32_at.ensures, c.costs_in-costs.ensures, sum_padded c.args.file.now c.args.groups, ← found_at _ records.answer_end c.of.ensures refl c.read-step.ensures c.in-Payload.is)
