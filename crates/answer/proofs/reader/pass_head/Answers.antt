-- `answer::reader::pass_head` meets its contract: a refused step goes straight out, and else the head is judged.
use Rattle.record.specs.Records as records
use Rattle.record.proofs.Steps.{held}
use Rattle.answer.specs.Tests.{head_test}
use Rattle.answer.proofs.Walks.{found_at}
use native.Mathlib.Omega.{arith}
use Rattle.answer.proofs.reader.pass_head.Goals as goal

pub returns-in_default : goal.returns-in_default
unfolding head_test
returns-in_default c = rw (c.past.ensures, c.in_default.is, ← found_at _ records.answer_head c.of.ensures c.start.ensures c.read-step.ensures c.in_default.is)

pub u16_at-flips-requires : goal.u16_at-flips-requires
u16_at-flips-requires c = omega (arith, held (found_at _ records.answer_head c.of.ensures c.start.ensures c.read-step.ensures c.in-Payload.is))

pub u16_at-requires : goal.u16_at-requires
u16_at-requires c = omega (arith, held (found_at _ records.answer_head c.of.ensures c.start.ensures c.read-step.ensures c.in-Payload.is))

pub u16_at-requires-2 : goal.u16_at-requires-2
u16_at-requires-2 c = omega (arith, held (found_at _ records.answer_head c.of.ensures c.start.ensures c.read-step.ensures c.in-Payload.is))

pub u16_at-requires-3 : goal.u16_at-requires-3
u16_at-requires-3 c = omega (arith, held (found_at _ records.answer_head c.of.ensures c.start.ensures c.read-step.ensures c.in-Payload.is))

pub returns : goal.returns
unfolding head_test
returns c =
    rw (c.judge.ensures, c.head_fault-fault.ensures, c.u16_at-3.ensures, c.u16_at-2.ensures, c.u16_at.ensures, c.u16_at-flips.ensures, ← found_at _ records.answer_head c.of.ensures c.start.ensures c.read-step.ensures c.in-Payload.is)
