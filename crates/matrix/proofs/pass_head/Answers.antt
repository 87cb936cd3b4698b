-- `matrix::pass_head` meets its contract: a refused step goes straight out, and else the head's two numbers are judged.
use native.Mathlib.Omega.{arith}
use mathlib.Core.Path.{◌≡◌, sym, ◌∙◌}
use Rattle.record.specs.Records as records
use Rattle.record.specs.Records.{step, record_of}
use Rattle.record.proofs.Steps.{held}
use Rattle.matrix.specs.Check.{head_passed}
use Rattle.matrix.proofs.pass_head.Goals as goal

pub returns-in_default : goal.returns-in_default
unfolding head_passed
returns-in_default c =
    let found : c.read-step.result ≡ step c.args.file.now 0 (record_of records.matrix_head) =
    rw (← c.start.ensures, ← c.of.ensures) c.read-step.ensures in
    rw (c.past.ensures, ← found, c.in_default.is)

pub u16_at-requires : goal.u16_at-requires
u16_at-requires c =
    let found : c.read-step.result ≡ step c.args.file.now 0 (record_of records.matrix_head) =
    rw (← c.start.ensures, ← c.of.ensures) c.read-step.ensures in
    omega (arith, held (sym c.in-Payload.is ∙ found))

pub overflow_add-at : goal.overflow_add-at
overflow_add-at c =
    let found : c.read-step.result ≡ step c.args.file.now 0 (record_of records.matrix_head) =
    rw (← c.start.ensures, ← c.of.ensures) c.read-step.ensures in
    omega (arith, held (sym c.in-Payload.is ∙ found))

pub u16_at-requires-2 : goal.u16_at-requires-2
u16_at-requires-2 c =
    let found : c.read-step.result ≡ step c.args.file.now 0 (record_of records.matrix_head) =
    rw (← c.start.ensures, ← c.of.ensures) c.read-step.ensures in
    omega (arith, held (sym c.in-Payload.is ∙ found))

pub returns : goal.returns
unfolding head_passed
returns c =
    let found : c.read-step.result ≡ step c.args.file.now 0 (record_of records.matrix_head) =
    rw (← c.start.ensures, ← c.of.ensures) c.read-step.ensures in
    rw (c.judge_head.ensures, c.u16_at-2.ensures, c.u16_at.ensures, ← found, c.in-Payload.is)
