-- `matrix::pass_column` meets its contract: a refused step goes straight out, and else the column is read and judged.
use native.Mathlib.Omega.{arith}
use mathlib.Core.Path.{◌≡◌, sym, ◌∙◌}
use Rattle.record.specs.Records as records
use Rattle.record.specs.Records.{step, record_of}
use Rattle.record.proofs.Steps.{held}
use Rattle.matrix.specs.Check.{column_passed}
use Rattle.matrix.proofs.pass_column.Goals as goal

pub returns-in_default : goal.returns-in_default
unfolding column_passed
returns-in_default c =
    let found : c.read-step.result ≡ step c.args.file.now c.args.here.at (record_of records.column) =
    rw (← c.of.ensures) c.read-step.ensures in
    rw (c.past.ensures, ← found, c.in_default.is)

pub read-requires : goal.read-requires
read-requires c =
    let found : c.read-step.result ≡ step c.args.file.now c.args.here.at (record_of records.column) =
    rw (← c.of.ensures) c.read-step.ensures in
    omega (arith, held (sym c.in-Payload.is ∙ found))

pub returns : goal.returns
unfolding column_passed
returns c =
    let found : c.read-step.result ≡ step c.args.file.now c.args.here.at (record_of records.column) =
    rw (← c.of.ensures) c.read-step.ensures in
    rw (c.judge.ensures, c.read.ensures, ← found, c.in-Payload.is)
