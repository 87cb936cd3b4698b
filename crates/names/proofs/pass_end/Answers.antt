-- `names::pass_end` meets its contract: a refused step goes straight out, and else nothing may follow.
use mathlib.Core.Path.{◌≡◌}
use Rattle.record.specs.Records as records
use Rattle.record.specs.Records.{step, record_of}
use Rattle.names.specs.Check.{end_passed}
use Rattle.names.proofs.pass_end.Goals as goal

pub returns-in_default : goal.returns-in_default
unfolding end_passed
returns-in_default c =
    let found : (let args = c.args in
    c.read-step.result ≡ step args.file.now args.here.at (record_of records.names_end)) =
    rw (← c.of.ensures) c.read-step.ensures in
    rw (c.past.ensures, ← found, c.in_default.is)

pub returns : goal.returns
unfolding end_passed
returns c =
    let found : (let args = c.args in
    c.read-step.result ≡ step args.file.now args.here.at (record_of records.names_end)) =
    rw (← c.of.ensures) c.read-step.ensures in
    rw (c.nothing_after.ensures, ← found, c.in-Payload.is)
