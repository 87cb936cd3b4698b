-- `record::Cursor::read_varying` meets its contract: it reads the record that is expected where the length stands, once a length can stand there.
use mathlib.Core.Path.{ap, ◌∙◌}
use native.Mathlib.Omega.{arith}
use Rattle.record.specs.declared.Step.TheVariants.{Refused}
use Rattle.record.specs.Records.{varying_step}
use Rattle.record.proofs.Steps.{no_opening}
use Rattle.record.proofs.Cursor.read_varying.Goals as goal

pub returns-then-left-lt4 : goal.returns-then-left-lt4
unfolding varying_step
returns-then-left-lt4 c = ap Refused c.at.ensures ∙ no_opening _ _ _ (omega arith)

pub returns : goal.returns
unfolding varying_step
returns c = rw (c.read.ensures, c.standing.ensures, c.u16_at.ensures)
