-- `record::Varying::standing` meets its contract, by the test that led to each return.
use mathlib.Core.Path.{sym, ◌∙◌}
use Rattle.record.proofs.Varying.standing.Goals as goal

pub returns-then-allows : goal.returns-then-allows
returns-then-allows c = rw (sym c.allows.ensures ∙ c.if-allows.true)

pub returns : goal.returns
returns c = rw (sym c.allows.ensures ∙ c.if-allows.false)
