-- `record::Cursor::nothing_after` meets its contract, by the two laws of `nothing_after`.
use mathlib.Core.Path.{ap, ◌∙◌}
use native.Mathlib.Omega.{arith}
use Rattle.std.specs.Prelude.{Err}
use Rattle.record.proofs.Steps as steps
use Rattle.record.proofs.Cursor.nothing_after.Goals as goal

pub returns-then-left-gt0 : goal.returns-then-left-gt0
returns-then-left-gt0 c = ap Err c.at.ensures ∙ steps.more_after _ _ (omega arith)

pub returns : goal.returns
returns c = steps.none_after _ _ (omega arith)
