-- `record::Cursor::read` meets its contract: the tests that led to each return are the premises of a law of `step`.
use mathlib.Core.Path.{ap, ◌∙◌}
use native.Mathlib.Omega.{arith}
use Rattle.record.specs.declared.Step.TheVariants.{Refused}
use Rattle.record.proofs.Steps as steps
use Rattle.record.proofs.Cursor.read.Goals as goal

pub returns-then-left-lt4 : goal.returns-then-left-lt4
returns-then-left-lt4 c = ap Refused c.at.ensures ∙ steps.no_opening _ _ _ (omega arith)

pub returns-then-u16_at-expected : goal.returns-then-u16_at-expected
returns-then-u16_at-expected c = ap Refused c.at-then-u16_at-expected.ensures ∙ steps.other_kind _ _ _ (omega arith) (omega arith)

pub returns-then-u16_at-expected-2 : goal.returns-then-u16_at-expected-2
returns-then-u16_at-expected-2 c = ap Refused c.at-then-u16_at-expected-2.ensures ∙ steps.other_length _ _ _ (omega arith) (omega arith) (omega arith)

pub returns-then-left-length : goal.returns-then-left-length
returns-then-left-length c = ap Refused c.at-then-left-length.ensures ∙ steps.payload_short _ _ _ (omega arith) (omega arith) (omega arith) (omega arith)

pub returns : goal.returns
returns c = steps.payload_at _ _ _ (omega arith) (omega arith) (omega arith) (omega arith)
