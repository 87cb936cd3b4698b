-- `record::Cursor::finds` meets its contract: too few bytes start no record, and else the kind says it.
use native.Mathlib.Omega.{arith}
use Rattle.record.proofs.Steps.{finds_none, finds_kind}
use Rattle.record.proofs.Cursor.finds.Goals as goal

pub returns-then-left-lt4 : goal.returns-then-left-lt4
returns-then-left-lt4 c = finds_none _ _ _ (omega arith)

pub returns : goal.returns
returns c = rw c.u16_at.ensures (finds_kind _ _ _ (omega arith))
