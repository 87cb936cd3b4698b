-- `record::number::u64_at` meets its contract: two numbers of half the width.
use native.Mathlib.Omega.{arith}
use Rattle.record.proofs.Numbers.{at_add}
use Rattle.record.proofs.number.u64_at.Goals as goal

pub returns : goal.returns
returns c = rw (at_add 4 4) (omega arith)
