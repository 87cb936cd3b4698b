-- `record::Varying::allows` meets its contract: up to the least only the least is allowed, and above it the other two tests decide.
use native.Mathlib.Omega.{arith}
use Rattle.record.proofs.Lengths.{up_to_least, above_least}
use Rattle.record.proofs.Varying.allows.Goals as goal

pub returns-then-length-self : goal.returns-then-length-self
returns-then-length-self c = up_to_least _ _ (omega arith)

pub returns : goal.returns
returns c = above_least _ _ (omega arith)
