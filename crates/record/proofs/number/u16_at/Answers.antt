-- `record::number::u16_at` meets its contract: two bytes, as `number_at 2` spells them.
use native.Mathlib.Omega.{arith}
use Rattle.record.specs.Bytes.{number_at}
use Rattle.record.proofs.number.u16_at.Goals as goal

pub returns : goal.returns
unfolding number_at
returns c = omega arith
