-- `entries::read_answer` meets its contract: what is read into three parts is read into the list.
use Rattle.std.proofs.Common.{arith}
use Rattle.record.proofs.Passing.{handed_on}
use Rattle.entries.proofs.Reading.{parts_refused, parts_read}
use Rattle.entries.proofs.read_answer.Goals as goal

pub returns-in_err-answer : goal.returns-in_err-answer
returns-in_err-answer c = rw (handed_on _ _ c.from_residual.ensures.1) (parts_refused _ _ _ _ _ c.read_parts.ensures c.in_err-answer.was)

pub fill-requires : goal.fill-requires
fill-requires c =
    let f = c.read_parts.ensures.taken _ c.in_ok-answer.was in
    (f.has_room, omega (arith, f.few), omega (arith, f.few), omega (arith, f.few), f.columns_narrow)

pub returns : goal.returns
returns c =
    let p = c.read_parts in
    let few = (p.ensures.taken _ c.in_ok-answer.was).few in
    rw c.fill.ensures (parts_read _ _ _ _ _ p.ensures c.in_ok-answer.was (omega (arith, few)) (omega (arith, few)) (omega (arith, few)))
