-- `entries::write_answer` meets its contract: what is written from three parts is written from the list.
use Rattle.entries.proofs.Writing.{parts_written}
use Rattle.entries.proofs.write_answer.Goals as goal

pub returns : goal.returns
returns c =
    let t = c.take_apart.ensures in
    parts_written c.args.answer c.args.list.now _ _ _ c.args.out.now (rw (t.columns_after, t.raised_after, t.lowered_after, c.min-count.ensures) at c.write_parts.ensures)
