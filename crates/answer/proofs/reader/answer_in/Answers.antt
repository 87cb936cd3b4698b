-- `answer::reader::answer_in` meets its contract: each number is what stands at its place.
use Rattle.answer.proofs.reader.answer_in.Goals as goal

pub returns : goal.returns
returns c =
    rw (c.u32_at.ensures, c.u16_at-3.ensures, c.u16_at-2.ensures, c.u16_at.ensures, c.costs_in-costs.ensures, c.taxa_in-taxa.ensures, c.u16_at-groups.ensures)
