-- `newick::read_with` meets its contract.
use Rattle.record.proofs.Passing.{handed_on}
use Rattle.newick.proofs.Finding.{found, told}
use Rattle.newick.proofs.read_with.Goals as goal

pub returns-in_err-end : goal.returns-in_err-end
returns-in_err-end c =
    rw (handed_on _ _ c.from_residual.ensures.1) (told _ _ _ (rw c.in_err-end.was at c.read_text.ensures))

pub write_found-requires : goal.write_found-requires
write_found-requires c =
    let (h, ts, e) = rw c.in_ok-end.was at c.read_text.ensures in
    found h e
