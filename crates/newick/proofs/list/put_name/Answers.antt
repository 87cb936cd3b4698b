-- `newick::list::put_name` meets its contract: the opening, and right after it the name's bytes.
use native.Mathlib.Omega.{arith}
use Rattle.record.proofs.Files.{length_opening}
use Rattle.record.proofs.Over.{next}
use Rattle.newick.proofs.Lists.{name_flat}
use Rattle.newick.proofs.list.put_name.Goals as goal

pub returns : goal.returns
returns c =
    let a = c.args in
    rw (name_flat a.text.now a.start a.size c.requires.0)
    (next _ _ _ _ _ c.put_opening.ensures c.put_bytes.ensures (omega arith) (simp length_opening))
