-- `newick::write_found` meets its contract.
use borrow.Author.Rules.{rules}
use native.Mathlib.Omega.{arith}
use Rattle.newick.proofs.Finding.{short_file, short_list, both_written}
use Rattle.newick.proofs.write_found.Goals as goal

pub returns-then-matrix-file : goal.returns-then-matrix-file
returns-then-matrix-file c = rw c.at.ensures (short_file c.requires _ _ (search rules))

pub returns-then-names-list : goal.returns-then-names-list
returns-then-names-list c =
    let pre = c.requires in
    rw c.at-then-names-list.ensures (short_list pre _ _ (search rules) (omega (arith, c.list_length-list.ensures _ _ pre.placed)))

pub returns : goal.returns
returns c =
    let pre = c.requires in
    let size = c.list_length-list.ensures _ _ pre.placed in
    rw (size, c.put_matrix.ensures, c.put_list.ensures) (both_written pre _ _ (search rules) (omega arith))
