-- `newick::tokens::fill_zeros` meets its contract. The invariant: the 0-sets so far are the tree's other names.
use borrow.Author.Rules.{rules}
use lib.ListN.{take}
use Rattle.newick.proofs.Columns.{zero_more}
use Rattle.newick.proofs.tokens.fill_zeros.Goals as goal

pub loop-c-preserved : goal.loop-c-preserved
loop-c-preserved c =
    let l = c.loop-c in
    let a = c.args in
    let kept = take a.tree.columns a.zeros.now in
    let more = zero_more a.ones.now l.zeros kept a.tree.here a.tree.columns l.c (search rules) (search rules) (search rules) l.invariant.1 in
    (search rules, rw c.difference.ensures more)
