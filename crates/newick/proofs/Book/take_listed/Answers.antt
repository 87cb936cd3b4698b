-- `newick::Book::take_listed` meets its contract.
use borrow.Author.Rules.{rules}
use Rattle.newick.proofs.Places.{hinted_anyhow}
use Rattle.newick.proofs.Naming.{name_19, name_new}
use Rattle.newick.proofs.Book.take_listed.Goals as goal

pub returns-then-i-ge-TAXA : goal.returns-then-i-ge-TAXA
returns-then-i-ge-TAXA c = λ h e.
    let pre = c.requires in
    rw c.at.ensures (name_19 h e _ pre.1 pre.2 pre.3 _ c.number_of-i.ensures (search rules) (search rules))

pub returns : goal.returns
returns c = λ h e.
    let pre = c.requires in
    rw (c.behind_name.ensures, c.hint.ensures)
    (name_new (hinted_anyhow h _) e _ pre.1 pre.2 pre.3 _ c.number_of-i.ensures (search rules) (search rules), pre.2, pre.1.within)
