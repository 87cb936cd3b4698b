-- `newick::Book::hinted` meets its contract: a hint that is right names the taxon, since no name stands twice in the list.
use borrow.Author.Rules.{rules}
use Rattle.newick.proofs.Names.{number_of_taxon}
use Rattle.newick.proofs.Book.hinted.Goals as goal

pub returns-then-same_at : goal.returns-then-same_at
returns-then-same_at c l =
    number_of_taxon c.args.at c.args.size c.requires.0 _ (search rules) c.if-self-i.true (c.same_at.ensures c.if-same_at.true)
