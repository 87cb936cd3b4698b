-- `newick::Book::number_of` meets its contract. The invariant: the names so far are others.
use Rattle.grammar.specs.inner.Standing.{piece}
use Rattle.newick.proofs.Names.{Others}
use Rattle.newick.proofs.Book.number_of.Given as goal

abbrev pub invariant-loop-i : goal.invariant-loop-i
invariant-loop-i l = Others l.text l.self.starts l.self.sizes l.n (piece l.text l.at l.size) l.i
