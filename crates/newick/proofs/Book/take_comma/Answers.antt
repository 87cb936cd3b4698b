-- `newick::Book::take_comma` meets its contract.
use native.Mathlib.Omega.{arith}
use Rattle.newick.proofs.Signs.{comma_outside, comma_taken}
use Rattle.newick.proofs.Book.take_comma.Goals as goal

pub returns-then-from-eq0 : goal.returns-then-from-eq0
returns-then-from-eq0 c = λ text h e s. rw c.at.ensures (comma_outside h e s c.if-from-eq0.true)

pub returns : goal.returns
returns c = λ text h e s. (comma_taken h e s _ (omega arith), omega (arith, s.after), omega (arith, s.after, s.inside))
