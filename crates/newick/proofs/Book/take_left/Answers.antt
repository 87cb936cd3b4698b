-- `newick::Book::take_left` meets its contract.
use native.Mathlib.Omega.{arith}
use Rattle.newick.proofs.Signs.{left_19, left_20, left_taken}
use Rattle.newick.proofs.Book.take_left.Goals as goal

pub returns-then-from-gt-COLUMNS : goal.returns-then-from-gt-COLUMNS
returns-then-from-gt-COLUMNS c = λ text h e s. rw c.at.ensures (left_19 h e s c.if-from-gt-COLUMNS.true)

pub returns-then-depth-eq-DEPTH : goal.returns-then-depth-eq-DEPTH
returns-then-depth-eq-DEPTH c = λ text h e s. rw c.at-then-depth-eq-DEPTH.ensures (left_20 h e s (omega arith) c.if-depth-eq-DEPTH.true)

pub returns : goal.returns
returns c = λ text h e s.
    rw c.put_clade.ensures
    (left_taken h e s (omega arith) (omega arith), omega (arith, s.after), omega (arith, s.after, s.inside))
