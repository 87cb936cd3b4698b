-- `newick::Book::take_right` meets its contract.
use native.Mathlib.Omega.{arith}
use Rattle.newick.proofs.Signs.{right_outside, right_too_soon, right_taken}
use Rattle.newick.proofs.Book.take_right.Goals as goal

pub returns-then-from-eq0 : goal.returns-then-from-eq0
returns-then-from-eq0 c = λ text h e s. rw c.at.ensures (right_outside h e s c.if-from-eq0.true)

pub returns-then-not-self-last : goal.returns-then-not-self-last
returns-then-not-self-last c = λ text h e s. rw c.at-then-not-self-last.ensures (right_too_soon h e s _ (omega arith) c.if-not-self-last.true)

pub returns : goal.returns
returns c = λ text h e s.
    let closed = right_taken h e s _ (omega arith) c.if-not-self-last.false in
    rw (c.put_clade.ensures, c.difference-clade.ensures) (closed, omega (arith, s.after), omega (arith, s.after, s.inside))
