-- `newick::Book::take_semicolon` meets its contract.
use native.Mathlib.Omega.{arith}
use Rattle.newick.proofs.Signs.{semicolon_inside, semicolon_taken}
use Rattle.newick.proofs.Book.take_semicolon.Goals as goal

pub returns-then-from-gt0 : goal.returns-then-from-gt0
returns-then-from-gt0 c = λ text h e s. rw c.at.ensures (semicolon_inside h e s c.if-from-gt0.true)

pub returns : goal.returns
returns c = λ text h e s.
    let (new, room) = c.fill_zeros.ensures in
    (semicolon_taken h e s _ _ (omega arith) (omega arith) room new, omega (arith, s.after), omega (arith, s.after, s.inside))
