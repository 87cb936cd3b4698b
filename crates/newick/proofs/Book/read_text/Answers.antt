-- `newick::Book::read_text` meets its contract. The invariant: the reader stands between tokens, past the blanks, and all that was read is in its lists.
use Rattle.newick.proofs.Ends.{begins}
use Rattle.newick.proofs.Book.read_text.Goals as goal

pub loop-here-init : goal.loop-here-init
loop-here-init c =
    let p = c.past_blanks-here.ensures in
    (p.3 _ (begins _ _ c.requires), p.0, p.2)

pub loop-here-preserved : goal.loop-here-preserved
loop-here-preserved c =
    let went = rw c.in_ok-next.was at c.take_token.ensures in
    let p = c.past_blanks-here-in-loop-here.ensures in
    (p.3 _ went.0, p.0, p.2)
