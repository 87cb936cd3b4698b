-- `newick::Reading::past_blanks` meets its contract.
use Rattle.newick.proofs.Places.{blanks_passed}
use Rattle.newick.proofs.Reading.past_blanks.Goals as goal

pub returns : goal.returns
returns c =
    let run = c.after_blanks.ensures in
    rw c.standing.ensures (run.within, run.up, run.stops, λ k h. blanks_passed h run)
