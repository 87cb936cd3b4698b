-- `taxa::lowest` meets its contract: the lowest taxon of a set that has one is in it.
use Rattle.taxa.proofs.Members.{low_in, low_<}
use Rattle.taxa.proofs.lowest.Goals as goal

pub returns : goal.returns
returns c =
    let some = c.requires in
    let fits = c.ranges.x.fits in
    (c.low.ensures, rw c.low.ensures (low_< 64 some fits), rw c.low.ensures (low_in 64 some fits))
