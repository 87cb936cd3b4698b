-- `taxa::size` meets its contract: the machine counts the set digits of a word.
use Rattle.taxa.proofs.Counts.{ones_count}
use Rattle.taxa.proofs.size.Goals as goal

pub returns : goal.returns
returns c = ones_count 64 c.args.x c.ranges.x.fits
