-- `taxa::count_in` meets its contract: a part of a word has no more digits.
use lib.Bits.{bit_and, and_lt}
use Rattle.taxa.specs.Sets.{◌∩◌}
use Rattle.taxa.proofs.Counts.{ones_count}
use Rattle.taxa.proofs.count_in.Goals as goal

pub returns : goal.returns
unfolding ◌∩◌
returns c = ones_count 64 (bit_and c.args.x c.args.y) (and_lt 64 c.args.x c.args.y c.ranges.x.fits c.ranges.y.fits)
