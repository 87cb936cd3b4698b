-- `taxa::low` meets its contract: trailing zeros give the lowest taxon.
use mathlib.Core.Path.{refl}
use Rattle.taxa.specs.Sets.{low}
use Rattle.taxa.proofs.low.Goals as goal

pub returns : goal.returns
unfolding low
returns c = refl
