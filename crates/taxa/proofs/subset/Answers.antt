-- `taxa::subset` meets its contract: the test is the definition.
use mathlib.Core.Path.{refl}
use Rattle.taxa.specs.Sets.{◌∩◌, within}
use Rattle.taxa.proofs.subset.Goals as goal

pub returns : goal.returns
unfolding within ◌∩◌
returns c = refl
