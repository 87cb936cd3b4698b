-- `taxa::union` meets its contract: the operation on digits is the definition.
use mathlib.Core.Path.{refl}
use Rattle.taxa.specs.Sets.{◌∪◌}
use Rattle.taxa.proofs.union.Goals as goal

pub returns : goal.returns
unfolding ◌∪◌
returns c = refl
