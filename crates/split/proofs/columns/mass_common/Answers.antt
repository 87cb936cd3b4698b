-- `columns::mass_common` meets its contract.
use mathlib.Core.Path.{ap, ◌∙◌}
use Rattle.taxa.specs.Sets.{mass, multiplicity_in}
use Rattle.split.proofs.columns.mass_common.Goals as goal

pub returns : goal.returns
returns c = c.mass_in.ensures.0 ∙ ap (mass 64 (multiplicity_in c.args.planes.now)) c.common.ensures
