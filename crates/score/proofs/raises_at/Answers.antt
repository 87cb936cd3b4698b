-- `score::raises_at` meets its contract, by what it calls.
use mathlib.Core.Path.{ap, ◌∙◌}
use Rattle.taxa.specs.Sets.{mass}
use Rattle.score.proofs.raises_at.Goals as goal

pub returns : goal.returns
returns c = (c.mass_in.ensures.0 ∙ ap (mass 64 _) c.common.ensures, c.mass_in.ensures.1)
