-- `flipcut::trees::flipcut_check_names` meets its contract: what the operation answers, packed.
use mathlib.Core.Path.{◌∙◌, ap}
use Rattle.flipcut.specs.Packed.{packed_names}
use Rattle.flipcut.proofs.trees.flipcut_check_names.Goals as goal

pub returns : goal.returns
returns c = c.check_names.ensures ∙ ap packed_names c.check.ensures.answers
