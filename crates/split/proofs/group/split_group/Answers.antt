-- `group::split_group` meets its contract, by what it calls.
use Rattle.split.proofs.Dividing.{handed_on}
use Rattle.split.proofs.group.split_group.Goals as goal

pub returns : goal.returns
returns c =
    (handed_on c.requires.0.positive c.divide-found.ensures.0 c.flip_columns.ensures.0 c.flip_columns.ensures.1 c.parts-number.ensures, c.divide-found.ensures.1)
