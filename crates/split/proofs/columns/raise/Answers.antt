-- `columns::raise` meets its contract, set by set.
use Rattle.method.specs.Split.{raise}
use Rattle.split.proofs.columns.raise.Goals as goal

pub returns : goal.returns
unfolding raise
returns c = cc
