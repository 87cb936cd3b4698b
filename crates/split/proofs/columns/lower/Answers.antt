-- `columns::lower` meets its contract, set by set.
use Rattle.method.specs.Split.{lower}
use Rattle.split.proofs.columns.lower.Goals as goal

pub returns : goal.returns
unfolding lower
returns c = cc
