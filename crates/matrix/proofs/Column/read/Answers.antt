-- `matrix::Column::read` meets its contract, by what it calls.
use Rattle.matrix.proofs.Column.read.Goals as goal

pub returns : goal.returns
returns c = cc
