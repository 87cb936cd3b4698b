-- `matrix::column_in` meets its contract: the columns start where `columns_at` says.
use Rattle.matrix.proofs.column_in.Goals as goal

pub returns : goal.returns
returns c = cc
