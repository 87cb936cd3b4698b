-- `tree::order::starts_at` meets its contract.
use Rattle.tree.proofs.order.starts_at.Goals as goal

pub returns : goal.returns
returns c = rw c.low.ensures
