-- `Groups::put` meets its contract: two stores make one group more.
use native.Mathlib.Omega.{arith}
use mathlib.Core.Path.{refl}
use Rattle.tree.proofs.Lists as lists
use Rattle.tree.proofs.group_list.Groups.put.Goals as goal

pub returns : goal.returns
returns c = record { size = refl; list = lists.put_group _ _ _ _ _ (omega arith) (omega arith) }
