-- `tree::groups::in_file_order` meets its contract: the value holds the tree of the groups in order.
use native.Mathlib.Omega.{arith}
use mathlib.Core.Path.{◌≡◌, refl, ap, ◌∙◌}
use Rattle.method.specs.Tree.{ordered, total}
use Rattle.tree.specs.Lists.{listed}
use Rattle.tree.proofs.Writing.{tree_held}
use Rattle.tree.proofs.groups.in_file_order.Goals as goal

-- The total is that of the groups in file order.
pub returns : goal.returns
returns c =
    let a = c.args in
    let order = rw c.from.ensures at c.in_order-rising.ensures in
    let is_total : c.total.result ≡ total (ordered 64 a.n (listed a.walked.now)) = c.total.ensures ∙ ap total order.list in
    (tree_held a.n a.m 0 (record { taxa_room = omega (arith, c.requires.few, order.size); costs_room = omega (arith, c.requires.few, order.size) }) order.size order.list is_total, refl)
