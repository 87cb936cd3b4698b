-- `Groups::in_order` meets its contract. The invariant: what stands are the groups whose lowest taxon is below i, in file order.
use native.Mathlib.Omega.{arith}
use mathlib.Core.Path.{refl}
use Prim.Native.Nat.{◌+◌}
use Rattle.method.specs.Tree.{ordered}
use Rattle.tree.specs.Lists.{listed, first_groups}
use Rattle.tree.proofs.Lists.{ordered_next, ordered_more, ordered_size}
use Rattle.tree.proofs.group_list.Groups.in_order.Goals as goal

pub loop-i-init : goal.loop-i-init
unfolding first_groups ordered
loop-i-init c = (omega arith, rw c.new-rising.ensures refl, rw c.new-rising.ensures refl)

pub keep_lowest-requires : goal.keep_lowest-requires
keep_lowest-requires c =
    let l = c.loop-i in
    let gs = listed c.args.self.now in
    let room = ordered_more {j = l.i + 1} {k = c.args.n} gs (omega arith) in
    let next = ordered_size l.i gs in
    omega arith

pub loop-i-preserved : goal.loop-i-preserved
loop-i-preserved c =
    let kept = c.keep_lowest in
    let l = c.loop-i in
    let next = ordered_size l.i (listed c.args.self.now) in
    (omega arith, omega (arith, kept.ensures.size), rw (ordered_next, ← l.invariant.2) kept.ensures.list)
