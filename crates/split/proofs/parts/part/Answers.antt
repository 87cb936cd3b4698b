-- `parts::part` meets its contract. The invariant: the taxa met are of the part, and `next` is what a sweep makes of them. They grow while the sweep
-- adds some, and stay within the group.
use native.Mathlib.Omega.{arith}
use Prim.Native.Nat.{◌<◌, ◌^◌}
use Rattle.taxa.proofs.Members.{below, ⊆-≤}
use Rattle.split.proofs.Growing.{Grown, grow_start, grow_on, grown_part}
use Rattle.split.proofs.parts.part.Goals as goal

pub single-met-requires : goal.single-met-requires
single-met-requires c =
    let fits : c.args.group < 2 ^ 64 = omega (arith, c.ranges.group) in
    below 64 fits c.requires.1

pub loop-met-init : goal.loop-met-init
loop-met-init c = (rw c.single-met.ensures (grow_start _ _ _ _ c.requires.1), c.sweep-next.ensures)

-- The taxa met after one more sweep are of the part, too.
pub loop-met-smaller : goal.loop-met-smaller
loop-met-smaller c =
    let fits : c.args.group < 2 ^ 64 = omega (arith, c.ranges.group) in
    let v = c.loop-met in
    let grows : Grown c.args.ones.now c.args.zeros.now c.args.group c.args.i v.next = rw v.invariant.1 (grow_on _ _ _ _ fits v.invariant.0) in
    omega (arith, c.loop-met-test.true, ⊆-≤ grows.inside)

pub loop-met-preserved : goal.loop-met-preserved
loop-met-preserved c =
    let fits : c.args.group < 2 ^ 64 = omega (arith, c.ranges.group) in
    let v = c.loop-met in
    let grows : Grown c.args.ones.now c.args.zeros.now c.args.group c.args.i v.next = rw v.invariant.1 (grow_on _ _ _ _ fits v.invariant.0) in
    (grows, c.sweep-next-in-loop-met.ensures)

pub returns : goal.returns
returns c =
    let fits : c.args.group < 2 ^ 64 = omega (arith, c.ranges.group) in
    let v = c.loop-met in
    grown_part _ _ _ _ fits v.invariant.0 (rw v.invariant.1 at c.loop-met-test.false)
