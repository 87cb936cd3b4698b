-- `Network::reach` meets its contract. The invariant: `next` is what a whole sweep made of the tree of `met`. Each of those but the last meets somebody new.
-- The first sweep, from any column, only has to leave a tree: before the loop `met` is empty, and nothing hops from nobody.
use native.Mathlib.Omega.{arith}
use Rattle.search.proofs.Reaching.{root_alone, rooted_low, swept_all}
use Rattle.search.proofs.networks.Network.reach.Goals as goal

pub sweep-next-requires : goal.sweep-next-requires
sweep-next-requires c =
    let p = c.requires in
    (p.0, root_alone p.0.net.taxa p.1 c.plant.ensures)

pub loop-met-smaller : goal.loop-met-smaller
loop-met-smaller c = omega (arith, rooted_low c.loop-met.invariant.tree, c.loop-met-test.true)

pub returns : goal.returns
returns c = swept_all c.requires.0 c.loop-met.invariant c.loop-met-test.false
