-- `Network::reach` meets its contract. The invariant: `next` is what a whole sweep made of the tree of `met`. Each of those but the last meets somebody new.
-- The first sweep, from any column, only has to leave a tree: before the loop `met` is empty, and nothing hops from nobody.
use Prim.Native.Nat.{◌-◌}
use Rattle.taxa.specs.Sets.{all}
use Rattle.search.specs.inner.On as on
use Rattle.search.proofs.networks.Network.reach.Given as goal

abbrev pub invariant-loop-met : goal.invariant-loop-met
invariant-loop-met l = on.Swept l.self l.ws l.sources l.met l.next l.tree l.goal 0

abbrev pub decreases-loop-met : goal.decreases-loop-met
decreases-loop-met l = all l.self.n - l.met
