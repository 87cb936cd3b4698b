-- `Network::sweep` meets its contract. The invariant: the hops of the taxa met before, through the columns passed, lead into the tree.
use Rattle.search.proofs.Reaching.{over_one}
use Rattle.search.proofs.networks.Network.sweep.Goals as goal

pub loop-c-preserved : goal.loop-c-preserved
loop-c-preserved c = over_one c.loop-c.invariant c.pass-all.ensures
