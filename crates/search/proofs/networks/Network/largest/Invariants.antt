-- `Network::largest` meets its contract. The invariant: a flow stands in the workspace, and the taxa reached are all, if t is none of them.
use Rattle.taxa.specs.Sets.{has}
use Rattle.search.proofs.Flows.{rest_of}
use Rattle.search.specs.inner.On as on
use Rattle.search.proofs.networks.Network.largest.Given as goal

abbrev pub invariant-loop-ws : goal.invariant-loop-ws
invariant-loop-ws l =
    on.Stage l.self l.ws l.used l.sources l.t l.cut.size l.cut.side × on.Kept l.self l.initial.ws l.ws

abbrev pub decreases-loop-ws : goal.decreases-loop-ws
decreases-loop-ws l = rest_of l.cut.size (has l.cut.side l.t)
