-- `Network::carry_to` meets its contract: the formula is put together from its parts.
use native.Mathlib.Omega.{arith}
use Rattle.search.specs.Search.{nth}
use Rattle.search.proofs.Reaching.{pair, pair_asks, entry, is_arc}
use Rattle.search.proofs.networks.Network.carry_to.Goals as goal

pub flow-flow-requires : goal.flow-flow-requires
flow-flow-requires c = let p = c.requires in pair_asks (pair p.0 p.1 c.args.j p.3) p.2

pub spare-takes-requires : goal.spare-takes-requires
spare-takes-requires c =
    let net = c.args.self.now in
    let p = c.requires in
    let flow = c.flow-flow.ensures (nth net.joined.now) c.args.c p.2.0 p.3 in
    let e = entry p.0 p.1 c.args.j p.3 in
    let most = is_arc net.weights.now net.planes.now c.args.c c.args.j c.arc-most.ensures.0 p.4 in
    (omega (arith, most, flow.1, e.1), c.arc-most.ensures.1, omega (arith, most, flow.0, e.0))

pub returns : goal.returns
returns c =
    let p = c.requires in
    let flow = c.flow-flow.ensures (nth c.args.self.now.joined.now) c.args.c p.2.0 p.3 in
    rw (← flow.0, ← flow.1) cc
