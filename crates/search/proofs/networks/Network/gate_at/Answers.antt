-- `Network::gate_at` meets its contract: what is read is what runs between the column and the taxon, which is at most what their arc carries.
use native.Mathlib.Omega.{arith}
use Rattle.search.specs.Search.{nth}
use Rattle.search.proofs.Reaching.{pair, pair_asks, entry, used_fits, is_arc}
use Rattle.search.proofs.networks.Network.gate_at.Goals as goal

pub flow-flow-requires : goal.flow-flow-requires
flow-flow-requires c = let p = c.requires in pair_asks (pair p.0 p.1 c.args.i p.3) p.2

pub spare-sends-requires : goal.spare-sends-requires
spare-sends-requires c =
    let net = c.args.self.now in
    let p = c.requires in
    let flow = c.flow-flow.ensures (nth net.joined.now) c.args.c p.2.0 p.3 in
    let e = entry p.0 p.1 c.args.i p.3 in
    let most = is_arc net.weights.now net.planes.now c.args.c c.args.i c.arc-most.ensures.0 c.from-weight.ensures in
    (omega (arith, most, flow.0, e.0), c.arc-most.ensures.1, omega (arith, most, flow.1, e.1))

pub overflow_sub-self : goal.overflow_sub-self
overflow_sub-self c = omega (arith, used_fits c.requires.0 c.requires.1)

pub returns : goal.returns
returns c =
    let net = c.args.self.now in
    let p = c.requires in
    let flow = c.flow-flow.ensures (nth net.joined.now) c.args.c p.2.0 p.3 in
    rw (← flow.0, ← flow.1) (record {
      is_weight = c.from-weight.ensures;
      is_sends = omega (arith, c.spare-sends.ensures, is_arc net.weights.now net.planes.now c.args.c c.args.i c.arc-most.ensures.0 c.from-weight.ensures);
      is_free = c.max.ensures;
    })
