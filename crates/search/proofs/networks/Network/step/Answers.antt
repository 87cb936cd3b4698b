-- `Network::step` meets its contract: the count grows by what the two entries do.
use native.Mathlib.Omega.{arith}
use mathlib.Core.Path.{◌≡◌}
use Prim.Native.Nat.{◌+◌, ◌*◌, ◌^◌, ◌<◌}
use lib.ListN.{length}
use Rattle.taxa.specs.Sum.{sum}
use Rattle.search.specs.Workspace.{outs}
use Rattle.search.specs.Search.{nth}
use Rattle.search.proofs.Reaching.{pair_asks, pair_long}
use Rattle.search.proofs.Flows.{count_after, entries_few, counted}
use Rattle.search.proofs.networks.Network.step.Goals as goal
use Rattle.search.proofs.networks.Network.step.Goals.{After-hop, After-flow-4}

-- What goes from the two taxa before the hop,
before : (c : After-flow-4) → (c.flow.result.out ≡ outs c.args.ws.now (nth c.args.self.now.joined.now) c.args.c c.args.i)
    × (c.flow-2.result.out ≡ outs c.args.ws.now (nth c.args.self.now.joined.now) c.args.c c.args.j)
before c =
    let p = c.requires.0 in
    let row = nth c.args.self.now.joined.now in
    ((c.flow.ensures row c.args.c c.column_at-column.ensures.0 p.from.joins).0, (c.flow-2.ensures row c.args.c c.column_at-column.ensures.0 p.to.joins).0)

-- and after it.
after : (c : After-flow-4) → (c.flow-3.result.out ≡ outs c.hop.new.ws (nth c.args.self.now.joined.now) c.args.c c.args.i)
    × (c.flow-4.result.out ≡ outs c.hop.new.ws (nth c.args.self.now.joined.now) c.args.c c.args.j)
after c =
    let p = c.requires.0 in
    let row = nth c.args.self.now.joined.now in
    ((c.flow-3.ensures row c.args.c c.column_at-column.ensures.0 p.from.joins).0, (c.flow-4.ensures row c.args.c c.column_at-column.ensures.0 p.to.joins).0)

few : (c : After-flow-4) → c.flow-3.result.out + c.flow-4.result.out < 3 * 2 ^ 30
few c =
    let p = c.requires in
    let net = c.args.self.now in
    let here = (c.hop.ensures.0 net.n 0 net.sound.taxa).here in
    omega (arith, entries_few p.2 p.4, entries_few p.3 p.4, p.4.little, here.from_out, here.to_out, after c)

-- The count before and the two entries after are the count after and the two entries before.
balance : (c : After-flow-4) → sum c.args.self.now.n (outs c.hop.new.ws (nth c.args.self.now.joined.now) c.args.c) + (c.flow.result.out + c.flow-2.result.out)
    ≡ nth c.args.used.now c.args.c + (c.flow-3.result.out + c.flow-4.result.out)
balance c =
    let p = c.requires in
    let net = c.args.self.now in
    omega (arith, count_after net.n (c.hop.ensures.0 net.n 0 net.sound.taxa).here p.2 p.3 p.0.apart, p.4.is, before c, after c)

-- The workspace is as long after the hop.
long : (c : After-hop) → length c.hop.new.ws ≡ length c.args.ws.now
long c = (c.hop.ensures.1 (c.args.c + 1) (omega arith)).long

pub flow-requires : goal.flow-requires
flow-requires c = pair_asks c.requires.0.from c.column_at-column.ensures

pub flow-requires-2 : goal.flow-requires-2
flow-requires-2 c = pair_asks c.requires.0.to c.column_at-column.ensures

pub overflow_add-before : goal.overflow_add-before
overflow_add-before c =
    let p = c.requires in
    let row = nth c.args.self.now.joined.now in
    let column = c.column_at-column.ensures.0 in
    omega (arith, entries_few p.2 p.4, entries_few p.3 p.4, (c.flow.ensures row c.args.c column p.0.from.joins).0, (c.flow-2.ensures row c.args.c column p.0.to.joins).0)

pub flow-requires-3 : goal.flow-requires-3
flow-requires-3 c = pair_asks {ws = c.hop.new.ws} (pair_long c.requires.0.from (long (goal.at.flow-requires-3 c).After-hop)) c.column_at-column.ensures

pub flow-requires-4 : goal.flow-requires-4
flow-requires-4 c = pair_asks {ws = c.hop.new.ws} (pair_long c.requires.0.to (long (goal.at.flow-requires-4 c).After-hop)) c.column_at-column.ensures

pub overflow_add-after : goal.overflow_add-after
overflow_add-after c = omega (arith, few (goal.at.overflow_add-after c).After-flow-4)

pub overflow_add-used : goal.overflow_add-used
overflow_add-used c = omega (arith, few (goal.at.overflow_add-used c).After-flow-4, c.requires.4.few)

pub overflow_sub-used : goal.overflow_sub-used
overflow_sub-used c = omega (arith, balance (goal.at.overflow_sub-used c).After-flow-4)

pub returns : goal.returns
returns c =
    let a = c.args in
    let net = a.self.now in
    let p = c.requires in
    (λ m. c.hop.ensures.0 net.n m net.sound.taxa, c.hop.ensures.1, counted net.joined.now net.n a.used.now a.c p.4.counts p.4.column (omega (arith, balance (goal.at.returns c).After-flow-4)))
