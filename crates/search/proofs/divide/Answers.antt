-- `search::divide` meets its contract: the lists hold the group's network, the places are as many as it has arcs, and it is in parts already or flows
-- decide.
use native.Mathlib.Omega.{arith}
use mathlib.Core.Path.{sym, ◌∙◌}
use Prim.Native.Nat.{◌≤◌}
use lib.ListN.{length}
use lib.Pow.{pow-lt}
use Rattle.taxa.specs.Sets.{sizes}
use Rattle.taxa.proofs.Counts.{count_pos}
use Rattle.taxa.proofs.Members.{below}
use Rattle.search.specs.Search.{nth}
use Rattle.search.proofs.Workspace.{cleared_kept, kept_then}
use Rattle.search.proofs.Bonds.{limits_still}
use Rattle.search.proofs.Group.{source_is, net, arcs_are, divided_free}
use Rattle.search.proofs.divide.Goals as goal

pub connected-met-requires : goal.connected-met-requires
connected-met-requires c =
    let a = c.args in
    let p = c.requires in
    let g = p.0 in
    let e = c.network_of.ensures in
    (omega (arith, arcs_are g e.0 e.1, p.1), omega (arith, c.single-s.ensures, pow-lt (below a.n g.group c.lowest.ensures.2)))

pub invariant_of-free : goal.invariant_of-free
invariant_of-free c =
    let e = c.network_of.ensures in
    record { sound = net c.requires.0 e.0 e.1 e.2 (λ k b. omega (arith, c.type_inv.weights k)) }

-- The group is in parts already, or
pub returns-then-off-gt0 : goal.returns-then-off-gt0
returns-then-off-gt0 c =
    let a = c.args in
    let p = c.requires in
    let g = p.0 in
    let e = c.network_of.ensures in
    let network = net g e.0 e.1 e.2 (λ k b. omega (arith, c.type_inv.weights k)) in
    -- The places are as many as the group's network has arcs.
    let arcs = arcs_are g e.0 e.1 in
    let room : sizes a.m (nth c.network_of.new.lists.joined) ≤ length a.ws.now = omega (arith, arcs, p.1) in
    let told = e.2.is a.m (omega arith) ∙ arcs in
    let emptied = cleared_kept a.ws.now c.connected-met.ensures.1 room in
    let d = rw (source_is a.n g.taxa g.group g.two c.lowest.ensures.0 c.single-s.ensures) at c.connected-met.ensures in (
      divided_free g e.0 e.1 a.ws.now network room d.0 d.1 c.difference-off.ensures c.lowest-then-off-gt0.ensures.0 c.lowest-then-off-gt0.ensures.2,
      told,
      rw (sym arcs) emptied,
    )

pub returns : goal.returns
returns c =
    let a = c.args in
    let p = c.requires in
    let g = p.0 in
    let e = c.network_of.ensures in
    -- The places are as many as the group's network has arcs.
    let arcs = arcs_are g e.0 e.1 in
    let room : sizes a.m (nth c.network_of.new.lists.joined) ≤ length a.ws.now = omega (arith, arcs, p.1) in
    let told = e.2.is a.m (omega arith) ∙ arcs in
    let emptied = cleared_kept a.ws.now c.connected-met.ensures.1 room in
    -- What ties the taxa went behind the limits, which are as they were.
    let still = limits_still g.columns c.ties_of.ensures.2 e.1 in
    let f = c.by_flows.ensures in (
      f.0.each a.ones.now a.zeros.now g e.0 still,
      told,
      rw (sym arcs) (kept_then emptied f.1),
    )

pub lowest-requires : goal.lowest-requires
lowest-requires c = count_pos c.args.n (omega (arith, c.requires.0.two))
