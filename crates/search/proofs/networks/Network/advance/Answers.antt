-- `Network::advance` meets its contract. The invariant: the path from t back to j has been pushed.
use native.Mathlib.Omega.{arith}
use mathlib.Core.Path.{sym, ◌∙◌}
use Prim.Native.Nat.{◌+◌}
use Rattle.taxa.specs.Sets.{sizes}
use Rattle.search.specs.Search.{nth}
use Rattle.search.specs.inner.On as on
use Rattle.search.specs.inner.Reaching.{width_of}
use Rattle.search.proofs.Workspace.{kept_none}
use Rattle.search.proofs.Flows.{under_start, not_root, is_root, under_via, can_hop, under_step, stayed, went, size_small}
use Rattle.search.proofs.networks.Network.advance.Goals as goal
use Rattle.search.proofs.networks.Network.advance.Goals.{After-loop-j}

pub returns-then-not-contains : goal.returns-then-not-contains
returns-then-not-contains c = (
  stayed c.requires c.reach-met.ensures c.single-goal.ensures (sym c.contains.ensures ∙ c.if-not-contains.true),
  kept_none (sizes c.args.self.now.m (nth c.args.self.now.joined.now)) c.args.ws.now,
)

pub loop-j-init : goal.loop-j-init
loop-j-init c = under_start c.requires c.reach-met.ensures (sym c.contains.ensures ∙ c.if-not-contains.false) (omega arith)

pub step-requires : goal.step-requires
step-requires c =
    let u = c.loop-j.invariant in
    let root = not_root u c.loop-j-test.true in
    let h = can_hop u root in
    (h.0, under_via u root, h.2, h.3, h.4)

pub loop-j-preserved : goal.loop-j-preserved
loop-j-preserved c =
    let u = c.loop-j.invariant in
    let h = c.step.ensures in
    let a = c.args in
    let root = not_root u c.loop-j-test.true in
    under_step u root (h.0 a.self.now.m) (h.1 a.self.now.m (under_via u root)) h.2

-- All of the path has been pushed: the loop ends at a source.
pushed : (c : After-loop-j) → on.Advanced c.args.self.now c.loop-j.ws c.loop-j.used c.args.sources c.args.t c.args.size (c.args.size + width_of c.reach-met.new.tree c.args.t) c.reach-met.result
pushed c =
    let met = sym c.contains.ensures ∙ c.if-not-contains.false in
    went c.loop-j.invariant (is_root c.loop-j.invariant (omega arith)) met (c.reach-met.ensures.tree.link c.args.t met c.requires.apart).some

pub overflow_add-result : goal.overflow_add-result
overflow_add-result c = omega (arith, size_small (pushed (goal.at.overflow_add-result c).After-loop-j).stage.flowing)

pub returns : goal.returns
returns c = (pushed (goal.at.returns c).After-loop-j, c.loop-j.invariant.kept)
