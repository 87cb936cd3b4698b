-- `Network::direct_hop` meets its contract: the column does not join t, or no source, or the hop makes the flow larger by what it carries.
use native.Mathlib.Omega.{arith}
use mathlib.Core.Bool.{true}
use mathlib.Core.Path.{◌≡◌, sym, ◌∙◌}
use Prim.Native.Nat.{ℕ, ◌≤◌}
use Rattle.taxa.specs.Sets.{has, ◌∈◌, ◌∩◌}
use Rattle.taxa.proofs.Members.{in∩}
use Rattle.search.specs.Search.{nth}
use Rattle.search.specs.inner.On as on
use Rattle.search.proofs.Reaching.{gate_carry}
use Rattle.search.proofs.Flows.{direct_asks, direct_flow, size_small}
use Rattle.search.proofs.networks.Network.direct_hop.Goals as goal
use Rattle.search.proofs.networks.Network.direct_hop.Goals.{After-carry_to-d}

-- What the column joins of the sources is both.
both_in : (x y : ℕ) {z i : ℕ} → z ≡ x ∩ y → i ∈ z → (has x i ≡ true) × (has y i ≡ true)
both_in x y e k = let h = (in∩ x y).0 (rw e at k) in (h.0.is, h.1.is)

-- The source and t, in the column,
source : (c : After-carry_to-d) → (has (nth c.args.self.now.joined.now c.args.c) c.lowest-i.result ≡ true) × (has c.args.sources c.lowest-i.result ≡ true)
source c = both_in (nth c.args.self.now.joined.now c.args.c) c.args.sources c.common-here.ensures c.lowest-i.ensures.2

sink : (c : After-carry_to-d) → has (nth c.args.self.now.joined.now c.args.c) c.args.t ≡ true
sink c = sym c.contains.ensures ∙ c.if-not-contains.false

-- and what the hop between them carries.
carries : (c : After-carry_to-d) → c.carry_to-d.result ≤ on.carried c.args.self.now c.args.ws.now c.args.c c.lowest-i.result c.args.t
carries c = omega (arith, c.carry_to-d.ensures, gate_carry c.requires.0.ready c.requires.1 c.gate_at-g.ensures (source c).0 c.args.t (sink c))

pub gate_at-g-requires : goal.gate_at-g-requires
gate_at-g-requires c =
    let a = c.args in
    (c.requires.0.ready, c.requires.1, c.column_at-column.ensures, (both_in (nth a.self.now.joined.now a.c) a.sources c.common-here.ensures c.lowest-i.ensures.2).0)

pub carry_to-d-requires : goal.carry_to-d-requires
carry_to-d-requires c =
    (c.requires.0.ready, c.requires.1, c.column_at-column.ensures, sym c.contains.ensures ∙ c.if-not-contains.false, c.gate_at-g.ensures.is_weight)

pub step-requires : goal.step-requires
step-requires c =
    let p = c.requires in
    let k = (goal.at.step-requires c).After-carry_to-d in
    let h = direct_asks p.0 p.1 (source k).1 (carries k) ((source k).0, sink k) in
    (h.0, p.1, h.2, h.3, h.4)

pub overflow_add-result : goal.overflow_add-result
overflow_add-result c =
    let p = c.requires in
    let h = c.step.ensures in
    let k = (goal.at.overflow_add-result c).After-carry_to-d in
    omega (arith, size_small (direct_flow p.0 p.1 (source k).1 (carries k) (h.0 c.args.self.now.m) (h.1 c.args.self.now.m p.1) h.2))

pub returns : goal.returns
returns c =
    let p = c.requires in
    let h = c.step.ensures in
    let k = (goal.at.returns c).After-carry_to-d in
    (direct_flow p.0 p.1 (source k).1 (carries k) (h.0 c.args.self.now.m) (h.1 c.args.self.now.m p.1) h.2, h.1 c.args.self.now.m p.1)
