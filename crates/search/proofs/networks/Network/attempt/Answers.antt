-- `Network::attempt` meets its contract: a taxon that is not in the group, one that is tied too fast, one that is parted for less, or for no less.
use native.Mathlib.Omega.{arith}
use mathlib.Core.Path.{◌≡◌, sym, ap, ◌∙◌}
use Prim.Native.Nat.{ℕ}
use Rattle.taxa.specs.Sets.{all, ◌∩◌, sizes}
use Rattle.taxa.proofs.Members.{in_pos, low_in}
use Rattle.search.specs.Search.{nth}
use Rattle.search.proofs.Workspace.{kept_none}
use Rattle.search.proofs.Trying.{lower_fits, lower_off, lower_in, tried_tied, tried_better, tried_worse}
use Rattle.search.proofs.networks.Network.attempt.Goals as goal
use Rattle.search.proofs.networks.Network.attempt.Goals.{After-largest-cut}

-- The sources are the lower taxa of the group.
is_lower : (c : After-largest-cut) → c.common-lower.result ≡ c.args.group ∩ all c.args.u
is_lower c = c.common-lower.ensures ∙ ap (λ (y : ℕ). c.args.group ∩ y) c.all.ensures

pub returns-then-best-self : goal.returns-then-best-self
returns-then-best-self c =
    let a = c.args in
    let p = c.requires in
    (λ bound r. tried_tied r a.self.now.sound p.3 (omega (arith, p.4.ties_at c.args.u (sym c.contains.ensures ∙ c.if-not-contains.false), c.if-best-self.true)), kept_none (sizes a.self.now.m (nth a.self.now.joined.now)) a.ws.now)

pub largest-cut-requires : goal.largest-cut-requires
largest-cut-requires c =
    let p = c.requires in
    let lower = c.common-lower.ensures ∙ ap (λ (y : ℕ). c.args.group ∩ y) c.all.ensures in
    (p.0, rw lower (lower_fits c.args.group p.3), p.3, rw lower (lower_off c.args.group c.args.u))

pub returns-then-cut-best : goal.returns-then-cut-best
returns-then-cut-best c =
    let is_largest = rw (is_lower (goal.at.returns-then-cut-best c).After-largest-cut) at c.largest-cut.ensures.0 in
    let a = c.args in
    let p = c.requires in
    let s = low_in a.self.now.n (in_pos (record { is = sym c.contains.ensures ∙ c.if-not-contains.false })) p.1 in
    (λ bound r. tried_better r is_largest p.3 a.self.now.sound.taxa (lower_in a.group s.is p.2) (sym c.contains.ensures ∙ c.if-not-contains.false) (omega arith), c.largest-cut.ensures.1)

pub returns-else-cut-best : goal.returns-else-cut-best
returns-else-cut-best c =
    let is_largest = rw (is_lower (goal.at.returns-else-cut-best c).After-largest-cut) at c.largest-cut.ensures.0 in
    (λ bound r. tried_worse r is_largest (omega arith), c.largest-cut.ensures.1)
