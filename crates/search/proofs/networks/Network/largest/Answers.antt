-- `Network::largest` meets its contract. The invariant: a flow stands in the workspace, and the taxa reached are all, if t is none of them.
use native.Mathlib.Omega.{arith}
use mathlib.Core.Bool.{true, true≢false}
use mathlib.Core.Path.{◌≡◌, sym, ap, ◌∙◌}
use Prim.Native.Nat.{ℕ, ◌^◌}
use Rattle.taxa.specs.Sets.{has, sizes}
use Rattle.taxa.proofs.Members.{in_pow}
use Rattle.search.specs.Workspace.{Kept}
use Rattle.search.specs.Search.{nth}
use Rattle.search.proofs.Workspace.{kept_none, kept_then, cleared_kept}
use Rattle.search.proofs.Flows.{no_flow, size_small, falls}
use Rattle.search.proofs.networks.Network.largest.Goals as goal

-- t counts as reached.
reached : {x : ℕ} (t : ℕ) → x ≡ 2 ^ t → has x t ≡ true
reached t e = ap (λ (x : ℕ). has x t) e ∙ (in_pow t).is

pub direct_hops-size-requires : goal.direct_hops-size-requires
direct_hops-size-requires c =
    let p = c.requires in
    let net = c.args.self.now in
    rw (c.clear_places.ensures, net.sound.offsets.is net.m (omega arith)) (no_flow net.sound c.args.ws.now p.0 c.unused.ensures p.1 p.2 p.3)

pub loop-ws-init : goal.loop-ws-init
loop-ws-init c =
    let a = c.args in
    let f = c.direct_hops-size in
    (record { flowing = f.ensures.0; side = λ q. absurd (true≢false (sym (reached a.t c.single.ensures) ∙ q)) }, kept_none (sizes a.self.now.m (nth a.self.now.joined.now)) f.new.ws)

pub loop-ws-smaller : goal.loop-ws-smaller
loop-ws-smaller c =
    let v = c.loop-ws.cut in
    let t = c.args.t in
    let r = c.advance-cut.result in
    let h = c.advance-cut.ensures.0 in
    falls v.size r.size (has v.side t) (has r.side t) (c.grows.ensures.0 c.loop-ws-test.true) h.more h.pushed (size_small h.stage.flowing)

pub returns : goal.returns
returns c =
    let a = c.args in
    let clear = rw (a.self.now.sound.offsets.is a.self.now.m (omega arith)) at c.clear_places.ensures in
    let kept : Kept (sizes a.self.now.m (nth a.self.now.joined.now)) a.ws.now c.loop-ws.ws =
    kept_then (cleared_kept a.ws.now clear c.requires.0) (kept_then c.direct_hops-size.ensures.1 c.loop-ws.invariant.1) in
    let v = c.loop-ws.invariant in
    let f = v.0.flowing in (
      record { flow = f.flow; small = size_small f; side = v.0.side; stops = c.grows.ensures.1 c.loop-ws-test.false },
      kept,
    )
