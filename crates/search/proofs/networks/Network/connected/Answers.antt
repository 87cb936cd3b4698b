-- `Network::connected` meets its contract: it reaches past no flow.
use native.Mathlib.Omega.{arith}
use mathlib.Core.Bool.{true≢false}
use mathlib.Core.Path.{sym, ◌∙◌}
use Rattle.taxa.proofs.Digits.{has_none}
use Rattle.search.proofs.Flows.{no_ready}
use Rattle.search.proofs.networks.Network.connected.Goals as goal

pub reach-requires : goal.reach-requires
reach-requires c =
    let net = c.args.self.now in
    let p = c.requires in
    (rw (c.clear_places.ensures, net.sound.offsets.is net.m (omega arith)) (no_ready net.sound c.args.ws.now p.0 c.unused.ensures), p.1)

pub returns : goal.returns
returns c =
    let f = c.reach.ensures in
    let net = c.args.self.now in (
      record { low = f.tree.low; all = f.all (record { none = λ x h. absurd (true≢false (sym h ∙ has_none x)) }) },
      rw (net.sound.offsets.is net.m (omega arith)) at c.clear_places.ensures,
    )
