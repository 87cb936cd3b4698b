-- `Network::by_flows` meets its contract: the taxon whose flow runs last is the first that is parted for the least.
use native.Mathlib.Omega.{arith}
use lib.Pow.{pow-lt}
use Rattle.taxa.specs.Sets.{low}
use Rattle.taxa.proofs.Members.{below}
use Rattle.search.proofs.Workspace.{kept_then}
use Rattle.search.proofs.Group.{source_is, divided}
use Rattle.search.proofs.Trying.{pow_off, parted_off, stands}
use Rattle.search.proofs.networks.Network.by_flows.Goals as goal

-- The source is the group's lowest taxon.
pub largest-cut-requires : goal.largest-cut-requires
largest-cut-requires c =
    let p = c.requires in
    let r = c.cheapest-t.ensures in
    let s = low c.args.self.now.n c.args.group in
    (omega (arith, p.0, r.1.long), omega (arith, c.single-s.ensures, pow-lt (below c.args.self.now.n p.1 c.lowest.ensures.2)), r.0.met.below, rw (source_is c.args.self.now.n c.args.self.now.sound.taxa p.1 p.2 c.lowest.ensures.0 c.single-s.ensures) (pow_off {s = s} (λ e. parted_off r.0 e)))

pub returns : goal.returns
returns c =
    let r = c.cheapest-t.ensures in
    let p = c.requires in
    let f = rw (source_is c.args.self.now.n c.args.self.now.sound.taxa p.1 p.2 c.lowest.ensures.0 c.single-s.ensures) at c.largest-cut.ensures in
    (record { each = λ O Z g j k. divided g j k r.0 (stands f.0 (omega (arith, f.0.small))) }, kept_then r.1 f.1)
