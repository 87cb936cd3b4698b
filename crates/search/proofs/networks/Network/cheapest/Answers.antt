-- `Network::cheapest` meets its contract. The invariant: the taxa below u have been tried.
use native.Mathlib.Omega.{arith}
use mathlib.Core.Path.{◌≡◌, sym, ◌∙◌}
use Prim.Native.Nat.{ℕ, ◌<◌}
use Rattle.taxa.specs.Sets.{count, sizes, low}
use Rattle.taxa.proofs.Counts.{count_pos, count_width}
use Rattle.taxa.proofs.Members.{below, low_in, low_≤, low_width}
use Rattle.search.specs.Search.{nth}
use Rattle.search.proofs.Workspace.{kept_none, kept_then}
use Rattle.search.proofs.Bonds.{weighs_small}
use Rattle.search.proofs.Trying.{trying_start, trying_end}
use Rattle.search.proofs.networks.Network.cheapest.Goals as goal

some : (n : ℕ) {x : ℕ} → 1 < count n x → 0 < x
some n h = count_pos n (omega (arith, h))

pub bound_of-bound-requires : goal.bound_of-bound-requires
bound_of-bound-requires c =
    let net = c.args.self.now.sound in
    let p = c.requires in
    (omega (arith, p.2, count_width net.taxa p.1), weighs_small net.columns net.light p.4)

pub loop-u-init : goal.loop-u-init
loop-u-init c =
    let a = c.args in
    let p = c.requires in
    let some = some a.self.now.n p.2 in
    -- The lowest of 64 taxa is that of n.
    let is_low : c.lowest-s.result ≡ low a.self.now.n a.group = c.lowest-s.ensures.0 ∙ sym (low_width a.self.now.sound.taxa some p.1) in
    rw is_low (
      omega arith,
      omega (arith, below a.self.now.n p.1 (low_in a.self.now.n some p.1)),
      trying_start c.bound_of-bound.result (λ i h. low_≤ a.self.now.n p.1 (record { is = h })),
      kept_none (sizes a.self.now.m (nth a.self.now.joined.now)) a.ws.now,
    )

pub loop-u-preserved : goal.loop-u-preserved
loop-u-preserved c =
    let v = c.loop-u.invariant in
    let a = c.attempt-best.ensures in
    (omega (arith, v.0), omega arith, a.0 c.bound_of-bound.result v.2, kept_then v.3 a.1)

pub returns : goal.returns
returns c =
    let v = c.loop-u in
    let p = c.requires in
    let e : v.u ≡ c.args.self.now.n = omega arith in
    (trying_end c.args.self.now.sound.taxa p.1 (rw e at v.invariant.2) p.4 c.bound_of-bound.ensures, v.invariant.3)
