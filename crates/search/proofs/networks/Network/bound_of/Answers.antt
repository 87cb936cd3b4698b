-- `Network::bound_of` meets its contract. The invariant: to part one taxon alone costs less than the bound.
use native.Mathlib.Omega.{arith}
use mathlib.Core.Path.{◌≡◌, sym, ap, ◌∙◌}
use mathlib.Core.List.{List}
use Prim.Native.Nat.{ℕ, ◌+◌, ◌*◌, ◌^◌, ◌≤◌}
use Rattle.taxa.specs.Sets.{◌∖◌, multiplicity_in}
use Rattle.taxa.proofs.Counts.{count_pos}
use Rattle.search.specs.Search.{nth}
use Rattle.search.specs.inner.Network.{flow_most, weight_most}
use Rattle.search.proofs.Bonds.{times_small, binding_start, binding_one}
use Rattle.search.proofs.networks.Network.bound_of.Goals as goal

-- What joins it, times what it stands for.
product : (P : List ℕ) (i : ℕ) {w k : ℕ} → k ≡ multiplicity_in P i → w ≤ weight_most → w * k ≤ flow_most
product P i q h = rw q (times_small P i h)

pub loop-left-init : goal.loop-left-init
loop-left-init c =
    let p = c.requires in
    binding_start (omega arith) p.0 p.1 c.rest-left.ensures.0 (omega (arith, c.rest-left.ensures.1))

pub loop-left-preserved : goal.loop-left-preserved
loop-left-preserved c =
    let a = c.args in
    let left = c.loop-left.left in
    rw c.min-bound.ensures
    (binding_one c.loop-left.invariant c.lowest-i.result c.lowest-i.ensures.2.is
    (ap (λ (y : ℕ). (nth a.self.now.limits.now (256 + c.lowest-i.result) + nth a.own.now c.lowest-i.result) * y + 1) c.multiplicity.ensures.0)
    (c.rest-left-in-loop-left.ensures.0 ∙ ap (λ (y : ℕ). left ∖ 2 ^ y) (sym c.lowest-i.ensures.0)))

pub rest-left-requires : goal.rest-left-requires
rest-left-requires c = count_pos 64 (omega (arith, c.requires.0))

pub overflow_mul-weight : goal.overflow_mul-weight
overflow_mul-weight c =
    let i = c.lowest-i.result in
    omega (arith, product c.args.self.now.planes.now i c.multiplicity.ensures.0 (c.requires.1 i (c.loop-left.invariant.inside i c.lowest-i.ensures.2.is).0))

pub overflow_add-weight-in-loop-left-2 : goal.overflow_add-weight-in-loop-left-2
overflow_add-weight-in-loop-left-2 c =
    let i = c.lowest-i.result in
    omega (arith, product c.args.self.now.planes.now i c.multiplicity.ensures.0 (c.requires.1 i (c.loop-left.invariant.inside i c.lowest-i.ensures.2.is).0))
