-- `reach::plant` meets its contract. The invariant: all sources but those left are planted.
use native.Mathlib.Omega.{arith}
use mathlib.Core.Path.{◌≡◌, sym, ap, ◌∙◌}
use Prim.Native.Nat.{ℕ, ◌^◌}
use Rattle.taxa.specs.Sets.{◌∖◌}
use Rattle.search.proofs.Reaching.{plant_one}
use Rattle.search.proofs.reach.plant.Goals as goal

pub loop-left-preserved : goal.loop-left-preserved
loop-left-preserved c =
    let v = c.loop-left in
    let q : c.rest-left.result ≡ v.left ∖ 2 ^ c.lowest-x.result = c.rest-left.ensures.0 ∙ ap (λ (y : ℕ). v.left ∖ 2 ^ y) (sym c.lowest-x.ensures.0) in
    plant_one v.invariant c.lowest-x.result 4294967295 c.lowest-x.ensures.1 (omega arith) q
