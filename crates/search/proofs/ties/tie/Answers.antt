-- `ties::tie` meets its contract. The invariant: the taxa passed are tied.
use native.Mathlib.Omega.{arith}
use mathlib.Core.Path.{◌≡◌, sym, ap, ◌∙◌}
use Prim.Native.Nat.{ℕ, ◌^◌}
use Rattle.taxa.specs.Sets.{◌∖◌}
use Rattle.taxa.proofs.Members.{in_remove}
use Rattle.search.proofs.Bonds.{but_one}
use Rattle.search.proofs.ties.tie.Goals as goal

pub loop-left-preserved : goal.loop-left-preserved
loop-left-preserved c =
    let v = c.loop-left in
    let q : c.rest-left.result ≡ v.left ∖ 2 ^ c.lowest.result = c.rest-left.ensures.0 ∙ ap (λ (y : ℕ). v.left ∖ 2 ^ y) (sym c.lowest.ensures.0) in (
      record { sub = λ h. v.invariant.0.sub ((in_remove v.left c.lowest.result).0 (rw q at h)).0 },
      but_one v.invariant.1 c.lowest.ensures.2.is c.lowest.ensures.1 q (omega (arith, c.from.ensures)),
    )
