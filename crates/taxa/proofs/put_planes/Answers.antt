-- `taxa::put_planes` meets its contract: each place that was filled has what it should.
use mathlib.Core.Path.{◌≡◌, sym, ap, subst, ◌∙◌}
use Prim.Native.Nat.{ℕ, ◌+◌}
use native.Mathlib.Decide.{dec_lt}
use native.Mathlib.Omega.{arith}
use lib.ListN.{get_or, set, length-set}
use lib.Seq.{get_or-set_same, get_or-set_other}
use Rattle.taxa.specs.Sets.{multiplicity}
use Rattle.taxa.specs.inner.Planes.{Placed}
use Rattle.taxa.proofs.Planes.{planes_hold}
use Rattle.taxa.proofs.put_planes.Goals as goal

pub loop-p-init : goal.loop-p-init
loop-p-init c = (omega arith, omega arith, λ x b. absurd (omega arith))

pub loop-p-preserved : goal.loop-p-preserved
loop-p-preserved c =
    let at = c.loop-p in
    let ms = c.args.multiplicities.now in (
      omega arith,
      simp length-set at.invariant.1,
      λ x b. elim (dec_lt x at.p) [
        | yes l ↦ subst (Placed ms x) (sym (get_or-set_other at.planes at.p x c.place_of.result 0 (λ e. omega arith))) (at.invariant.2 x l)
        | no l ↦
            let e : at.p ≡ x = omega arith in
            subst (λ (y : ℕ). Placed ms y (get_or (set at.planes at.p c.place_of.result) y 0)) e
            (subst (Placed ms at.p) (sym (get_or-set_same at.planes at.p c.place_of.result 0 (omega arith))) c.place_of.ensures)
      ],
    )

pub returns : goal.returns
returns c =
    let at = c.loop-p in
    let is = planes_hold at.planes c.requires (λ i j b. (at.invariant.2 j (omega arith)).set b i) in
    (is, record { is = λ i b. (at.invariant.2 (8 + i) (omega arith)).table (omega arith) ∙ ap (multiplicity c.args.multiplicities.now) (omega arith) ∙ sym (ap (λ (μ : ℕ → ℕ). μ i) is) })
