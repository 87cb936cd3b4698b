-- `taxa::plane_of` meets its contract: of the taxa passed, the set has those that it should (`one_more`).
use mathlib.Core.Path.{refl, ap, sym, ◌∙◌}
use mathlib.Core.Bool.{Bool, false, cond}
use Prim.Native.Nat.{ℕ, ◌^◌}
use native.Mathlib.Decide.{dec_lt}
use native.Mathlib.Omega.{arith}
use borrow.Author.Tests.{lt-ltb, le-ltb}
use lib.ListN.{length, get_or}
use Rattle.taxa.specs.Sets.{has, ◌∪◌, plane_has}
use Rattle.taxa.proofs.Digits.{has_none}
use Rattle.taxa.proofs.Planes.{one_more, past_none}
use Rattle.taxa.proofs.plane_of.Goals as goal

pub loop-i-init : goal.loop-i-init
loop-i-init c = (omega arith, refl, λ x. has_none x ∙ sym (ap (λ (p : Bool). cond p (plane_has (get_or c.args.multiplicities.now x 0) c.args.j) false) (le-ltb x 0 (omega arith))))

pub loop-i-preserved : goal.loop-i-preserved
loop-i-preserved c =
    let at = c.loop-i in
    let f : ℕ → Bool = λ x. plane_has (get_or c.args.multiplicities.now x 0) c.args.j in
    let is = c.with_if-plane.ensures ∙ ap (λ (p : Bool). cond p (at.plane ∪ 2 ^ at.i) at.plane) c.plane_has.ensures in
    (omega arith, refl, λ x. ap (λ (y : ℕ). has y x) is ∙ one_more f at.plane at.i at.invariant.2 x)

pub returns : goal.returns
returns c x =
    let ms = c.args.multiplicities.now in
    let j = c.args.j in
    c.loop-i.invariant.2 x
    ∙ elim (dec_lt x (length ms)) [
      | yes b ↦ ap (λ (p : Bool). cond p (plane_has (get_or ms x 0) j) false) (lt-ltb x c.loop-i.i (omega arith))
      | no b ↦ ap (λ (p : Bool). cond p (plane_has (get_or ms x 0) j) false) (le-ltb x c.loop-i.i (omega arith)) ∙ sym (past_none ms j x (omega arith))
    ]
