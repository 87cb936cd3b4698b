-- `taxa::with_if` meets its contract: one taxon more, or none.
use mathlib.Core.Path.{sym, ap, ◌∙◌}
use mathlib.Core.Bool.{Bool, cond}
use Prim.Native.Nat.{ℕ, ◌^◌}
use Rattle.taxa.specs.Sets.{◌∪◌}
use Rattle.taxa.proofs.with_if.Goals as goal

pub returns-then-wanted : goal.returns-then-wanted
returns-then-wanted c =
    let start = c.args in
    c.union.ensures ∙ ap (λ (y : ℕ). start.x ∪ y) c.single.ensures
    ∙ sym (ap (λ (p : Bool). cond p (start.x ∪ 2 ^ start.i) start.x) c.if-wanted.true)
