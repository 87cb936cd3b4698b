-- `taxa::plane_has` meets its contract: the last set has those that stand for several.
use borrow.Author.Tests.{eq-eqb, ne_eqb}
use mathlib.Core.Path.{sym, ap, ◌∙◌}
use mathlib.Core.Bool.{Bool, cond}
use lib.Dec.{ltb}
use Rattle.taxa.specs.Sets.{has}
use Rattle.taxa.proofs.plane_has.Goals as goal

pub returns-then-j-eq-SEVERAL : goal.returns-then-j-eq-SEVERAL
returns-then-j-eq-SEVERAL c =
    let v = c.args.v in let j = c.args.j in sym (ap (λ (t : Bool). cond t (ltb 1 v) (has v j)) (eq-eqb j 7 c.if-j-eq-SEVERAL.true))

pub returns : goal.returns
returns c =
    let v = c.args.v in
    let j = c.args.j in
    c.contains.ensures ∙ sym (ap (λ (t : Bool). cond t (ltb 1 v) (has v j)) (ne_eqb j 7 c.if-j-eq-SEVERAL.false))
