-- `parts::grow` meets its contract: each return is a case of what a column adds.
use mathlib.Core.Path.{sym, ◌∙◌}
use Rattle.split.proofs.Growing.{no_zero, no_one, joins}
use Rattle.split.proofs.parts.grow.Goals as goal

pub returns-then-common-eq0 : goal.returns-then-common-eq0
returns-then-common-eq0 c = no_zero _ _ _ _ (sym c.common.ensures ∙ c.if-common-eq0.true)

pub returns-then-common-eq0-2 : goal.returns-then-common-eq0-2
returns-then-common-eq0-2 c = no_one _ _ _ _ (sym c.common-2.ensures ∙ c.if-common-eq0-2.true)

pub returns : goal.returns
returns c =
    rw c.common-3.ensures at c.union.ensures
    ∙ joins _ _ _ _ (λ e. c.if-common-eq0.false (c.common.ensures ∙ e)) (λ e. c.if-common-eq0-2.false (c.common-2.ensures ∙ e))
