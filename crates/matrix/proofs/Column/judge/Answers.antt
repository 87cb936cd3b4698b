-- `matrix::Column::judge` meets its contract: each return is a row of a column's table.
use mathlib.Core.Path.{sym, ap, ◌∙◌}
use native.Mathlib.Omega.{arith}
use Rattle.std.specs.Prelude.{Err}
use Rattle.matrix.proofs.Judging.{no_weight, unknown_one, unknown_zero, in_both, column_taken}
use Rattle.matrix.proofs.Column.judge.Goals as goal

pub returns-then-self-eq0 : goal.returns-then-self-eq0
returns-then-self-eq0 c = ap Err c.at.ensures ∙ no_weight _ _ _ _ (omega arith)

pub returns-then-not-subset : goal.returns-then-not-subset
returns-then-not-subset c = ap Err c.at-then-not-subset.ensures ∙ unknown_one _ _ _ _ (omega arith) (sym c.subset.ensures ∙ c.if-not-subset.true)

pub returns-then-not-subset-2 : goal.returns-then-not-subset-2
returns-then-not-subset-2 c =
    ap Err c.at-then-not-subset-2.ensures
    ∙ unknown_zero _ _ _ _ (omega arith) (sym c.subset.ensures ∙ c.if-not-subset.false) (sym c.subset-2.ensures ∙ c.if-not-subset-2.true)

pub returns-then-common-ne0 : goal.returns-then-common-ne0
returns-then-common-ne0 c =
    ap Err c.at-then-common-ne0.ensures
    ∙ in_both _ _ _ _ (omega arith) (sym c.subset.ensures ∙ c.if-not-subset.false) (sym c.subset-2.ensures ∙ c.if-not-subset-2.false) (λ e. c.if-common-ne0.true (c.common.ensures ∙ e))

pub returns : goal.returns
returns c =
    column_taken _ _ _ _ (omega arith) (sym c.subset.ensures ∙ c.if-not-subset.false) (sym c.subset-2.ensures ∙ c.if-not-subset-2.false) (sym c.common.ensures ∙ c.if-common-ne0.false)
