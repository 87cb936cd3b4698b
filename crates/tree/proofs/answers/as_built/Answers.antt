-- `tree::answers::as_built` meets its contract.
use mathlib.Core.Path.{sym, ap, ◌∙◌}
use Rattle.record.proofs.Passing.{handed_on}
use Rattle.tree.specs.inner.Grow.{written_as}
use Rattle.tree.proofs.answers.as_built.Goals as goal

pub returns-in_err-size : goal.returns-in_err-size
returns-in_err-size c = handed_on _ _ c.from_residual.ensures.1 ∙ ap (written_as c.args.total) (sym c.in_err-size.was)

pub returns : goal.returns
returns c = ap (written_as c.args.total) (sym c.in_ok-size.was)
