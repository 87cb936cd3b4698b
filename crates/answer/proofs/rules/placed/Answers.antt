-- `answer::rules::placed` meets its contract: the first group, or the one before.
use mathlib.Core.Path.{◌∙◌}
use Rattle.answer.proofs.Rows.{first_placed, next_placed}
use Rattle.answer.proofs.rules.placed.Goals as goal

pub returns-then-i-eq0 : goal.returns-then-i-eq0
returns-then-i-eq0 c = rw (c.all.ensures, c.from.ensures) (first_placed _ _ _ c.if-i-eq0.true)

pub returns : goal.returns
returns c = c.follows.ensures ∙ next_placed _ _ _ c.if-i-eq0.false
