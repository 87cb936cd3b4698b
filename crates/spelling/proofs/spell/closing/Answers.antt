-- `spelling::spell::closing` meets its contract: its two arms are those of the definition.
use borrow.Author.Tests.{eq-eqb, ne_eqb}
use Rattle.spelling.proofs.spell.closing.Goals as goal

pub returns-then-left-eq0 : goal.returns-then-left-eq0
returns-then-left-eq0 c = rw (eq-eqb _ 0 c.if-left-eq0.true)

pub returns-else-left-eq0 : goal.returns-else-left-eq0
returns-else-left-eq0 c = rw (ne_eqb _ 0 c.if-left-eq0.false)
