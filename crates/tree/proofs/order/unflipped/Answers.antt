-- `tree::order::unflipped` meets its contract: neither set has a taxon.
use borrow.Author.Tests.{eq-eqb, ne_eqb}
use Rattle.tree.proofs.order.unflipped.Goals as goal

pub returns-then-raised-eq0 : goal.returns-then-raised-eq0
returns-then-raised-eq0 c = rw (eq-eqb _ _ c.if-raised-eq0.true)

pub returns : goal.returns
returns c = rw (ne_eqb _ _ c.if-raised-eq0.false)
