-- `reach::hits` meets its contract: two sets share a taxon, or none.
use borrow.Author.Tests.{ltb-true, ltb-false}
use lib.Arith.{le-zero}
use mathlib.Core.Path.{sym, ◌∙◌}
use Rattle.search.proofs.Reaching.{missed, hit}
use Rattle.search.proofs.reach.hits.Goals as goal

pub returns : goal.returns
returns c = (λ h. missed (sym c.common.ensures ∙ le-zero (ltb-false 0 c.common.result h)), λ h. hit (rw c.common.ensures at (ltb-true 0 c.common.result h)))
