-- `newick::letters::Letters::end_one_by_one` meets its contract. The invariant: all bytes so far are letters.
use borrow.Author.Rules.{rules}
use mathlib.Core.Path.{sym, ◌∙◌}
use Rattle.newick.proofs.Runs.{one_more}
use Rattle.newick.proofs.letters.Letters.end_one_by_one.Goals as goal

pub loop-at-preserved : goal.loop-at-preserved
loop-at-preserved c = one_more c.loop-at.invariant (search rules) (sym c.is_at.ensures ∙ c.if-is_at.true)
