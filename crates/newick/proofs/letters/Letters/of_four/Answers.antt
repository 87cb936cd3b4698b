-- `newick::letters::Letters::of_four` meets its contract. The invariant: the bytes so far are letters.
use native.Mathlib.Omega.{arith}
use mathlib.Core.Path.{refl, sym, ◌∙◌}
use Rattle.newick.proofs.Runs.{next_of}
use Rattle.newick.proofs.letters.Letters.of_four.Goals as goal

pub loop-more-preserved : goal.loop-more-preserved
loop-more-preserved c = let l = c.loop-more in next_of l.more _ refl l.invariant (omega arith) (sym c.is_at.ensures ∙ c.if-not-is_at.false)
