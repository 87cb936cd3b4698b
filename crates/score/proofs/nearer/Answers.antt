-- `score::nearer` meets its contract: each return is a row of `nearer`.
use native.Mathlib.Omega.{arith}
use Rattle.score.proofs.Nearest.{less, more, equal}
use Rattle.score.proofs.nearer.Goals as goal

pub returns-then-here-there : goal.returns-then-here-there
returns-then-here-there c = less _ _ _ _ (omega arith)

pub returns-then-here-there-2 : goal.returns-then-here-there-2
returns-then-here-there-2 c = more _ _ _ _ (omega arith) (omega arith)

pub returns : goal.returns
returns c = rw (c.raises_at.ensures.0, c.raises_at-2.ensures.0) (equal _ _ _ _ (omega arith))
