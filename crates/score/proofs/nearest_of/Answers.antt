-- `score::nearest_of` meets its contract, by its test.
use Rattle.score.proofs.nearest_of.Goals as goal

pub returns-then-nearer : goal.returns-then-nearer
returns-then-nearer c = rw (← c.nearer.ensures, c.if-nearer.true)

pub returns-else-nearer : goal.returns-else-nearer
returns-else-nearer c = rw (← c.nearer.ensures, c.if-nearer.false)
