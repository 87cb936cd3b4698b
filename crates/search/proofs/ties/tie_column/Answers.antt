-- `ties::tie_column` meets its contract: the column joins nobody, or all but its lowest taxon are tied.
use native.Mathlib.Omega.{arith}
use Rattle.search.proofs.Bonds.{column_none, column_added}
use Rattle.search.proofs.ties.tie_column.Goals as goal

pub returns : goal.returns
returns c =
    rw c.lowest-first.ensures.0
    (column_added (omega arith) (omega (arith, c.if-x-eq0.false)) c.rest.ensures.0 c.tie.ensures (omega arith) (omega (arith, c.from.ensures)))

pub returns-then-x-eq0 : goal.returns-then-x-eq0
returns-then-x-eq0 c = rw c.if-x-eq0.true (column_none (omega arith) (omega arith))
