-- `matrix::columns_at` meets its contract: a record of multiplicities stands before the columns, or none.
use native.Mathlib.Omega.{arith}
use mathlib.Core.Path.{sym, ◌∙◌}
use Rattle.matrix.specs.Matrix.{columns_at}
use Rattle.matrix.proofs.Multiplying.{has_long}
use Rattle.matrix.proofs.columns_at.Goals as goal

pub u16_at-requires : goal.u16_at-requires
u16_at-requires c = omega (arith, has_long _ (sym c.has_multiplicities.ensures ∙ c.if-has_multiplicities.true))

pub returns-then-has_multiplicities : goal.returns-then-has_multiplicities
unfolding columns_at
returns-then-has_multiplicities c = rw (← c.has_multiplicities.ensures, c.if-has_multiplicities.true, c.u16_at.ensures)

pub returns-else-has_multiplicities : goal.returns-else-has_multiplicities
unfolding columns_at
returns-else-has_multiplicities c = rw (← c.has_multiplicities.ensures, c.if-has_multiplicities.false)
