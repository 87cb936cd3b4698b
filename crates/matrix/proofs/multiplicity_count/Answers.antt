-- `matrix::multiplicity_count` meets its contract: n, where the record is there.
use native.Mathlib.Omega.{arith}
use mathlib.Core.Path.{sym, ◌∙◌}
use Rattle.matrix.specs.Matrix.{multiplicity_count}
use Rattle.matrix.proofs.Multiplying.{has_long}
use Rattle.matrix.proofs.multiplicity_count.Goals as goal

pub u16_at-requires : goal.u16_at-requires
u16_at-requires c = omega (arith, has_long _ (sym c.has_multiplicities.ensures ∙ c.if-has_multiplicities.true))

pub returns-then-has_multiplicities : goal.returns-then-has_multiplicities
unfolding multiplicity_count
returns-then-has_multiplicities c = rw (← c.has_multiplicities.ensures, c.if-has_multiplicities.true, c.u16_at.ensures)

pub returns-else-has_multiplicities : goal.returns-else-has_multiplicities
unfolding multiplicity_count
returns-else-has_multiplicities c = rw (← c.has_multiplicities.ensures, c.if-has_multiplicities.false)
