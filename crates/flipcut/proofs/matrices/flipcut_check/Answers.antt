-- `flipcut::matrices::flipcut_check` meets its contract: what the operation answers fits its bits.
use native.Mathlib.Omega.{arith}
use mathlib.Core.Path.{◌∙◌, ap}
use Rattle.flipcut.specs.Packed.{packed}
use Rattle.flipcut.proofs.Fitting.{check_fits}
use Rattle.flipcut.proofs.matrices.flipcut_check.Goals as goal

pub check-requires-2 : goal.check-requires-2
check-requires-2 c = rw c.check.ensures.answers (check_fits (record { byte = λ i. omega (arith, c.type_inv.file i) }))

pub returns : goal.returns
returns c = c.check-2.ensures ∙ ap packed c.check.ensures.answers
