-- `flipcut::matrices::flipcut_score` meets its contract: what the operation answers fits its bits.
use native.Mathlib.Omega.{arith}
use mathlib.Core.Path.{◌∙◌, ap}
use Rattle.flipcut.specs.Packed.{packed_score}
use Rattle.flipcut.proofs.Fitting.{score_fits}
use Rattle.flipcut.proofs.matrices.flipcut_score.Goals as goal

pub score-requires-2 : goal.score-requires-2
score-requires-2 c = rw c.score.ensures.answers (score_fits (record { byte = λ i. omega (arith, c.type_inv.matrix i) }) _)

pub returns : goal.returns
returns c = c.score-2.ensures ∙ ap packed_score c.score.ensures.answers
