-- `score::score` meets its contract: the matrix's refusal, the answer's, or what two files that were read come to.
use mathlib.Core.Path.{sym, ap, ◌∙◌}
use Rattle.std.specs.Prelude.{Err}
use Rattle.record.specs.Records.{passed_refusal}
use Rattle.score.proofs.Scoring.{matrix_refused, answer_refused, both_read}
use Rattle.score.proofs.score.Goals as goal

pub returns-in_default : goal.returns-in_default
returns-in_default c =
    answer_refused _ _ (sym c.in-Taken.is ∙ c.check-checked.ensures.answers) (ap Err (c.refusal.ensures ∙ ap passed_refusal c.in_default.is) ∙ sym c.in_default.is ∙ c.pass_file-passed.ensures)

pub score_read-requires : goal.score_read-requires
score_read-requires c = record { taken = sym c.in-Taken.is ∙ c.check-checked.ensures.answers; here = _; passes = sym c.in-At.is ∙ c.pass_file-passed.ensures }

pub returns-in-Refused : goal.returns-in-Refused
returns-in-Refused c = matrix_refused _ _ (sym c.in-Refused.is ∙ c.check-checked.ensures.answers)

pub returns-in-At : goal.returns-in-At
returns-in-At c = both_read _ _ (sym c.in-Taken.is ∙ c.check-checked.ensures.answers) (sym c.in-At.is ∙ c.pass_file-passed.ensures) c.score_read.ensures
