-- `split::split` meets its contract: the file's refusal, or the answer for a matrix that is taken.
use mathlib.Core.Path.{◌∙◌}
use Rattle.record.proofs.Passing.{handed_on}
use Rattle.split.proofs.Answering.{left_alone, file_refused, outcome}
use Rattle.split.proofs.split.Goals as goal

pub split_matrix-requires : goal.split_matrix-requires
split_matrix-requires c = c.in_ok-n.ensures.answers

pub returns-in_err-n : goal.returns-in_err-n
returns-in_err-n c =
    let refused = handed_on _ _ c.from_residual.ensures.1 in
    let whole = outcome _ _ _ c.in_err-n.ensures.answers (refused ∙ file_refused _ _ _ _) in
    record { answers = whole.0; numbers = whole.1; workspace = rw refused (left_alone _ _ _) }

pub returns : goal.returns
returns c =
    let made = c.split_matrix.ensures in
    let whole = outcome _ _ _ c.in_ok-n.ensures.answers made.0 in
    record { answers = whole.0; numbers = whole.1; workspace = made.1 }
