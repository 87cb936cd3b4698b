-- `tree::build` meets its contract: the file's refusal, or the answer for a matrix that is taken.
use mathlib.Core.Path.{◌∙◌}
use Rattle.record.proofs.Passing.{handed_on}
use Rattle.tree.proofs.Rows.{outcome, refused_row, output_left, workspace_left}
use Rattle.tree.proofs.build.Goals as goal

pub build_taken-requires : goal.build_taken-requires
build_taken-requires c = c.in_ok-n.ensures.answers

pub returns-in_err-n : goal.returns-in_err-n
returns-in_err-n c =
    let refused = handed_on _ _ c.from_residual.ensures.1 in
    let whole = outcome _ _ _ c.in_err-n.ensures.answers (refused ∙ refused_row _ _ _ _) in
    record { answers = whole.0; numbers = whole.1; output = rw refused (output_left _ _ _); workspace = rw refused (workspace_left _ _ _) }

pub returns : goal.returns
returns c =
    let made = c.build_taken.ensures in
    let whole = outcome _ _ _ c.in_ok-n.ensures.answers made.0 in
    record { answers = whole.0; numbers = whole.1; output = made.1; workspace = made.2 }
