-- `tree::flips` meets its contract: the matrix's refusal, the tree file's, or what two files that were read come to.
use Rattle.record.proofs.Passing.{handed_on}
use Rattle.answer.proofs.Outcomes.{laid}
use Rattle.tree.proofs.FlipsRows.{matrix_refused, tree_refused, both_read}
use Rattle.tree.proofs.flips.Goals as goal

pub returns-in_err-n : goal.returns-in_err-n
returns-in_err-n c = rw (handed_on _ _ c.from_residual.ensures.1) (matrix_refused _ _ _ _ c.in_err-n.ensures.answers)

-- The matrix was taken, and the tree file refused.
pub returns-in_err-pass_file : goal.returns-in_err-pass_file
returns-in_err-pass_file c =
    rw (handed_on _ _ c.from_residual-in_err-pass_file.ensures.1) (tree_refused _ _ _ _ c.in_ok-n.ensures.answers c.in_err-pass_file.ensures)

-- Both were taken.
pub flips_taken-requires : goal.flips_taken-requires
flips_taken-requires c = (c.in_ok-n.ensures.answers, (laid _ c.in_ok-pass_file.ensures).first_at)

pub returns : goal.returns
returns c = both_read _ _ _ _ c.in_ok-n.ensures.answers c.in_ok-pass_file.ensures c.flips_taken.ensures
