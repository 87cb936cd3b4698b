-- `matrix::judge_head` meets its contract: each return is a row of the head's table.
use mathlib.Core.Path.{ap, ◌∙◌}
use native.Mathlib.Omega.{arith}
use Rattle.std.specs.Prelude.{Err}
use Rattle.matrix.proofs.Judging.{no_taxa, many_taxa, many_columns, head_taken}
use Rattle.matrix.proofs.judge_head.Goals as goal

pub returns-then-n-eq0 : goal.returns-then-n-eq0
returns-then-n-eq0 c = ap Err c.at.ensures ∙ no_taxa _ _ _ (omega arith)

pub returns-then-n-gt64 : goal.returns-then-n-gt64
returns-then-n-gt64 c = ap Err c.at-then-n-gt64.ensures ∙ many_taxa _ _ _ (omega arith) (omega arith)

pub returns-then-m-gt256 : goal.returns-then-m-gt256
returns-then-m-gt256 c = ap Err c.at-then-m-gt256.ensures ∙ many_columns _ _ _ (omega arith) (omega arith) (omega arith)

pub returns : goal.returns
returns c = head_taken _ _ _ (omega arith) (omega arith) (omega arith)
