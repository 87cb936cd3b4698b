-- `newick::tokens::put_clade` meets its contract: the first bracket is the root.
use native.Mathlib.Omega.{arith}
use Rattle.newick.proofs.Columns.{put_root, put_other}
use Rattle.newick.proofs.tokens.put_clade.Goals as goal

pub returns-else-i-gt0 : goal.returns-else-i-gt0
returns-else-i-gt0 c = put_root _ _ _ _ (omega arith)

pub returns-then-i-gt0 : goal.returns-then-i-gt0
returns-then-i-gt0 c = put_other _ _ _ _ (λ e. absurd (omega arith))
