-- `matrix::has_multiplicities` meets its contract: too short a file has no such record, and else the kind says it.
use native.Mathlib.Omega.{arith}
use lib.ListN.{length}
use borrow.Author.Tests.{lt-ltb, le-ltb}
use Rattle.matrix.specs.Matrix.{has_multiplicities}
use Rattle.matrix.proofs.has_multiplicities.Goals as goal

pub returns-then-file-lt12 : goal.returns-then-file-lt12
unfolding has_multiplicities
returns-then-file-lt12 c = rw (le-ltb 11 (length c.args.file.now) (omega arith))

pub returns : goal.returns
unfolding has_multiplicities
returns c = rw (lt-ltb 11 (length c.args.file.now) (omega arith), ← c.u16_at.ensures)
