-- `flipcut::pack::read_newick` meets its contract: by the case, whose numbers fit.
use native.Mathlib.Omega.{arith}
use mathlib.Core.Path.{refl}
use Rattle.flipcut.proofs.pack.read_newick.Goals as goal

pub overflow_mul-result : goal.overflow_mul-result
overflow_mul-result c = let small = rw c.in-Ok.is at c.requires in record { fits = omega arith }

pub overflow_add-result : goal.overflow_add-result
overflow_add-result c = let small = rw c.in-Ok.is at c.requires in record { fits = omega arith }

pub returns-in-Ok : goal.returns-in-Ok
returns-in-Ok c = rw c.in-Ok.is refl

pub returns-in-Err : goal.returns-in-Err
returns-in-Err c = rw c.in-Err.is c.far_refusal.ensures
