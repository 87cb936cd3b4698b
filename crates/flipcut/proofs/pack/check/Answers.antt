-- `flipcut::pack::check` meets its contract: by the case, whose numbers fit.
use mathlib.Core.Path.{refl}
use Rattle.flipcut.proofs.pack.check.Goals as goal

pub refusal-requires : goal.refusal-requires
refusal-requires c = rw c.in-Err.is at c.requires

pub returns-in-Ok : goal.returns-in-Ok
returns-in-Ok c = rw c.in-Ok.is refl

pub returns-in-Err : goal.returns-in-Err
returns-in-Err c = rw c.in-Err.is c.refusal.ensures
