-- `flipcut::pack::check_names` meets its contract: by the case.
use Rattle.flipcut.proofs.pack.check_names.Goals as goal

pub returns-in-Err : goal.returns-in-Err
returns-in-Err c = rw c.in-Err.is c.far_refusal.ensures
