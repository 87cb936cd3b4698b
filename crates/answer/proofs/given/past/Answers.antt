-- `answer::given::past` meets its contract: the kind says how long its payload is.
use Rattle.answer.proofs.given.past.Goals as goal

pub returns : goal.returns
returns c = rw c.of-it.ensures
