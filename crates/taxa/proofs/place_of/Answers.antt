-- `taxa::place_of` meets its contract: the sets come first.
use native.Mathlib.Omega.{arith}
use Rattle.taxa.proofs.place_of.Goals as goal

pub returns-else-p-lt-TABLE : goal.returns-else-p-lt-TABLE
returns-else-p-lt-TABLE c = record { set = λ b. absurd (omega arith); table = λ b. c.listed.ensures }
