-- `names::check` meets its contract. The invariant: the loop has reached its place after as many names as it counts.
use Prim.Native.Nat.{◌-◌}
use lib.ListN.{length}
use Rattle.names.proofs.Checking.{Reached}
use Rattle.names.proofs.check.Given as goal

abbrev pub invariant-loop-cursor : goal.invariant-loop-cursor
invariant-loop-cursor l = Reached l.file l.cursor l.count

abbrev pub decreases-loop-cursor : goal.decreases-loop-cursor
decreases-loop-cursor l = length l.file - l.cursor.at
