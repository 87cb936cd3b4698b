-- `newick::letters::Letters::end` meets its contract. The invariant: all bytes so far are letters.
use Prim.Native.Nat.{◌-◌}
use lib.ListN.{length}
use Rattle.grammar.specs.Bytes.{is_letter}
use Rattle.newick.specs.inner.Runs.{Sofar}
use Rattle.newick.proofs.letters.Letters.end.Given as goal

abbrev pub invariant-loop-at : goal.invariant-loop-at
invariant-loop-at l = Sofar is_letter l.text l.from l.at

abbrev pub decreases-loop-at : goal.decreases-loop-at
decreases-loop-at l = length l.text - l.at
