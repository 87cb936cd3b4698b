-- `newick::letters::Letters::of_four` meets its contract. The invariant: the bytes so far are letters.
use Prim.Native.Nat.{◌+◌}
use Rattle.grammar.specs.Bytes.{is_letter}
use Rattle.newick.specs.inner.Runs.{Sofar}
use Rattle.newick.proofs.letters.Letters.of_four.Given as goal

abbrev pub invariant-loop-more : goal.invariant-loop-more
invariant-loop-more l = Sofar is_letter l.text l.at (l.at + l.more)
