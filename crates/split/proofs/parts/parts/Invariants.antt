-- `parts::parts` meets its contract. The invariant: what is listed and the parts of what is left are all parts.
use Rattle.taxa.specs.Sets.{count}
use Rattle.split.proofs.Collecting.{Collecting}
use Rattle.split.proofs.parts.parts.Given as goal

abbrev pub invariant-each_part : goal.invariant-each_part
invariant-each_part l = Collecting l.ones l.zeros l.group l.initial.list l.list l.left l.number

abbrev pub decreases-each_part : goal.decreases-each_part
decreases-each_part l = count 64 l.left
