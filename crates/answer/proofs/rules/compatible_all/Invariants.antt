-- `answer::rules::compatible_all` meets its contract. The invariant: whether the groups so far are compatible.
use mathlib.Core.Path.{◌≡◌}
use Rattle.answer.specs.Rules.{compatible_all}
use Rattle.answer.proofs.rules.compatible_all.Given as goal

abbrev pub invariant-loop-i : goal.invariant-loop-i
invariant-loop-i l = l.fits ≡ compatible_all l.taxa l.x l.i
