-- `answer::rules::compatible_all` meets its contract. The invariant: whether the groups so far are compatible.
use mathlib.Core.Path.{refl}
use Rattle.answer.specs.Rules.{compatible_all}
use native.Mathlib.Numerals.{add-one}
use Rattle.answer.proofs.rules.compatible_all.Goals as goal

pub loop-i-init : goal.loop-i-init
unfolding compatible_all
loop-i-init c = refl

pub loop-i-preserved : goal.loop-i-preserved
unfolding compatible_all
loop-i-preserved c = rw (add-one, c.loop-i.invariant, c.compatible-fits.ensures)
