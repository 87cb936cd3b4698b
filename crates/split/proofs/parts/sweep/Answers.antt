-- `parts::sweep` meets its contract. The invariant: the first c columns are swept.
use borrow.Author.Rules.{rules}
use native.Mathlib.Omega.{arith}
use native.Mathlib.Numerals.{add-one}
use mathlib.Core.Path.{◌≡◌}
use lib.ListN.{length}
use Rattle.split.specs.inner.Parts.{swept}
use Rattle.split.proofs.parts.sweep.Goals as goal

pub loop-c-init : goal.loop-c-init
unfolding swept
loop-c-init c = search rules

pub loop-c-preserved : goal.loop-c-preserved
unfolding swept
loop-c-preserved c = let v = c.loop-c in (omega arith, rw add-one (rw v.invariant.1 at c.grow-all.ensures))

pub returns : goal.returns
returns c = let e : c.loop-c.c ≡ length c.args.ones.now = omega arith in rw e at c.loop-c.invariant.1
