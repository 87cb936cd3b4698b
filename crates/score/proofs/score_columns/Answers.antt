-- `score::score_columns` meets its contract. The invariant: the sums are those of the columns passed, at most `column_most` each.
use borrow.Author.Rules.{rules}
use native.Mathlib.Omega.{arith}
use mathlib.Core.Path.{◌≡◌, refl}
use Rattle.taxa.specs.Sum.{sum}
use Rattle.score.specs.Score.{raises_of, lowers_of}
use Rattle.score.proofs.Columns.{raises_next, lowers_next}
use Rattle.score.proofs.score_columns.Goals as goal

pub loop-c-init : goal.loop-c-init
unfolding raises_of lowers_of sum
loop-c-init c = (refl, refl, search rules, search rules)

pub with_column-sum-requires : goal.with_column-sum-requires
with_column-sum-requires c =
    (omega arith, omega arith, rw c.column_in-it.ensures (c.requires.3 c.loop-c.c (omega arith)))

pub loop-c-preserved : goal.loop-c-preserved
loop-c-preserved c =
    let node = c.node_for.ensures in
    let it = c.column_in-it.ensures in
    let l = c.loop-c in
    let up = rw (node, it) at c.with_column-sum.ensures.raised in
    let down = rw (node, it) at c.with_column-sum.ensures.lowered in
    (rw (raises_next, ← l.invariant.0) up.0, rw (lowers_next, ← l.invariant.1) down.0, omega arith, omega arith)

pub returns : goal.returns
returns c =
    let l = c.loop-c in
    let all : l.c ≡ c.args.m = omega arith in
    rw (← all) (record { raised = (l.invariant.0, l.invariant.2); lowered = (l.invariant.1, l.invariant.3) })
