-- `matrix::judge_multiplicities` meets its contract. The invariant: the sum is that of the multiplicities so far, of which none is 0.
use native.Mathlib.Omega.{arith}
use mathlib.Core.Path.{◌≡◌, ap, ◌∙◌}
use lib.ListN.{length}
use Rattle.std.specs.Prelude.{Err}
use Rattle.taxa.specs.Sum as sums
use Rattle.taxa.specs.Sets as sets
use Rattle.taxa.proofs.Sums.{sum_next}
use Rattle.matrix.proofs.Multiplying.{Some, some_next, at_multiplicity, some_none, too_heavy, all_one, multiplicities_taken}
use Rattle.matrix.proofs.judge_multiplicities.Goals as goal

pub loop-one-init : goal.loop-one-init
unfolding sums.sum
loop-one-init c = (omega arith, omega arith, λ i b. absurd (omega arith))

pub returns-then-one-eq0 : goal.returns-then-one-eq0
returns-then-one-eq0 c =
    let i = c.loop-one.one-index in
    ap Err c.at.ensures
    ∙ some_none _ _ _ i c.loop-one-test.true (omega (arith, at_multiplicity c.args.multiplicities.now i 0 c.loop-one-test.true))

pub overflow_add-sum : goal.overflow_add-sum
overflow_add-sum c = omega (arith, c.type_inv.multiplicities c.loop-one.one-index)

pub loop-one-preserved : goal.loop-one-preserved
loop-one-preserved c =
    let i = c.loop-one.one-index in
    let ms = c.args.multiplicities.now in
    let here = at_multiplicity ms i 0 c.loop-one-test.true in
    (omega (arith, sum_next i (sets.multiplicity ms), here), omega (arith, c.type_inv.multiplicities i), some_next ms i c.loop-one.invariant.2 (omega (arith, here)))

pub returns-then-sum-gt127 : goal.returns-then-sum-gt127
returns-then-sum-gt127 c =
    let ended : (let ms = c.args.multiplicities.now in
    (c.loop-one.sum ≡ sums.sum (length ms) (sets.multiplicity ms)) × Some ms (length ms)) =
    let ms = c.args.multiplicities.now in
    let all : c.loop-one.one-index ≡ length ms = omega arith in
    (rw all at c.loop-one.invariant.0, rw all at c.loop-one.invariant.2) in
    let (sum_is_lem, some) = ended in ap Err c.at-then-sum-gt127.ensures ∙ too_heavy _ _ _ some (omega arith)

pub returns-then-sum-multiplicities : goal.returns-then-sum-multiplicities
returns-then-sum-multiplicities c =
    let ended : (let ms = c.args.multiplicities.now in
    (c.loop-one.sum ≡ sums.sum (length ms) (sets.multiplicity ms)) × Some ms (length ms)) =
    let ms = c.args.multiplicities.now in
    let all : c.loop-one.one-index ≡ length ms = omega arith in
    (rw all at c.loop-one.invariant.0, rw all at c.loop-one.invariant.2) in
    let (sum_is_lem, some) = ended in ap Err c.at-then-sum-multiplicities.ensures ∙ all_one _ _ _ some (omega arith) (omega arith)

pub returns : goal.returns
returns c =
    let ended : (let ms = c.args.multiplicities.now in
    (c.loop-one.sum ≡ sums.sum (length ms) (sets.multiplicity ms)) × Some ms (length ms)) =
    let ms = c.args.multiplicities.now in
    let all : c.loop-one.one-index ≡ length ms = omega arith in
    (rw all at c.loop-one.invariant.0, rw all at c.loop-one.invariant.2) in
    let (sum_is_lem, some) = ended in multiplicities_taken _ _ _ some (omega arith) (omega arith)
