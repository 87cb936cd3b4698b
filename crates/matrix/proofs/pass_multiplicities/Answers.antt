-- `matrix::pass_multiplicities` meets its contract: another record is left where it is, a refused step goes straight out, and else the multiplicities are
-- judged.
use native.Mathlib.Omega.{arith}
use Prim.Native.Nat.{◌+◌, ◌-◌}
use mathlib.Core.Path.{◌≡◌, sym, ◌∙◌}
use Rattle.record.specs.Records.{step, multiplicity_record}
use Rattle.record.proofs.Steps.{Held, held}
use Rattle.matrix.specs.Check.{multiplicities_passed}
use Rattle.matrix.proofs.pass_multiplicities.Goals as goal

-- What the step found, once it is the record's.
taken : (c : goal.In-Payload) →
    let args = c.args in
    Held args.file.now args.here.at (multiplicity_record args.n) c.in-Payload.at c.in-Payload.next
taken c =
    let found : (let args = c.args in
    c.read-step.result ≡ step args.file.now args.here.at (multiplicity_record args.n)) =
    rw (← c.multiplicities.ensures) c.read-step.ensures in
    held (sym c.in-Payload.is ∙ found)

pub returns-then-not-has_multiplicities : goal.returns-then-not-has_multiplicities
unfolding multiplicities_passed
returns-then-not-has_multiplicities c = rw (sym c.has_multiplicities.ensures ∙ c.if-not-has_multiplicities.true)

pub returns-in_default : goal.returns-in_default
unfolding multiplicities_passed
returns-in_default c =
    let found : (let args = c.args in
    c.read-step.result ≡ step args.file.now args.here.at (multiplicity_record args.n)) =
    rw (← c.multiplicities.ensures) c.read-step.ensures in
    rw (c.past.ensures, sym c.has_multiplicities.ensures ∙ c.if-not-has_multiplicities.false, ← found, c.in_default.is)

pub overflow_add-at : goal.overflow_add-at
overflow_add-at c = omega (arith, taken c)

pub slice_bounds-judge_multiplicities-end : goal.slice_bounds-judge_multiplicities-end
slice_bounds-judge_multiplicities-end c = omega (arith, taken c)

pub returns : goal.returns
unfolding multiplicities_passed
returns c =
    let found : (let args = c.args in
    c.read-step.result ≡ step args.file.now args.here.at (multiplicity_record args.n)) =
    rw (← c.multiplicities.ensures) c.read-step.ensures in
    let args = c.args in
    let n : c.in-Payload.at + args.n - c.in-Payload.at ≡ args.n = omega arith in
    rw (sym c.has_multiplicities.ensures ∙ c.if-not-has_multiplicities.false, ← found, c.in-Payload.is, ← n) c.judge_multiplicities.ensures
