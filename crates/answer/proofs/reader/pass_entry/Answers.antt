-- `answer::reader::pass_entry` meets its contract: a refused step goes straight out, and else the record is judged.
use mathlib.Core.Path.{◌≡◌, refl}
use Prim.Native.Nat.{◌+◌}
use Rattle.record.specs.Records as records
use Rattle.record.proofs.Steps.{held}
use Rattle.answer.specs.Tests.{entry_test}
use Rattle.answer.proofs.Walks.{found_at}
use native.Mathlib.Omega.{arith}
use Rattle.answer.proofs.reader.pass_entry.Goals as goal

pub returns-in_default : goal.returns-in_default
unfolding entry_test
returns-in_default c = rw (c.past.ensures, c.in_default.is, ← found_at _ records.flips c.of.ensures refl c.read-step.ensures c.in_default.is)

pub u16_at-requires : goal.u16_at-requires
u16_at-requires c = omega (arith, held (found_at _ records.flips c.of.ensures refl c.read-step.ensures c.in-Payload.is))

pub overflow_add-at : goal.overflow_add-at
overflow_add-at c = omega (arith, held (found_at _ records.flips c.of.ensures refl c.read-step.ensures c.in-Payload.is))

pub u64_at-requires : goal.u64_at-requires
u64_at-requires c = omega (arith, held (found_at _ records.flips c.of.ensures refl c.read-step.ensures c.in-Payload.is))

pub overflow_add-at-2 : goal.overflow_add-at-2
overflow_add-at-2 c = omega (arith, held (found_at _ records.flips c.of.ensures refl c.read-step.ensures c.in-Payload.is))

pub u64_at-requires-2 : goal.u64_at-requires-2
u64_at-requires-2 c = omega (arith, held (found_at _ records.flips c.of.ensures refl c.read-step.ensures c.in-Payload.is))

pub returns : goal.returns
unfolding entry_test
returns c =
    let here = c.args.here.at in
    let found = found_at _ records.flips c.of.ensures refl c.read-step.ensures c.in-Payload.is in
    let raised : here + 4 + 2 ≡ here + 6 = omega arith in
    let lowered : here + 4 + 10 ≡ here + 14 = omega arith in
    rw (c.judge.ensures, c.entry_fault-fault.ensures, c.u64_at-2.ensures, c.u64_at.ensures, c.from.ensures, c.u16_at.ensures, ← found, (held found).starts, raised, lowered)
