-- `answer::reader::pass_groups` meets its contract. The invariant: those passed lead here, and stand in `taxa`.
use borrow.Author.Rules.{rules}
use mathlib.Core.Path.{◌≡◌, refl, sym, ap, ◌∙◌}
use Prim.Native.Nat.{ℕ, ◌+◌, ◌*◌, ◌<◌}
use lib.ListN.{set, replicate}
use mathlib.Core.List.{List}
use Rattle.record.specs.Bytes.{number_at, over}
use Rattle.record.specs.Records as records
use Rattle.record.specs.Records.{step, record_of, past, Passed}
use Rattle.record.specs.declared.Cursor.{Cursor}
use Rattle.record.specs.declared.refusal.Reason.{Reason}
use Rattle.record.specs.declared.Step.TheVariants.{Payload}
use Rattle.answer.specs.Rules.{group_fault}
use Rattle.answer.specs.Content.{taxa_in, run}
use Rattle.answer.specs.Tests.{in_file, judge, group_test}
use Rattle.record.proofs.Over.{nothing}
use Rattle.record.proofs.Passing.{handed_on}
use Rattle.record.proofs.Steps.{Held, held}
use Rattle.answer.proofs.Walks.{walk_none, walk_more, walk_stops, group_met, found_at, judged_so_far, taxa_stored}
use native.Mathlib.Omega.{arith}
use Rattle.answer.proofs.reader.pass_groups.Goals as goal
use Rattle.std.specs.Prelude.{Option}

abbrev zeros : List ℕ
zeros = replicate 63 0

-- The group's taxa stand among those before it.
stored : (file taxa : List ℕ) (i here at value : ℕ) {next : Cursor} → taxa ≡ over (taxa_in file i) 0 zeros → here ≡ 16 + 16 * i
    → Held file here (record_of records.group) at next → value ≡ number_at 8 file at → i < 63 → set taxa i value ≡ over (taxa_in file (i + 1)) 0 zeros
stored file taxa i here at value so_far place h read small =
    let there : at ≡ 20 + 16 * i = omega (arith, h) in
    rw so_far (taxa_stored file i zeros (read ∙ ap (number_at 8 file) there) (omega arith))

-- A group that was read is judged by those before it.
tested : (file taxa : List ℕ) (n groups i at value : ℕ) (fault : Option Reason) (here next : Cursor) (r : Passed) → taxa ≡ over (taxa_in file i) 0 zeros → here.at ≡ 16 + 16 * i
    → Payload at next ≡ step file here.at (record_of records.group) → value ≡ number_at 8 file at → i < 63 → i < groups
    → fault ≡ group_fault n (set taxa i value) i → r ≡ judge fault here.at next → r ≡ group_test (in_file file) n (taxa_in file groups) i here
unfolding group_test
tested file taxa n groups i at value fault here next r so_far place found read small within judged e =
    rw (e, judged, stored file taxa i here.at at value so_far place (held found) read small, judged_so_far file n groups i zeros within, ← found)

pub loop-i-init : goal.loop-i-init
unfolding taxa_in run
loop-i-init c = (refl, search rules, nothing 0 _, walk_none _ _)

pub returns-in_default : goal.returns-in_default
unfolding group_test
returns-in_default c =
    let l = c.loop-i in
    let found = found_at _ records.group c.of.ensures refl c.read-step.ensures c.in_default.is in
    c.past.ensures ∙ ap past c.in_default.is ∙ walk_stops _ _ _ l.i (omega arith) l.invariant.3 (rw (← found))

pub u64_at-requires : goal.u64_at-requires
u64_at-requires c = omega (arith, held (found_at _ records.group c.of.ensures refl c.read-step.ensures c.in-Payload.is))

pub returns-in_err-here : goal.returns-in_err-here
returns-in_err-here c =
    let l = c.loop-i in
    let s = c.args in
    let found = found_at _ records.group c.of.ensures refl c.read-step.ensures c.in-Payload.is in
    let test = tested s.file.now l.taxa s.n s.groups l.i c.in-Payload.at c.u64_at.result c.group_fault.result l.here c.in-Payload.next _ l.invariant.2 l.invariant.1 found c.u64_at.ensures (omega arith) (omega arith) c.group_fault.ensures c.judge.ensures in
    handed_on _ _ c.from_residual.ensures.1 ∙ walk_stops _ _ _ l.i (omega arith) l.invariant.3 (sym c.in_err-here.was ∙ test)

pub loop-i-preserved : goal.loop-i-preserved
loop-i-preserved c =
    let l = c.loop-i in
    let s = c.args in
    let found = found_at _ records.group c.of.ensures refl c.read-step.ensures c.in-Payload.is in
    let passed = sym c.in_ok-here.was ∙ tested s.file.now l.taxa s.n s.groups l.i c.in-Payload.at c.u64_at.result c.group_fault.result l.here c.in-Payload.next _ l.invariant.2 l.invariant.1 found c.u64_at.ensures (omega arith) (omega arith) c.group_fault.ensures c.judge.ensures in (
      refl,
      omega (arith, (group_met _ _ _ _ _ passed).1),
      stored s.file.now l.taxa l.i l.here.at c.in-Payload.at c.u64_at.result l.invariant.2 l.invariant.1 (held found) c.u64_at.ensures (omega arith),
      passed ∙ walk_more _ _ l.i l.invariant.3,
    )
