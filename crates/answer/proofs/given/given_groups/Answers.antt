-- `answer::given::given_groups` meets its contract. The invariant: those passed lead here.
use borrow.Author.Rules.{rules}
use mathlib.Core.Path.{◌≡◌, sym, ◌∙◌}
use mathlib.Core.List.{List}
use Prim.Native.Nat.{ℕ, ◌+◌}
use Rattle.record.specs.Records as records
use Rattle.record.specs.Records.{payload, Passed}
use Rattle.record.specs.declared.Cursor.{Cursor}
use Rattle.record.specs.declared.refusal.Reason.{Reason}
use Rattle.record.proofs.Passing.{handed_on}
use Rattle.answer.specs.Rules.{group_fault}
use Rattle.answer.specs.Tests.{judge, as_given, group_test}
use Rattle.answer.proofs.Walks.{walk_none, walk_more, walk_stops, given_group}
use native.Mathlib.Omega.{arith}
use Rattle.answer.proofs.given.given_groups.Goals as goal
use Rattle.std.specs.Prelude.{Option}

-- A group that was judged was tested as given.
tested : (n : ℕ) (taxa : List ℕ) (i : ℕ) {fault : Option Reason} (here : Cursor) {next : Cursor} {r : Passed} → fault ≡ group_fault n taxa i
    → next ≡ record { at = here.at + 4 + payload records.group } → r ≡ judge fault here.at next → r ≡ group_test as_given n taxa i here
unfolding group_test
tested n taxa i here f p e = rw (e, p, f)

pub loop-i-init : goal.loop-i-init
loop-i-init c = (search rules, walk_none _ _)

pub returns-in_err-here : goal.returns-in_err-here
returns-in_err-here c =
    let l = c.loop-i in
    let test = tested _ _ l.i l.here c.group_fault.ensures c.past.ensures c.judge.ensures in
    handed_on _ _ c.from_residual.ensures.1 ∙ walk_stops _ _ _ l.i (omega arith) l.invariant.1 (sym c.in_err-here.was ∙ test)

pub loop-i-preserved : goal.loop-i-preserved
loop-i-preserved c =
    let l = c.loop-i in
    let passed = sym c.in_ok-here.was ∙ tested _ _ l.i l.here c.group_fault.ensures c.past.ensures c.judge.ensures in
    (omega (arith, (given_group _ _ _ _ passed).1), passed ∙ walk_more _ _ l.i l.invariant.1)
