-- `answer::given::given_flips` meets its contract. The invariant: those passed lead here, and the floor is theirs.
use borrow.Author.Rules.{rules}
use mathlib.Core.Path.{◌≡◌, refl, sym, ◌∙◌}
use mathlib.Core.List.{List}
use Prim.Native.Nat.{ℕ, ◌+◌}
use lib.ListN.{get_or}
use Rattle.record.specs.Records as records
use Rattle.record.specs.Records.{payload, Passed}
use Rattle.record.specs.declared.Cursor.{Cursor}
use Rattle.record.specs.declared.refusal.Reason.{Reason}
use Rattle.record.proofs.Passing.{handed_on}
use Rattle.answer.specs.Rules.{floor_of, entry_fault}
use Rattle.answer.specs.Tests.{judge, as_given, entry_test, flips_test}
use Rattle.answer.proofs.Rows.{floor_next}
use Rattle.answer.proofs.Kept.{entry_keeps}
use Rattle.answer.proofs.Walks.{walk_none, walk_more, walk_stops, given_entry}
use native.Mathlib.Omega.{arith}
use Rattle.answer.proofs.given.given_flips.Goals as goal
use Rattle.std.specs.Prelude.{Option}

-- Flips that were judged were tested as given.
tested : (n m : ℕ) (columns raised lowered : List ℕ) (j : ℕ) {floor : ℕ} {fault : Option Reason} (here : Cursor) {next : Cursor} {r : Passed}
    → floor ≡ floor_of columns j → fault ≡ entry_fault n m floor (get_or columns j 0) (get_or raised j 0) (get_or lowered j 0)
    → next ≡ record { at = here.at + 4 + payload records.flips } → r ≡ judge fault here.at next → r ≡ flips_test as_given n m columns raised lowered j here
unfolding entry_test
tested n m columns raised lowered j here is f p e = rw (e, p, f, is)

pub loop-j-init : goal.loop-j-init
unfolding floor_of
loop-j-init c = (search rules, refl, walk_none _ _)

pub returns-in_err-here : goal.returns-in_err-here
returns-in_err-here c =
    let l = c.loop-j in
    let test = tested _ _ _ _ _ l.j l.here l.invariant.1 c.entry_fault-fault.ensures c.past.ensures c.judge.ensures in
    handed_on _ _ c.from_residual.ensures.1 ∙ walk_stops _ _ _ l.j (omega arith) l.invariant.2 (sym c.in_err-here.was ∙ test)

pub overflow_add-floor : goal.overflow_add-floor
overflow_add-floor c =
    let l = c.loop-j in
    let passed = sym c.in_ok-here.was ∙ tested _ _ _ _ _ l.j l.here l.invariant.1 c.entry_fault-fault.ensures c.past.ensures c.judge.ensures in
    omega (arith, entry_keeps _ _ _ _ _ _ (given_entry _ _ _ _ _ _ _ passed).0)

pub loop-j-preserved : goal.loop-j-preserved
loop-j-preserved c =
    let l = c.loop-j in
    let passed = sym c.in_ok-here.was ∙ tested _ _ _ _ _ l.j l.here l.invariant.1 c.entry_fault-fault.ensures c.past.ensures c.judge.ensures in
    (omega (arith, (given_entry _ _ _ _ _ _ _ passed).1), floor_next _ l.j, passed ∙ walk_more _ _ l.j l.invariant.2)
