-- `answer::given::pass_given` meets its contract: each stage that refuses stops the tests, and the last one ends them.
use mathlib.Core.Path.{◌≡◌, sym, ◌∙◌}
use mathlib.Core.List.{List}
use Prim.Native.Nat.{ℕ, ◌+◌, ◌*◌}
use Rattle.record.specs.Records as records
use Rattle.record.specs.Records.{payload, Passed}
use Rattle.record.specs.declared.Cursor.{Cursor}
use Rattle.record.specs.declared.refusal.Reason.{Reason}
use Rattle.record.proofs.Passing.{handed_on}
use Rattle.answer.specs.declared.Answer.{Answer}
use Rattle.answer.specs.Content.{Content, content_of}
use Rattle.answer.specs.Rules.{head_fault, total_fault}
use Rattle.answer.specs.Tests.{as_given, judge, walk, group_test, flips_test, head_test, end_test}
use Rattle.answer.proofs.Kept.{HeadKept}
use Rattle.answer.proofs.Walks.{given_head, given_groups_move, given_flips_move}
use Rattle.answer.proofs.Cuts.{groups_cut, flips_cut, sum_cut}
use Rattle.answer.proofs.Stages.{head_of, groups_of, flips_of, end_of, head_stops, groups_stop, flips_stop, ends_with}
use native.Mathlib.Omega.{arith}
use Rattle.answer.proofs.given.pass_given.Goals as goal
use Rattle.std.specs.Prelude.{Option, Ok}

-- What the head's tests, the groups', the flips' and the end's are of what is given.
module _ (a : Answer) (columns raised lowered : List ℕ) (entries : ℕ) where
  abbrev given : Content
  given = content_of a columns raised lowered

  headed : (fault : Option Reason) (start next : Cursor) (r : Passed) → fault ≡ head_fault a.n a.m a.groups a.flips entries → start.at ≡ 0
      → next ≡ record { at = start.at + 4 + payload records.answer_head } → r ≡ judge fault 0 next → r ≡ head_of as_given given entries
  unfolding head_test
  headed fault start next r f s n e = rw (e, n, s, f)

  grouped : (first : Cursor) (r : Passed) → r ≡ walk (group_test as_given a.n a.taxa) a.groups first → r ≡ groups_of as_given given entries first
  grouped first r e = e ∙ groups_cut as_given _ _ _ _

  flipped : (flips : Cursor) (r : Passed) → r ≡ walk (flips_test as_given a.n a.m columns raised lowered) a.flips flips → r ≡ flips_of as_given given entries flips
  flipped flips r e = e ∙ flips_cut as_given a.n a.m a.flips columns raised lowered flips

  ended : (fault : Option Reason) (end next : Cursor) (r : Passed) → fault ≡ total_fault a.total a.costs a.groups → next ≡ record { at = end.at + 4 + payload records.answer_end }
      → r ≡ judge fault end.at next → r ≡ end_of as_given given entries end
  unfolding end_test
  ended fault end next r f n e = rw (e, n, f, sum_cut _ _)

  leads : {first : Cursor} → Ok first ≡ head_of as_given given entries → HeadKept a.n a.m a.groups a.flips entries × (first.at ≡ 16)
  leads h = given_head _ _ _ _ _ h

  lead : {first flips : Cursor} → Ok first ≡ head_of as_given given entries → Ok flips ≡ groups_of as_given given entries first → flips.at ≡ 16 + 16 * a.groups
  lead h g = omega (arith, (leads h).1, given_groups_move _ _ _ _ g)

  flips_end : (flips : Cursor) {end : Cursor} → Ok end ≡ flips_of as_given given entries flips → end.at ≡ flips.at + 22 * a.flips
  flips_end flips f = given_flips_move a.n a.m a.flips given.columns given.raised given.lowered flips f

pub returns-in_err-first : goal.returns-in_err-first
returns-in_err-first c =
    let a = c.args in
    let h = headed a.answer a.columns.now a.raised.now a.lowered.now a.entries _ _ _ _ c.head_fault-fault.ensures c.start.ensures c.past.ensures c.judge.ensures in
    handed_on _ _ c.from_residual.ensures.1 ∙ head_stops _ _ _ (sym c.in_err-first.was ∙ h)

pub given_groups-requires : goal.given_groups-requires
given_groups-requires c =
    let a = c.args in
    let h = sym c.in_ok-first.was ∙ headed a.answer a.columns.now a.raised.now a.lowered.now a.entries _ _ _ _ c.head_fault-fault.ensures c.start.ensures c.past.ensures c.judge.ensures in
    let k = leads a.answer a.columns.now a.raised.now a.lowered.now a.entries h in
    (k.0.few, omega (arith, k.0.few, k.0.fewer), k.1)

pub returns-in_err-flips : goal.returns-in_err-flips
returns-in_err-flips c =
    let a = c.args in
    let h = sym c.in_ok-first.was ∙ headed a.answer a.columns.now a.raised.now a.lowered.now a.entries _ _ _ _ c.head_fault-fault.ensures c.start.ensures c.past.ensures c.judge.ensures in
    let g = grouped a.answer a.columns.now a.raised.now a.lowered.now a.entries _ _ c.given_groups.ensures in
    handed_on _ _ c.from_residual-in_err-flips.ensures.1 ∙ groups_stop _ _ _ h (sym c.in_err-flips.was ∙ g)

pub given_flips-requires : goal.given_flips-requires
given_flips-requires c =
    let a = c.args in
    let h = sym c.in_ok-first.was ∙ headed a.answer a.columns.now a.raised.now a.lowered.now a.entries _ _ _ _ c.head_fault-fault.ensures c.start.ensures c.past.ensures c.judge.ensures in
    let g = sym c.in_ok-flips.was ∙ grouped a.answer a.columns.now a.raised.now a.lowered.now a.entries _ _ c.given_groups.ensures in
    let k = (leads a.answer a.columns.now a.raised.now a.lowered.now a.entries h).0 in
    let at = lead a.answer a.columns.now a.raised.now a.lowered.now a.entries h g in
    record {
      n_bound = (k.few, k.columns, omega (arith, k.columns, k.flips_fit), omega (arith, k.few, k.fewer, at));
      flips_in_bounds = (omega (arith, k.all_listed, c.requires.0), omega (arith, k.all_listed, c.requires.1), omega (arith, k.all_listed, c.requires.2));
    }

pub returns-in_err-end : goal.returns-in_err-end
returns-in_err-end c =
    let a = c.args in
    let h = sym c.in_ok-first.was ∙ headed a.answer a.columns.now a.raised.now a.lowered.now a.entries _ _ _ _ c.head_fault-fault.ensures c.start.ensures c.past.ensures c.judge.ensures in
    let g = sym c.in_ok-flips.was ∙ grouped a.answer a.columns.now a.raised.now a.lowered.now a.entries _ _ c.given_groups.ensures in
    let f = flipped a.answer a.columns.now a.raised.now a.lowered.now a.entries _ _ c.given_flips.ensures in
    handed_on _ _ c.from_residual-in_err-end.ensures.1 ∙ flips_stop _ _ _ h g (sym c.in_err-end.was ∙ f)

pub total_fault-requires : goal.total_fault-requires
total_fault-requires c =
    let a = c.args in
    let h = sym c.in_ok-first.was ∙ headed a.answer a.columns.now a.raised.now a.lowered.now a.entries _ _ _ _ c.head_fault-fault.ensures c.start.ensures c.past.ensures c.judge.ensures in
    let k = (leads a.answer a.columns.now a.raised.now a.lowered.now a.entries h).0 in
    omega (arith, k.few, k.fewer)

pub past-requires-2 : goal.past-requires-2
past-requires-2 c =
    let a = c.args in
    let h = sym c.in_ok-first.was ∙ headed a.answer a.columns.now a.raised.now a.lowered.now a.entries _ _ _ _ c.head_fault-fault.ensures c.start.ensures c.past.ensures c.judge.ensures in
    let g = sym c.in_ok-flips.was ∙ grouped a.answer a.columns.now a.raised.now a.lowered.now a.entries _ _ c.given_groups.ensures in
    let f = sym c.in_ok-end.was ∙ flipped a.answer a.columns.now a.raised.now a.lowered.now a.entries _ _ c.given_flips.ensures in
    let k = (leads a.answer a.columns.now a.raised.now a.lowered.now a.entries h).0 in
    let at = lead a.answer a.columns.now a.raised.now a.lowered.now a.entries h g in
    let end = flips_end a.answer a.columns.now a.raised.now a.lowered.now a.entries c.in_ok-flips.flips f in
    omega (arith, k.few, k.fewer, k.columns, k.flips_fit, at, end)

pub returns : goal.returns
returns c =
    let a = c.args in
    let h = sym c.in_ok-first.was ∙ headed a.answer a.columns.now a.raised.now a.lowered.now a.entries _ _ _ _ c.head_fault-fault.ensures c.start.ensures c.past.ensures c.judge.ensures in
    let g = sym c.in_ok-flips.was ∙ grouped a.answer a.columns.now a.raised.now a.lowered.now a.entries _ _ c.given_groups.ensures in
    let f = sym c.in_ok-end.was ∙ flipped a.answer a.columns.now a.raised.now a.lowered.now a.entries _ _ c.given_flips.ensures in
    let e = ended a.answer a.columns.now a.raised.now a.lowered.now a.entries _ c.in_ok-end.end _ _ c.total_fault.ensures c.past-2.ensures c.judge-2.ensures in
    e ∙ ends_with _ _ _ h g f
