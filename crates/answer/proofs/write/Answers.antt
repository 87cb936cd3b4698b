-- `answer::write` meets its contract: the tests and the room decide, and only then is the file written.
use mathlib.Core.Path.{◌≡◌, sym, ap, ◌∙◌}
use mathlib.Core.List.{List}
use Prim.Native.Nat.{ℕ}
use Rattle.record.specs.Records.{Passed}
use Rattle.record.proofs.Passing.{handed_on}
use Rattle.answer.specs.declared.Answer.{Answer}
use Rattle.answer.specs.Content.{content_of}
use Rattle.answer.specs.Tests.{as_given, tests}
use Rattle.answer.specs.Reading.{listed}
use Rattle.answer.proofs.Outcomes.{given_refused, no_output_room, written_out, given_head_kept, column_fits}
use native.Mathlib.Omega.{arith}
use Rattle.answer.proofs.write.Goals as goal

-- What the tests said, of all entries that are listed.
tested : (a : Answer) (columns raised lowered : List ℕ) (entries : ℕ) (r : Passed) → entries ≡ listed columns raised lowered
    → r ≡ tests as_given (content_of a columns raised lowered) entries → r ≡ tests as_given (content_of a columns raised lowered) (listed columns raised lowered)
tested a columns raised lowered entries r all e = e ∙ ap (tests as_given (content_of a columns raised lowered)) all

pub returns-in_err-pass_given : goal.returns-in_err-pass_given
returns-in_err-pass_given c =
    let s = c.args in
    let t = tested s.answer s.columns.now s.raised.now s.lowered.now _ _ (rw c.min.ensures at c.min-entries.ensures) c.pass_given.ensures in
    rw (handed_on _ _ c.from_residual.ensures.1) (given_refused _ _ _ (sym c.in_err-pass_given.was ∙ t))

pub returns-then-out-size : goal.returns-then-out-size
returns-then-out-size c =
    let s = c.args in
    let t = tested s.answer s.columns.now s.raised.now s.lowered.now _ _ (rw c.min.ensures at c.min-entries.ensures) c.pass_given.ensures in
    rw c.at.ensures (no_output_room _ _ _ (sym c.in_ok-pass_given.was ∙ t) (omega arith))

pub put_answer-requires : goal.put_answer-requires
put_answer-requires c =
    let s = c.args in
    let t = tested s.answer s.columns.now s.raised.now s.lowered.now _ _ (rw c.min.ensures at c.min-entries.ensures) c.pass_given.ensures in
    let k = given_head_kept _ _ s.out.now (sym c.in_ok-pass_given.was ∙ t) in
    record {
      groups_bound = (omega (arith, k.few, k.fewer), omega arith);
      flips_in_bounds = (omega (arith, k.all_listed), omega (arith, k.all_listed), omega (arith, k.all_listed));
      by_index = column_fits s.answer s.columns.now s.raised.now s.lowered.now _ (sym c.in_ok-pass_given.was ∙ t);
    }

pub returns : goal.returns
returns c =
    let s = c.args in
    let t = tested s.answer s.columns.now s.raised.now s.lowered.now _ _ (rw c.min.ensures at c.min-entries.ensures) c.pass_given.ensures in
    written_out _ _ _ (sym c.in_ok-pass_given.was ∙ t) (omega arith) c.put_answer.ensures
