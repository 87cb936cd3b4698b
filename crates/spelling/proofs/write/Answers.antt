-- `spelling::write` meets its contract: the answer's refusal, the list's, or what two files that were read come to.
use mathlib.Core.Path.{◌≡◌, sym, ◌∙◌}
use mathlib.Core.List.{List}
use Prim.Native.Nat.{ℕ}
use Rattle.std.specs.Prelude.{Ok}
use Rattle.record.specs.declared.Cursor.{Cursor}
use Rattle.record.proofs.Passing.{handed_on}
use Rattle.answer.specs.Reading.{file_tests}
use Rattle.names.specs.Check.{checked}
use Rattle.spelling.specs.inner.Spell.{Readable}
use Rattle.spelling.proofs.Writing.{answer_refused, list_refused, both_read}
use Rattle.spelling.proofs.write.Goals as goal

-- Both were read.
both : (answer list : List ℕ) {here : Cursor} {count : ℕ} → Ok here ≡ file_tests answer → Ok count ≡ checked list → Readable answer list count
both answer list e l = record { here = _; passes = e; taken = l }

pub returns-in_err-pass_file : goal.returns-in_err-pass_file
returns-in_err-pass_file c = rw (handed_on _ _ c.from_residual.ensures.1) (answer_refused _ _ _ (sym c.in_err-pass_file.was ∙ c.pass_file.ensures))

pub returns-in_err-count : goal.returns-in_err-count
returns-in_err-count c =
    rw (handed_on _ _ c.from_residual-in_err-count.ensures.1)
    (list_refused _ _ _ (sym c.in_ok-pass_file.was ∙ c.pass_file.ensures) (sym c.in_err-count.was ∙ c.check.ensures.answers))

pub write_read-requires : goal.write_read-requires
write_read-requires c = both _ _ (sym c.in_ok-pass_file.was ∙ c.pass_file.ensures) (sym c.in_ok-count.was ∙ c.check.ensures.answers)

pub returns : goal.returns
returns c =
    both_read _ _ _ (both _ _ (sym c.in_ok-pass_file.was ∙ c.pass_file.ensures) (sym c.in_ok-count.was ∙ c.check.ensures.answers)) c.write_read.ensures.0
    c.write_read.ensures.1
