-- `matrix::check` meets its contract: it ends with the first reading that is refused, and else with n and m.
use native.Mathlib.Omega.{arith}
use mathlib.Core.Path.{◌≡◌, sym, ap, ◌∙◌}
use mathlib.Core.List.{List}
use Prim.Native.Nat.{ℕ}
use Rattle.std.specs.Prelude.{Result}
use Rattle.taxa.specs.Sets.{all}
use Rattle.record.specs.Bytes.{number_at}
use Rattle.record.specs.declared.refusal.Refusal.{Refusal}
use Rattle.record.proofs.Passing.{handed_on}
use Rattle.matrix.specs.declared.Shape.{Shape}
use Rattle.matrix.specs.Check.{multiplicities_passed, columns_passed, checked, returned, Checks}
use Rattle.matrix.proofs.Passing.{Head, head}
use Rattle.matrix.proofs.Judging.{head_refused, multiplicities_refused, columns_refused, end_refused, all_passed}
use Rattle.matrix.proofs.check.Goals as goal

-- The case and its numbers.
checks : (file : List ℕ) {r : Result Shape Refusal} → r ≡ checked file → Checks file r
checks file e = record { answers = e; numbers = ap returned e }

pub returns-in_err-second : goal.returns-in_err-second
returns-in_err-second c = checks _ (handed_on _ _ c.from_residual.ensures.1 ∙ head_refused _ (sym c.pass_head.ensures ∙ c.in_err-second.was))

pub u16_at-n-requires : goal.u16_at-n-requires
u16_at-n-requires c =
    let known : Head c.args.file.now c.in_ok-second.second = head _ (sym c.in_ok-second.was ∙ c.pass_head.ensures) in
    omega arith

pub u16_at-m-requires : goal.u16_at-m-requires
u16_at-m-requires c =
    let known : Head c.args.file.now c.in_ok-second.second = head _ (sym c.in_ok-second.was ∙ c.pass_head.ensures) in
    omega arith

pub returns-in_err-first : goal.returns-in_err-first
returns-in_err-first c =
    let multiplicities_are : (let file = c.args.file.now in
    multiplicities_passed file (number_at 2 file 4) c.in_ok-second.second ≡ c.pass_multiplicities.result) =
    rw (← c.u16_at-n.ensures) (sym c.pass_multiplicities.ensures) in
    checks _ (handed_on _ _ c.from_residual-in_err-first.ensures.1 ∙ multiplicities_refused _ (sym c.pass_head.ensures ∙ c.in_ok-second.was) (multiplicities_are ∙ c.in_err-first.was))

pub all-requires : goal.all-requires
all-requires c =
    let known : Head c.args.file.now c.in_ok-second.second = head _ (sym c.in_ok-second.was ∙ c.pass_head.ensures) in
    omega arith

pub returns-in_err-end : goal.returns-in_err-end
returns-in_err-end c =
    let multiplicities_are : (let file = c.args.file.now in
    multiplicities_passed file (number_at 2 file 4) c.in_ok-second.second ≡ c.pass_multiplicities.result) =
    rw (← c.u16_at-n.ensures) (sym c.pass_multiplicities.ensures) in
    let columns_are : (let file = c.args.file.now in
    columns_passed file (all (number_at 2 file 4)) (number_at 2 file 6) c.in_ok-first.first ≡ c.pass_columns.result) =
    rw (← c.u16_at-n.ensures, ← c.u16_at-m.ensures, ← c.from.ensures, ← c.all.ensures) (sym c.pass_columns.ensures) in
    checks _ (handed_on _ _ c.from_residual-in_err-end.ensures.1 ∙ columns_refused _ (sym c.pass_head.ensures ∙ c.in_ok-second.was) (multiplicities_are ∙ c.in_ok-first.was) (columns_are ∙ c.in_err-end.was))

pub returns-in_err-pass_end : goal.returns-in_err-pass_end
returns-in_err-pass_end c =
    let multiplicities_are : (let file = c.args.file.now in
    multiplicities_passed file (number_at 2 file 4) c.in_ok-second.second ≡ c.pass_multiplicities.result) =
    rw (← c.u16_at-n.ensures) (sym c.pass_multiplicities.ensures) in
    let columns_are : (let file = c.args.file.now in
    columns_passed file (all (number_at 2 file 4)) (number_at 2 file 6) c.in_ok-first.first ≡ c.pass_columns.result) =
    rw (← c.u16_at-n.ensures, ← c.u16_at-m.ensures, ← c.from.ensures, ← c.all.ensures) (sym c.pass_columns.ensures) in
    checks _ (handed_on _ _ c.from_residual-in_err-pass_end.ensures.1 ∙ end_refused _ (sym c.pass_head.ensures ∙ c.in_ok-second.was) (multiplicities_are ∙ c.in_ok-first.was) (columns_are ∙ c.in_ok-end.was) (sym c.pass_end.ensures ∙ c.in_err-pass_end.was))

pub returns : goal.returns
returns c =
    let multiplicities_are : (let file = c.args.file.now in
    multiplicities_passed file (number_at 2 file 4) c.in_ok-second.second ≡ c.pass_multiplicities.result) =
    rw (← c.u16_at-n.ensures) (sym c.pass_multiplicities.ensures) in
    let columns_are : (let file = c.args.file.now in
    columns_passed file (all (number_at 2 file 4)) (number_at 2 file 6) c.in_ok-first.first ≡ c.pass_columns.result) =
    rw (← c.u16_at-n.ensures, ← c.u16_at-m.ensures, ← c.from.ensures, ← c.all.ensures) (sym c.pass_columns.ensures) in
    checks _ (rw (c.u16_at-n.ensures, c.u16_at-m.ensures) (all_passed _ (sym c.pass_head.ensures ∙ c.in_ok-second.was) (multiplicities_are ∙ c.in_ok-first.was) (columns_are ∙ c.in_ok-end.was) (sym c.pass_end.ensures ∙ c.in_ok-pass_end.was)))
