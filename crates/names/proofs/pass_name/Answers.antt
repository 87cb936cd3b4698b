-- `names::pass_name` meets its contract: a refused step goes straight out, and else the name is judged.
use borrow.Author.Rules.{rules}
use mathlib.Core.Bool.{Bool}
use mathlib.Core.Path.{◌≡◌, sym, ap, ◌∙◌}
use mathlib.Core.List.{List}
use Prim.Native.Nat.{ℕ, ◌-◌}
use lib.ListN.{take, drop}
use native.Mathlib.Omega.{arith}
use lib.Dec.{lit<}
use Rattle.std.specs.Prelude.{Err}
use Rattle.record.specs.declared.Cursor.{Cursor}
use Rattle.record.specs.Bytes.{number_at}
use Rattle.record.specs.Records as records
use Rattle.record.specs.Records.{varying_step}
use Rattle.record.specs.declared.Step.TheVariants as step
use Rattle.record.proofs.Steps.{Held}
use Rattle.record.proofs.Lengths.{sized, varying_held}
use Rattle.names.specs.Names.{name_at}
use Rattle.names.specs.Check.{any_name, spelt}
use Rattle.names.proofs.Judging.{wrong_byte, repeated, name_taken, name_refused, name_read}
use Rattle.names.proofs.Walking.{name_part}
use Rattle.names.proofs.pass_name.Goals as goal

module _ (file : List ℕ) (place at : ℕ) (next : Cursor) (read : step.Payload at next ≡ varying_step file place any_name) where
  -- The step that was taken.
  taken : Held file place (sized records.name (number_at 2 file place)) at next
  taken = (varying_held any_name read).1

  -- What is tested is the name.
  tested : (b : Bool) → b ≡ spelt (take (next.at - at) (drop at file)) → b ≡ spelt (name_at file place)
  tested b e = rw (taken.starts, name_part file place _ taken.moves) at e

pub returns-in_default : goal.returns-in_default
returns-in_default c =
    let args = c.args in
    let told = c.in_default.is in
    let found : c.read_varying-step.result ≡ varying_step args.file.now args.here.at any_name =
    rw (← c.any_name.ensures) c.read_varying-step.ensures in
    rw (c.past.ensures, told) (name_refused _ _ _ (sym told ∙ found))

pub slice_bounds-is_spelt-count : goal.slice_bounds-is_spelt-count
slice_bounds-is_spelt-count c =
    let args = c.args in
    let read : step.Payload c.in-Payload.at c.in-Payload.next ≡ varying_step args.file.now args.here.at any_name =
    rw (← c.any_name.ensures) (sym c.in-Payload.is ∙ c.read_varying-step.ensures) in
    omega (arith, taken args.file.now args.here.at c.in-Payload.at c.in-Payload.next read)

pub slice_bounds-is_spelt-start : goal.slice_bounds-is_spelt-start
slice_bounds-is_spelt-start c =
    let args = c.args in
    let read : step.Payload c.in-Payload.at c.in-Payload.next ≡ varying_step args.file.now args.here.at any_name =
    rw (← c.any_name.ensures) (sym c.in-Payload.is ∙ c.read_varying-step.ensures) in
    omega (arith, taken args.file.now args.here.at c.in-Payload.at c.in-Payload.next read)

pub slice_bounds-is_spelt-end : goal.slice_bounds-is_spelt-end
slice_bounds-is_spelt-end c =
    let args = c.args in
    let read : step.Payload c.in-Payload.at c.in-Payload.next ≡ varying_step args.file.now args.here.at any_name =
    rw (← c.any_name.ensures) (sym c.in-Payload.is ∙ c.read_varying-step.ensures) in
    omega (arith, taken args.file.now args.here.at c.in-Payload.at c.in-Payload.next read)

pub returns-then-not-is_spelt : goal.returns-then-not-is_spelt
returns-then-not-is_spelt c =
    let args = c.args in
    let read : step.Payload c.in-Payload.at c.in-Payload.next ≡ varying_step args.file.now args.here.at any_name =
    rw (← c.any_name.ensures) (sym c.in-Payload.is ∙ c.read_varying-step.ensures) in
    let spelt_is : c.is_spelt.result ≡ spelt (name_at args.file.now args.here.at) = tested args.file.now args.here.at c.in-Payload.at c.in-Payload.next read _ c.is_spelt.ensures in
    ap Err c.at.ensures ∙ wrong_byte _ _ _ _ (sym spelt_is ∙ c.if-not-is_spelt.true) ∙ name_read _ _ _ _ read

pub is_repeat-requires : goal.is_repeat-requires
is_repeat-requires c =
    let args = c.args in
    let read : step.Payload c.in-Payload.at c.in-Payload.next ≡ varying_step args.file.now args.here.at any_name =
    rw (← c.any_name.ensures) (sym c.in-Payload.is ∙ c.read_varying-step.ensures) in
    let t = taken args.file.now args.here.at c.in-Payload.at c.in-Payload.next read in
    record { follows = search rules; whole = omega arith }

pub returns-then-is_repeat : goal.returns-then-is_repeat
returns-then-is_repeat c =
    let args = c.args in
    let read : step.Payload c.in-Payload.at c.in-Payload.next ≡ varying_step args.file.now args.here.at any_name =
    rw (← c.any_name.ensures) (sym c.in-Payload.is ∙ c.read_varying-step.ensures) in
    let spelt_is : c.is_spelt.result ≡ spelt (name_at args.file.now args.here.at) = tested args.file.now args.here.at c.in-Payload.at c.in-Payload.next read _ c.is_spelt.ensures in
    ap Err c.at-then-is_repeat.ensures ∙ repeated _ _ _ _ (sym spelt_is ∙ c.if-not-is_spelt.false) (sym c.is_repeat.ensures ∙ c.if-is_repeat.true) ∙ name_read _ _ _ _ read

pub returns : goal.returns
returns c =
    let args = c.args in
    let read : step.Payload c.in-Payload.at c.in-Payload.next ≡ varying_step args.file.now args.here.at any_name =
    rw (← c.any_name.ensures) (sym c.in-Payload.is ∙ c.read_varying-step.ensures) in
    let spelt_is : c.is_spelt.result ≡ spelt (name_at args.file.now args.here.at) = tested args.file.now args.here.at c.in-Payload.at c.in-Payload.next read _ c.is_spelt.ensures in
    name_taken _ _ _ _ (sym spelt_is ∙ c.if-not-is_spelt.false) (sym c.is_repeat.ensures ∙ c.if-is_repeat.false) ∙ name_read _ _ _ _ read

pub read_varying-step-requires : goal.read_varying-step-requires
read_varying-step-requires c = rw c.any_name.ensures (lit< tt)
