-- The rows of the check's tables: what a name's tests come to, in the order in which the code makes them, and what a name's step comes to.
use mathlib.Core.Path.{◌≡◌}
use mathlib.Core.Bool.{true, false}
use mathlib.Core.List.{List}
use Prim.Native.Nat.{ℕ}
use Rattle.std.specs.Prelude.{Ok, Err}
use Rattle.grammar.specs.Columns.{Bytes}
use Rattle.grammar.specs.Limits.{is_in}
use Rattle.record.specs.Records.{varying_step}
use Rattle.record.specs.Refusals.{refused}
use Rattle.record.specs.declared.Cursor.{Cursor}
use Rattle.record.specs.declared.refusal.Refusal.{Refusal}
use Rattle.record.specs.declared.Step.TheVariants as step
use Rattle.record.specs.declared.refusal.Reason.TheVariants as reason
use Rattle.names.specs.Names.{name_at}
use Rattle.names.specs.Check.{any_name, spelt, name_judged, name_passed}

module _ (before : List Bytes) (n : Bytes) (place : ℕ) (next : Cursor) where
  pub wrong_byte : spelt n ≡ false → Err (refused reason.Misfit place) ≡ name_judged before n place next
  unfolding name_judged
  wrong_byte s = rw s

  pub repeated : spelt n ≡ true → is_in n before ≡ true → Err (refused reason.Repeated place) ≡ name_judged before n place next
  unfolding name_judged
  repeated s i = rw (s, i)

  pub name_taken : spelt n ≡ true → is_in n before ≡ false → Ok next ≡ name_judged before n place next
  unfolding name_judged
  name_taken s i = rw (s, i)

module _ (file : List ℕ) (before : List Bytes) (here : Cursor) where
  pub name_refused : {why : Refusal} → step.Refused why ≡ varying_step file here.at any_name → Err why ≡ name_passed file before here
  unfolding name_passed
  name_refused e = rw (← e)

  pub name_read : (at : ℕ) {next : Cursor} → step.Payload at next ≡ varying_step file here.at any_name
      → name_judged before (name_at file here.at) here.at next ≡ name_passed file before here
  unfolding name_passed
  name_read at e = rw (← e)
