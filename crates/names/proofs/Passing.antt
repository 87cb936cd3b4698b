-- What a name and an end that were passed say of the file (`Passing`, `Ending`).
use mathlib.Core.Path.{◌≡◌, refl, subst₂}
use mathlib.Core.Bool.{true, false}
use mathlib.Core.List.{List}
use Prim.Native.Nat.{ℕ, ◌+◌, ◌≤◌}
use native.Mathlib.Omega.{arith}
use lib.Dec.{ltb, lit≤}
use lib.ListN.{length, drop, length-drop}
use lib.Seq.{length-take-le}
use borrow.Author.Tests.{ltb-false}
use Rattle.std.specs.Prelude.{Ok}
use Rattle.grammar.specs.Columns.{Bytes}
use Rattle.grammar.specs.Limits.{is_in}
use Rattle.record.specs.Bytes.{number_at}
use Rattle.record.specs.Records as records
use Rattle.record.specs.Records.{record_of, left, step, varying_step, nothing_after, Passed}
use Rattle.record.specs.declared.Cursor.{Cursor}
use Rattle.record.proofs.Steps.{Held, held}
use Rattle.record.proofs.Lengths.{sized, allowed_is, varying_held}
use Rattle.record.proofs.Passing.{unless, where_holds, through_step}
use Rattle.names.specs.Names.{name_at}
use Rattle.names.specs.inner.Places.{after}
use Rattle.names.specs.Check.{any_name, spelt, name_judged, name_passed, end_passed}

-- The record of a name, 1 to 32 long, with no wrong byte and no repeat.
pub record Passing (file : List ℕ) (before : List Bytes) (at : ℕ) (next : Cursor) : Type 0 where
  pub some : 1 ≤ number_at 2 file at
  pub short : number_at 2 file at ≤ 32
  pub stands : Held file at (sized records.name (number_at 2 file at)) (at + 4) next
  pub letters : spelt (name_at file at) ≡ true
  pub new : is_in (name_at file at) before ≡ false

same_cursor : {a c : Cursor} → ◌≡◌ {A = Passed} (Ok a) (Ok c) → c ≡ a
same_cursor e = cc

judged_name : (before : List Bytes) (n : Bytes) (place : ℕ) (c : Cursor) {next : Cursor} → Ok next ≡ name_judged before n place c
    → (spelt n ≡ true) × (is_in n before ≡ false) × (c ≡ next)
unfolding name_judged
judged_name before n place c e =
    let (letters, e') = where_holds (spelt n) _ _ e in
    let (new, e'') = unless (is_in n before) _ _ e' in
    (letters, new, same_cursor e'')

pub passing : (file : List ℕ) (before : List Bytes) (here : Cursor) {next : Cursor} → Ok next ≡ name_passed file before here
    → Passing file before here.at next
unfolding name_passed
passing file before here {next} e =
    let l = number_at 2 file here.at in
    let (at, c, found, j) = through_step (varying_step file here.at any_name) e in
    let (letters, new, same) = judged_name before (name_at file here.at) here.at c j in
    let (allowed, h) = varying_held any_name found in
    let (some, short, step) = allowed_is any_name l (lit≤ tt) allowed in
    record {
      some = some;
      short = short;
      stands = subst₂ (λ (b : ℕ) (c : Cursor). Held file here.at (sized records.name l) b c) h.starts same h;
      letters = letters;
      new = new;
    }

-- The name is as long as the record says.
pub length_name : (file : List ℕ) (at : ℕ) → after file at ≤ length file → length (name_at file at) ≡ number_at 2 file at
unfolding name_at
length_name file at h = length-take-le (number_at 2 file at) (drop (at + 4) file) (rw length-drop (omega arith))

-- The end record, and no byte after it.
pub record Ending (file : List ℕ) (at : ℕ) : Type 0 where
  pub next : Cursor
  pub stands : Held file at (record_of records.names_end) (at + 4) next
  pub last : length file ≤ at + 4

pub ending : (file : List ℕ) (here : Cursor) {last : Cursor} → Ok last ≡ end_passed file here → Ending file here.at
unfolding end_passed nothing_after
ending file here e =
    let (at, c, found, j) = through_step (step file here.at (record_of records.names_end)) e in
    let h = held found in
    let (none_left, j') = unless (ltb 0 (left file c.at)) _ _ j in
    let all_read = ltb-false 0 (left file c.at) none_left in
    record {
      next = c;
      stands = subst₂ (λ (b : ℕ) (c : Cursor). Held file here.at (record_of records.names_end) b c) h.starts refl h;
      last = omega (arith, h.moves);
    }
