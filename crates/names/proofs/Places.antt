-- The check refuses by numbers up to 18, at places in the file or at its end (`refusal_there`), and takes no more names than the file has bytes (`taken_few`).
use mathlib.Core.Path.{◌≡◌, refl, ap}
use mathlib.Core.Bool.{Bool, true, false, cond}
use mathlib.Core.List.{List, [], ◌∷◌, ◌++◌}
use Prim.Native.Nat.{ℕ, zero, suc, ◌≤◌, ◌<◌}
use native.Mathlib.Omega.{arith}
use lib.Dec.{ltb, lit<, lit≤}
use lib.ListN.{length}
use borrow.Author.Tests.{ltb-true}
use Rattle.std.specs.Prelude.{Ok, Err}
use Rattle.grammar.specs.Columns.{Bytes}
use Rattle.grammar.specs.Limits.{is_in}
use Rattle.record.specs.Bytes.{number_at, File}
use Rattle.record.specs.Records as records
use Rattle.record.specs.Records.{record_of, left, finds, varied, varying_step, judged, nothing_after, Passed}
use Rattle.record.specs.declared.Cursor.{Cursor}
use Rattle.record.specs.declared.Record.{Record}
use Rattle.record.specs.declared.refusal.Refusal.{Refusal}
use Rattle.record.specs.declared.Step.{Step}
use Rattle.record.specs.declared.Step.TheVariants as step
use Rattle.record.specs.declared.refusal.Reason.TheVariants as reason
use Rattle.record.specs.Refusals.{refused, refusal_number}
use Rattle.record.proofs.Steps.{EndsBy, step_ends, either_way}
use Rattle.names.specs.Names.{name_at, list_length}
use Rattle.names.specs.Check.{any_name, spelt, name_judged, name_passed, end_passed, Listing, names, refusal, ended, goes_on, listed_in, listed, names_in, counted, checked}
use Rattle.names.proofs.Lists.{length_list}
use Rattle.names.proofs.Passing.{passing}
use Rattle.names.proofs.Taken.{taken_is_file, taken_count}

module _ (file : List ℕ) where
  -- A refusal at a place of the file or at its end, by one of the check's numbers.
  abbrev Placed : Refusal → Type 0
  Placed why = (why.place ≤ length file) × (0 < refusal_number why.reason) × (refusal_number why.reason ≤ 18)

  -- If it is refused, it is there: a reading that keeps no values, and the whole.
  abbrev Told : Passed → Type 0
  Told (Ok c) = Unit {0}
  Told (Err why) = Placed why

  abbrev ToldOf : Listing → Type 0
  ToldOf (names ns) = Unit {0}
  ToldOf (refusal why) = Placed why

  -- A record at a place, and then the tests of its content.
  told_judged : (at : ℕ) (it : Record) → at ≤ length file → (judge : ℕ → Cursor → Passed) → ((b : ℕ) (c : Cursor) → Told (judge b c))
      → Told (judged (records.step file at it) judge)
  told_judged at it h judge all = go (records.step file at it) (step_ends file at it)
    where
      go : (s : Step) → EndsBy at it s → Told (judged s judge)
      go (step.Payload b c) e = all b c
      go (step.Refused why) e = (omega arith, e.1, omega arith)

  told_name : (before : List Bytes) (here : Cursor) → here.at ≤ length file → Told (name_passed file before here)
  unfolding name_passed varying_step name_judged
  told_name before here h =
      let n = name_at file here.at in
      told_judged here.at (varied any_name (number_at 2 file here.at)) h _ (λ b c.
      either_way Told (spelt n) (either_way Told (is_in n before) (h, lit< tt, lit≤ tt) tt) (h, lit< tt, lit≤ tt))

  told_after : (c : Cursor) → Told (nothing_after file c)
  unfolding nothing_after
  told_after c = go (ltb 0 (left file c.at)) refl
    where
      go : (b : Bool) → ltb 0 (left file c.at) ≡ b → Told (cond b (Err (refused reason.Trailing c.at)) (Ok c))
      go true e = (omega (arith, ltb-true 0 (left file c.at) e), lit< tt, lit≤ tt)
      go false e = tt

  told_end : (here : Cursor) → here.at ≤ length file → Told (end_passed file here)
  unfolding end_passed
  told_end here h = told_judged here.at (record_of records.names_end) h _ (λ b c. told_after c)

  told_goes : (p : Passed) (go : Cursor → Listing) → Told p → ((c : Cursor) → Ok c ≡ p → ToldOf (go c)) → ToldOf (goes_on p go)
  told_goes (Ok c) go t h = h c refl
  told_goes (Err why) go t h = t

  told_ended : (before : List Bytes) (p : Passed) → Told p → ToldOf (ended before p)
  told_ended before (Ok c) t = tt
  told_ended before (Err why) t = t

  told_in : (t : ℕ) (before : List Bytes) (here : Cursor) → here.at ≤ length file → ToldOf (listed_in t file before here)
  unfolding listed_in
  told_in zero before here h = (h, lit< tt, lit≤ tt)
  told_in (suc t) before here h =
      let with_it = before ++ name_at file here.at ∷ [] in
      either_way ToldOf (finds file here.at records.name)
      (told_goes (name_passed file before here) _ (told_name before here h) (λ c e. told_in t with_it c (omega (arith, (passing file before here e).stands))))
      (told_ended before (end_passed file here) (told_end here h))

  told_counted : (l : Listing) {why : Refusal} → ToldOf l → Err why ≡ counted l → Placed why
  told_counted (names ns) t e = absurd (let z : ◌≡◌ {A = ℕ} 0 1 = cc in omega arith)
  told_counted (refusal it) {why} t e = let same : why ≡ it = cc in rw same t

  pub refusal_there : {why : Refusal} → Err why ≡ checked file → (why.place ≤ length file) × (0 < refusal_number why.reason) × (refusal_number why.reason ≤ 18)
  unfolding checked listed
  refusal_there e = told_counted (listed file) (told_in (left file 0) [] (record { at = 0 }) (omega arith)) e

-- ---- how many names

few : (ns : List Bytes) → length ns ≤ list_length ns
unfolding list_length
few [] = omega arith
few (n ∷ ns) = omega (arith, few ns)

pub taken_few : {file : List ℕ} {count : ℕ} → File file → Ok count ≡ checked file → count ≤ length file
taken_few {file} f e =
    let (taken, as_many) = taken_count file e in
    let ns = names_in file in
    omega (arith, as_many, few ns, length_list ns, ap length (taken_is_file file taken f))
