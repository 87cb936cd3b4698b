-- The check's loop: where it stands after some names (`Reached`), how it begins and goes on (`begun`, `gone_on`), and what it ends with.
use mathlib.Core.Path.{◌≡◌, sym, ap, ◌∙◌}
use mathlib.Core.Bool.{true, false}
use mathlib.Core.List.{List}
use Prim.Native.Nat.{ℕ, ◌+◌, ◌≤◌}
use native.Mathlib.Omega.{arith}
use lib.ListN.{length}
use Rattle.std.specs.Prelude.{Ok, Err}
use Rattle.grammar.specs.Columns.{Bytes}
use Rattle.record.specs.Records as records
use Rattle.record.specs.Records.{finds}
use Rattle.record.specs.declared.Cursor.{Cursor}
use Rattle.record.specs.declared.refusal.Refusal.{Refusal}
use Rattle.names.specs.inner.Places.{after, names_from, place_from}
use Rattle.names.specs.Check.{name_passed, end_passed, listed_from, listed, checked}
use Rattle.names.proofs.Walking.{names_more, place_more, length_names}
use Rattle.names.proofs.Passing.{passing}
use Rattle.names.proofs.Turns.{listed_step}

-- After `count` names the file comes to what is left to read after them.
pub record Reached (file : List ℕ) (here : Cursor) (count : ℕ) : Type 0 where
  pub follows : here.at ≡ place_from file count 0
  pub within : here.at ≤ length file
  pub comes : listed file ≡ listed_from file (names_from file count 0) here

pub begun : (file : List ℕ) (here : Cursor) → here.at ≡ 0 → Reached file here 0
unfolding place_from names_from listed
begun file here e = record { follows = e; within = omega arith; comes = rw e }

module _ {file : List ℕ} {here : Cursor} {count : ℕ} (r : Reached file here count) where
  abbrev before : List Bytes
  before = names_from file count 0

  module _ (found : finds file here.at records.name ≡ true) where
    pub gone_on : {next : Cursor} → Ok next ≡ name_passed file before here → Reached file next (count + 1)
    gone_on {next} e =
        let p = passing file before here e in
        record {
          follows = p.stands.moves ∙ ap (after file) r.follows ∙ sym (place_more file count 0);
          within = omega (arith, p.stands);
          comes = r.comes ∙ listed_step file before here ∙ rw (found, ← e, names_more file count 0, ← r.follows);
        }

    pub name_stops : {why : Refusal} → Err why ≡ name_passed file before here → Err why ≡ checked file
    unfolding checked
    name_stops e = rw (r.comes ∙ listed_step file before here, found, ← e)

  module _ (other : finds file here.at records.name ≡ false) where
    pub end_stops : {why : Refusal} → Err why ≡ end_passed file here → Err why ≡ checked file
    unfolding checked
    end_stops e = rw (r.comes ∙ listed_step file before here, other, ← e)

    pub all_passed : {last : Cursor} → Ok last ≡ end_passed file here → Ok count ≡ checked file
    unfolding checked
    all_passed e = rw (r.comes ∙ listed_step file before here, other, ← e, length_names)
