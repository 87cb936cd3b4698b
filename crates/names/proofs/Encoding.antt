-- The file of legal names is taken with these names (`list_taken`), and is bytes (`list_bytes`).
use mathlib.Core.Path.{◌≡◌, refl, sym, ap, ◌∙◌}
use mathlib.Core.Bool.{true, false}
use mathlib.Core.List.{List, [], ◌∷◌, ◌++◌, append_assoc, append-nil, Memᴰ}
use Prim.Native.Nat.{ℕ, ◌+◌}
use native.Mathlib.Nat.{add-zero}
use native.Mathlib.Omega.{arith}
use lib.Dec.{lit<}
use lib.ListN.{length, drop, length-drop}
use lib.Seq.{take_at}
use borrow.Author.Tests.{eq-eqb, ne_eqb}
use Rattle.std.specs.Prelude.{Ok}
use Rattle.grammar.specs.Columns.{Bytes}
use Rattle.grammar.specs.Text.{Name, only, more}
use Rattle.grammar.specs.Limits.{is_in, Distinct, next}
use Rattle.record.specs.Bytes.{number_at, File}
use Rattle.record.specs.Records as records
use Rattle.record.specs.Records.{record_of, finds, varying_step}
use Rattle.record.specs.declared.Cursor.{Cursor}
use Rattle.record.specs.declared.Step.TheVariants.{Payload}
use Rattle.record.proofs.Numbers.{past}
use Rattle.record.proofs.Files.{no_bytes, one_more, join, record_file}
use Rattle.record.proofs.Steps.{held, content_stands, record_taken, finds_kind, none_after}
use Rattle.record.proofs.Lengths.{is_allowed, varying_taken, varying_held}
use Rattle.names.specs.Names.{LegalName, Legal, name_record, name_bytes, end_bytes, names_bytes, list_of, name_at}
use Rattle.names.specs.Check.{any_name, names, name_passed, end_passed, listed_from, listed, checked}
use Rattle.names.proofs.Spelling.{marked_letter, letter_small, name_some, name_spelt}
use Rattle.names.proofs.Lists.{list_none, list_first}
use Rattle.names.proofs.Judging.{name_taken, name_read}
use Rattle.names.proofs.Turns.{listed_step}

abbrev cursor : ℕ → Cursor
cursor at = record { at = at }

module _ (file : List ℕ) where
  -- A legal name that stands in a file is read, and passed where it is no repeat.
  module _ {n : Bytes} (l : LegalName n) (at : ℕ) (rest : List ℕ) (e : drop at file ≡ name_bytes n ++ rest) where
    step_is : Payload (at + 4) (cursor (at + 4 + length n)) ≡ varying_step file at any_name
    step_is =
        let allowed = is_allowed any_name (length n) (name_some l.spelt) l.short (omega arith) in
        varying_taken file n rest at any_name e allowed (omega (arith, l.short)) (lit< tt)

    length_is : number_at 2 file at ≡ length n
    length_is = omega (arith, (varying_held any_name step_is).1.moves)

    stands : drop (at + 4) file ≡ n ++ rest
    stands = content_stands file n rest at (name_record n) e

    name_is : name_at file at ≡ n
    unfolding name_at
    name_is = rw (length_is, stands) (take_at n rest (length n) refl)

    finds_name : finds file at records.name ≡ true
    finds_name = let h = (varying_held any_name step_is).1 in sym (finds_kind file at records.name (omega arith)) ∙ eq-eqb _ _ h.kind

    name_passed_lem : (before : List Bytes) → is_in n before ≡ false → name_passed file before (cursor at) ≡ Ok (cursor (at + 4 + length n))
    name_passed_lem before new =
        sym (name_taken before (name_at file at) at (cursor (at + 4 + length n)) (rw name_is (name_spelt l.spelt)) (rw name_is new)
        ∙ name_read file before (cursor at) (at + 4) step_is)

  -- The end record, with nothing after it.
  module _ (at : ℕ) (e : drop at file ≡ end_bytes) where
    end_stands : drop at file ≡ end_bytes ++ []
    end_stands = e ∙ sym (append-nil end_bytes)

    end_step : Payload (at + 4) (cursor (at + 4 + 0)) ≡ records.step file at (record_of records.names_end)
    end_step = record_taken file [] [] at (record_of records.names_end) end_stands (lit< tt) (lit< tt) refl

    finds_end : finds file at records.name ≡ false
    finds_end =
        let h = held end_step in
        sym (finds_kind file at records.name (omega arith)) ∙ ne_eqb (number_at 2 file (at + 2)) records.name (λ k. omega (arith, h.kind))

    end_passed_lem : end_passed file (cursor at) ≡ Ok (cursor (at + 4))
    unfolding end_passed
    end_passed_lem =
        let nothing_left = sym (length-drop (at + 4) file) ∙ ap length (content_stands file [] [] at (record_of records.names_end) end_stands) in
        rw (← end_step, add-zero (at + 4)) (sym (none_after file (cursor (at + 4)) (omega arith)))

  list_stands : (before ns : List Bytes) (at : ℕ) → ((n : Bytes) → Memᴰ n ns → LegalName n) → Distinct before ns → drop at file ≡ list_of ns
      → listed_from file before (cursor at) ≡ names (before ++ ns)
  list_stands before [] at legal d e =
      let e' = e ∙ list_none in
      listed_step file before (cursor at) ∙ rw (finds_end at e', end_passed_lem at e', append-nil before)
  list_stands before (n ∷ ns) at legal (next new d) e =
      let l = legal n (Memᴰ.head refl) in
      let e' = e ∙ list_first n ns in
      let after = past file n (list_of ns) (at + 4) (stands l at (list_of ns) e') in
      listed_step file before (cursor at)
      ∙ rw (finds_name l at (list_of ns) e', name_passed_lem l at (list_of ns) e' before new, name_is l at (list_of ns) e')
      (list_stands (before ++ n ∷ []) ns (at + 4 + length n) (λ m i. legal m (Memᴰ.tail i)) d after ∙ ap names (append_assoc before (n ∷ []) ns))

module _ {ns : List Bytes} (legal : Legal ns) where
  -- "The encoding of any content within the bounds is accepted and reads back to it."
  pub list_taken : names ns ≡ listed (list_of ns)
  unfolding listed
  list_taken = sym (list_stands (list_of ns) [] ns 0 legal.names legal.distinct refl)

  -- The check answers how many there are.
  pub list_checked : Ok (length ns) ≡ checked (list_of ns)
  unfolding checked
  list_checked = rw (← list_taken)

-- The letters of a name are bytes.
name_file : {n : Bytes} → Name n → File n
name_file (only {b} e) = one_more (letter_small b (marked_letter b e)) no_bytes
name_file (more {b} e n) = one_more (letter_small b (marked_letter b e)) (name_file n)

names_file : (ns : List Bytes) → ((n : Bytes) → Memᴰ n ns → LegalName n) → File (names_bytes ns)
unfolding names_bytes
names_file [] legal = no_bytes
names_file (n ∷ ns) legal =
    join (name_bytes n) (record_file (name_record n) (name_file (legal n (Memᴰ.head refl)).spelt)) (names_file ns (λ m i. legal m (Memᴰ.tail i)))

pub list_bytes : {ns : List Bytes} → Legal ns → File (list_of ns)
unfolding list_of
list_bytes {ns} legal = join (names_bytes ns) (names_file ns legal.names) (record_file (record_of records.names_end) no_bytes)
