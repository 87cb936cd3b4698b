-- The rows of the check's tables: what the head's and a column's tests come to, in the order in which the code makes them.
use mathlib.Core.Path.{◌≡◌}
use mathlib.Core.Bool.{true, false}
use mathlib.Core.Logic.{◌≢◌}
use Prim.Native.Nat.{ℕ, zero, suc, ◌-◌, ◌≤◌, ◌<◌}
use native.Mathlib.Numerals.{sub-one}
use native.Mathlib.Omega.{arith}
use mathlib.Core.List.{List}
use borrow.Author.Tests.{lt-ltb, le-ltb, eq-eqb, ne_eqb}
use Rattle.std.specs.Prelude.{Ok, Err}
use Rattle.taxa.specs.Sets.{◌∩◌, within, all}
use Rattle.record.specs.Bytes.{number_at}
use Rattle.record.specs.Records.{onward, Passed}
use Rattle.record.specs.Refusals.{refused}
use Rattle.record.specs.declared.Cursor.{Cursor}
use Rattle.record.specs.declared.refusal.Refusal.{Refusal}
use Rattle.record.specs.declared.refusal.Reason.TheVariants as reason
use Rattle.matrix.specs.declared.Column.{Column}
use Rattle.matrix.specs.Check.{head_judged, head_passed, multiplicities_passed, column_judged, column_passed, columns_passed, end_passed, file_passed, checked, shape}

module _ (n m : ℕ) (next : Cursor) where
  pub no_taxa : n ≡ 0 → Err (refused reason.TaxonCount 0) ≡ head_judged n m next
  unfolding head_judged
  no_taxa h = rw (eq-eqb _ _ h)

  pub many_taxa : n ≢ 0 → 64 < n → Err (refused reason.TaxonCount 0) ≡ head_judged n m next
  unfolding head_judged
  many_taxa h l = rw (ne_eqb _ _ h, lt-ltb _ _ l)

  pub many_columns : n ≢ 0 → n ≤ 64 → 256 < m → Err (refused reason.ColumnCount 0) ≡ head_judged n m next
  unfolding head_judged
  many_columns h l k = rw (ne_eqb _ _ h, le-ltb _ _ l, lt-ltb _ _ k)

  pub head_taken : n ≢ 0 → n ≤ 64 → m ≤ 256 → Ok next ≡ head_judged n m next
  unfolding head_judged
  head_taken h l k = rw (ne_eqb _ _ h, le-ltb _ _ l, le-ltb _ _ k)

module _ (known place : ℕ) (c : Column) (next : Cursor) where
  pub no_weight : c.weight ≡ 0 → Err (refused reason.Weightless place) ≡ column_judged known place c next
  unfolding column_judged
  no_weight h = rw (eq-eqb _ _ h)

  pub unknown_one : c.weight ≢ 0 → within c.ones known ≡ false → Err (refused reason.UnknownTaxon place) ≡ column_judged known place c next
  unfolding column_judged
  unknown_one h o = rw (ne_eqb _ _ h, o)

  pub unknown_zero : c.weight ≢ 0 → within c.ones known ≡ true → within c.zeros known ≡ false → Err (refused reason.UnknownTaxon place) ≡ column_judged known place c next
  unfolding column_judged
  unknown_zero h o z = rw (ne_eqb _ _ h, o, z)

  module _ (h : c.weight ≢ 0) (o : within c.ones known ≡ true) (z : within c.zeros known ≡ true) where
    pub in_both : c.ones ∩ c.zeros ≢ 0 → Err (refused reason.BothSets place) ≡ column_judged known place c next
    unfolding column_judged
    in_both b = rw (ne_eqb _ _ h, o, z, ne_eqb _ _ b)

    pub column_taken : c.ones ∩ c.zeros ≡ 0 → Ok next ≡ column_judged known place c next
    unfolding column_judged
    column_taken b = rw (ne_eqb _ _ h, o, z, eq-eqb _ _ b)

-- A column passed, and what is left of them.
pub one_more : (file : List ℕ) (known m : ℕ) (here : Cursor) → 0 < m → columns_passed file known m here ≡ onward (column_passed file known here) (columns_passed file known (m - 1))
unfolding columns_passed
one_more file known zero here h = absurd (omega arith)
one_more file known (suc m) here h = rw sub-one

-- The check ends where a reading is refused, and else with n and m.
module _ (file : List ℕ) where
  abbrev columns_rest : Cursor → Passed
  columns_rest = columns_passed file (all (number_at 2 file 4)) (number_at 2 file 6)

  pub head_refused : {why : Refusal} → head_passed file ≡ Err why → Err why ≡ checked file
  unfolding checked file_passed
  head_refused h = rw h

  module _ {second : Cursor} (h : head_passed file ≡ Ok second) where
    pub multiplicities_refused : {why : Refusal} → multiplicities_passed file (number_at 2 file 4) second ≡ Err why → Err why ≡ checked file
    unfolding checked file_passed
    multiplicities_refused k = rw (h, k)

    module _ {first : Cursor} (k : multiplicities_passed file (number_at 2 file 4) second ≡ Ok first) where
      pub columns_refused : {why : Refusal} → columns_rest first ≡ Err why → Err why ≡ checked file
      unfolding checked file_passed
      columns_refused l = rw (h, k, l)

      pub end_refused : {end : Cursor} {why : Refusal} → columns_rest first ≡ Ok end → end_passed file end ≡ Err why → Err why ≡ checked file
      unfolding checked file_passed
      end_refused l e = rw (h, k, l, e)

      pub all_passed : {end last : Cursor} → columns_rest first ≡ Ok end → end_passed file end ≡ Ok last → Ok (shape (number_at 2 file 4) (number_at 2 file 6)) ≡ checked file
      unfolding checked file_passed
      all_passed l e = rw (h, k, l, e)
