-- What a head, multiplicities and a column that were passed say of the file (`Head`, `There`, `Passing`).
use mathlib.Core.Path.{◌≡◌, subst₂}
use mathlib.Core.Bool.{true, false, ◌||◌, ◌&&◌, and-eq-true_iff}
use mathlib.Core.List.{List}
use mathlib.Core.Logic.{◌≢◌}
use Prim.Native.Nat.{ℕ, ◌+◌, ◌≤◌, ◌<◌}
use native.Mathlib.Omega.{arith}
use lib.Dec.{ltb, eqb}
use lib.ListN.{length, take, drop, length-drop}
use lib.Seq.{length-take-le}
use borrow.Author.Tests.{ltb-false, eqb-true, eqb-false}
use Rattle.std.specs.Prelude.{Ok}
use Rattle.taxa.specs.Sets.{◌∩◌, ◌⊆◌, within}
use Rattle.taxa.proofs.Members.{within_⊆}
use Rattle.record.specs.Bytes.{number_at}
use Rattle.record.specs.Records as records
use Rattle.record.specs.Records.{record_of, multiplicity_record, step, Passed}
use Rattle.record.specs.declared.Cursor.{Cursor}
use Rattle.record.proofs.Steps.{Held, held}
use Rattle.record.proofs.Passing.{neither, unless, where_holds, through_step}
use Rattle.matrix.specs.declared.Column.{Column}
use Rattle.matrix.specs.Matrix.{Merging, has_multiplicities, column_at}
use Rattle.matrix.specs.Check.{head_judged, head_passed, multiplicities_passed, column_judged, column_passed}
use Rattle.matrix.proofs.Multiplying.{judged_multiplicities}

same_cursor : {a c : Cursor} → ◌≡◌ {A = Passed} (Ok a) (Ok c) → c ≡ a
same_cursor e = cc

pub record Head (file : List ℕ) (next : Cursor) : Type 0 where
  pub stands : Held file 0 (record_of records.matrix_head) 4 next
  pub some : 0 < number_at 2 file 4
  pub few : number_at 2 file 4 ≤ 64
  pub columns : number_at 2 file 6 ≤ 256

judged_head : (n m : ℕ) (c : Cursor) {next : Cursor} → Ok next ≡ head_judged n m c → (0 < n) × (n ≤ 64) × (m ≤ 256) × (c ≡ next)
unfolding head_judged
judged_head n m c e =
    let (taxa, e') = unless (eqb n 0 || ltb 64 n) _ _ e in
    let (columns, e'') = unless (ltb 256 m) _ _ e' in
    let (none, many) = neither (eqb n 0) (ltb 64 n) taxa in
    (omega (arith, eqb-false n 0 none), ltb-false 64 n many, ltb-false 256 m columns, same_cursor e'')

pub head : (file : List ℕ) {next : Cursor} → Ok next ≡ head_passed file → Head file next
unfolding head_passed
head file {next} e =
    let (at, c, found, j) = through_step (step file 0 (record_of records.matrix_head)) e in
    let (some, few, columns, same) = judged_head (number_at 2 file at) (number_at 2 file (at + 2)) c j in
    let b : at ≡ 4 = omega (arith, held found) in
    record { stands = subst₂ (λ (b : ℕ) (c : Cursor). Held file 0 (record_of records.matrix_head) b c) b same (held found); some = rw b at some; few = rw b at few; columns = rw b at columns }

-- A record of multiplicities.
pub record There (file : List ℕ) (n at : ℕ) (next : Cursor) : Type 0 where
  pub stands : Held file at (multiplicity_record n) (at + 4) next
  pub merging : Merging n (take n (drop (at + 4) file))

pub there : (file : List ℕ) (n : ℕ) (here : Cursor) {next : Cursor} → has_multiplicities file ≡ true → Ok next ≡ multiplicities_passed file n here → There file n here.at next
unfolding multiplicities_passed
there file n here {next} is e =
    let (at, c, found, j) = through_step (step file here.at (multiplicity_record n)) (rw is at e) in
    let (merging, same) = judged_multiplicities (take n (drop at file)) here.at c j in
    let h = held found in
    let b = h.starts in
    let long : length (take n (drop at file)) ≡ n = length-take-le n (drop at file) (rw length-drop (omega arith)) in
    record {
      stands = subst₂ (λ (b : ℕ) (c : Cursor). Held file here.at (multiplicity_record n) b c) b (same_cursor same) h;
      merging = rw b at (rw long at merging);
    }

-- None: the cursor stays.
pub not_there : (file : List ℕ) (n : ℕ) (here : Cursor) {next : Cursor} → has_multiplicities file ≡ false → Ok next ≡ multiplicities_passed file n here → here ≡ next
unfolding multiplicities_passed
not_there file n here is e = same_cursor (rw is at e)

pub record Passing (file : List ℕ) (known at : ℕ) (next : Cursor) : Type 0 where
  pub stands : Held file at (record_of records.column) (at + 4) next
  pub weighs : (column_at file (at + 4)).weight ≢ 0
  pub ones_known : (column_at file (at + 4)).ones ⊆ known
  pub zeros_known : (column_at file (at + 4)).zeros ⊆ known
  pub apart : (column_at file (at + 4)).ones ∩ (column_at file (at + 4)).zeros ≡ 0

judged_column : (known place : ℕ) (it : Column) (c : Cursor) {next : Cursor} → Ok next ≡ column_judged known place it c
    → (it.weight ≢ 0) × (it.ones ⊆ known) × (it.zeros ⊆ known) × (it.ones ∩ it.zeros ≡ 0) × (c ≡ next)
unfolding column_judged
judged_column known place it c e =
    let (weight, e') = unless (eqb it.weight 0) _ _ e in
    let (sets, e'') = where_holds (within it.ones known && within it.zeros known) _ _ e' in
    let (apart, e''') = where_holds (eqb (it.ones ∩ it.zeros) 0) _ _ e'' in
    let (ones, zeros) = (and-eq-true_iff (within it.ones known) (within it.zeros known)).0 sets in
    (eqb-false _ _ weight, (within_⊆ _ _).0 ones, (within_⊆ _ _).0 zeros, eqb-true _ _ apart, same_cursor e''')

pub passing : (file : List ℕ) (known : ℕ) (here : Cursor) {next : Cursor} → Ok next ≡ column_passed file known here → Passing file known here.at next
unfolding column_passed
passing file known here {next} e =
    let (at, c, found, j) = through_step (step file here.at (record_of records.column)) e in
    let (weighs, ones, zeros, apart, same) = judged_column known here.at (column_at file at) c j in
    let b = (held found).starts in
    record {
      stands = subst₂ (λ (b : ℕ) (c : Cursor). Held file here.at (record_of records.column) b c) b same (held found);
      weighs = rw b at weighs;
      ones_known = rw b at ones;
      zeros_known = rw b at zeros;
      apart = rw b at apart;
    }
