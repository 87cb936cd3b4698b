-- A file that the check takes is the file of the matrix in it (`taken_is_file`), that matrix is legal (`taken_legal`), with each of its columns
-- (`taken_column`), and so two files that are taken and hold the same matrix are the same bytes (`same_matrix_same_file`).
use mathlib.Core.Path.{◌≡◌, refl, sym, ap, ◌∙◌, subst}
use mathlib.Core.Bool.{Bool, true, false}
use mathlib.Core.List.{List, [], ◌++◌, append_assoc, append-nil}
use Prim.Native.Nat.{ℕ, zero, suc, ◌+◌, ◌*◌, ◌≤◌, ◌<◌}
use native.Mathlib.Nat.{add-zero, mul-zero}
use native.Mathlib.Omega.{arith}
use lib.ListN.{length, get_or, take, drop, drop_of_length-le, take-append-drop}
use lib.Seq.{drop-drop}
use borrow.Author.Tests.{ltb-false}
use lib.Dec.{ltb}
use Rattle.std.specs.Prelude.{Ok, Err}
use Rattle.taxa.specs.Sets.{all}
use Rattle.record.specs.Bytes.{number_at, bytes_of, File}
use Rattle.record.specs.Records as records
use Rattle.record.specs.Records.{record_of, left, step, nothing_after, Passed}
use Rattle.record.specs.declared.Cursor.{Cursor}
use Rattle.record.proofs.Numbers.{at_lt, read_then}
use Rattle.record.proofs.Steps.{Held, held, record_bytes_lem}
use Rattle.record.proofs.Passing.{unless, through_step, through}
use Rattle.matrix.specs.declared.Column.{Column}
use Rattle.matrix.specs.declared.Shape.{Shape}
use Rattle.matrix.specs.Matrix.{Legal, LegalMultiplicities, absent, given, LegalColumn, LegalColumns, none, one, head_bytes, multiplicity_bytes, column_bytes, columns_bytes, end_bytes, file_of, has_multiplicities, multiplicities_in, columns_at, column_at, column_in, columns_from, matrix_of}
use Rattle.matrix.specs.inner.Planes.{Multiplied}
use Rattle.matrix.specs.Check.{head_passed, multiplicities_passed, column_passed, columns_passed, end_passed, file_passed, answered, checked, shape}
use Rattle.matrix.proofs.Passing.{Head, head, There, there, not_there, Passing, passing}
use Rattle.matrix.proofs.Multiplying.{multiplicities_there, columns_there, multiplicities_none, columns_none, before_columns, given_bytes, legal_fit}

module _ {file : List ℕ} (f : File file) where
  -- ---- the records that were passed stand in the file

  head_stands : {next : Cursor} → Head file next → file ≡ head_bytes (number_at 2 file 4) (number_at 2 file 6) ++ drop 8 file
  head_stands h =
      let long : 8 ≤ length file = h.stands.ends in
      let m = read_then 2 6 f long refl refl in
      let n = read_then 2 4 f (omega arith) refl m in
      record_bytes_lem _ _ f h.stands (n ∙ sym (append_assoc (bytes_of 2 (number_at 2 file 4)) (bytes_of 2 (number_at 2 file 6)) (drop 8 file)))

  column_stands : {known at : ℕ} {next : Cursor} → Passing file known at next → drop at file ≡ column_bytes (column_at file (at + 4)) ++ drop (at + 22) file
  column_stands {at = at} p =
      let long : at + 22 ≤ length file = omega (arith, p.stands.ends) in
      let z = read_then 8 (at + 4 + 10) {after = at + 22} f long (omega arith) refl in
      let o = read_then 8 (at + 4 + 2) {after = at + 4 + 10} f (omega arith) (omega arith) z in
      let w = read_then 2 (at + 4) {after = at + 4 + 2} f (omega arith) refl o in
      record_bytes_lem _ _ f p.stands (w ∙ simp append_assoc)

  end_stands : {at b : ℕ} {next : Cursor} → Held file at (record_of records.matrix_end) b next → drop at file ≡ end_bytes ++ drop b file
  end_stands h = record_bytes_lem [] _ f h refl

  -- ---- the multiplicities

  abbrev taxa_count : ℕ
  taxa_count = number_at 2 file 4

  abbrev column_count : ℕ
  column_count = number_at 2 file 6

  -- What they say of the file from the head on, where they are there and where they are not.
  record Multiplying (next : Cursor) : Type 0 where
    moves : next.at ≡ columns_at file
    stand : drop 8 file ≡ multiplicity_bytes (multiplicities_in file) ++ drop (columns_at file) file
    legal : LegalMultiplicities taxa_count (multiplicities_in file)

  with_them : {next : Cursor} → 0 < taxa_count → has_multiplicities file ≡ true → There file taxa_count 8 next → Multiplying next
  with_them some is t =
      let ms = take taxa_count (drop 12 file) in
      let split : drop 12 file ≡ ms ++ drop (12 + taxa_count) file = sym (take-append-drop taxa_count (drop 12 file)) ∙ ap (◌++◌ ms) (drop-drop taxa_count 12 file) in
      record {
        moves = t.stands.moves ∙ sym (columns_there file is);
        stand = rw (multiplicities_there file is, columns_there file is, given_bytes ms t.merging.one_each some) (record_bytes_lem _ _ f t.stands split);
        legal = rw (multiplicities_there file is) (given t.merging);
      }

  without_them : {next : Cursor} → has_multiplicities file ≡ false → next.at ≡ 8 → Multiplying next
  unfolding multiplicity_bytes
  without_them is e =
      record { moves = e ∙ sym (columns_none file is); stand = rw (multiplicities_none file is, columns_none file is); legal = rw (multiplicities_none file is) absent }

  multiplicities : {here next : Cursor} → Head file here → Ok next ≡ multiplicities_passed file taxa_count here → Multiplying next
  multiplicities {here} {next} h e = go (has_multiplicities file) refl
    where
      go : (b : Bool) → has_multiplicities file ≡ b → Multiplying next
      go true is = with_them h.some is (subst (λ (at : ℕ). There file taxa_count at next) h.stands.moves (there file taxa_count here is e))
      go false is = without_them is (ap (λ (c : Cursor). c.at) (sym (not_there file taxa_count here is e)) ∙ h.stands.moves)

  -- ---- the columns

  column_legal : {n at : ℕ} {next : Cursor} → Passing file (all n) at next → LegalColumn n (column_at file (at + 4))
  column_legal {at = at} p =
      record { weighs = omega (arith, p.weighs); weight_fits = at_lt 2 (at + 4) f; ones_known = p.ones_known; zeros_known = p.zeros_known; apart = p.apart }

  -- What m columns that were passed say of the file from a place on.
  record Columns (n m at : ℕ) (end : Cursor) : Type 0 where
    moves : end.at ≡ at + 22 * m
    stand : drop at file ≡ columns_bytes (columns_from file m at) ++ drop (at + 22 * m) file
    legal : LegalColumns n (columns_from file m at)

  no_columns : (n : ℕ) (here : Cursor) → Columns n 0 here.at here
  unfolding columns_from columns_bytes
  no_columns n here = record { moves = omega arith; stand = rw (mul-zero, add-zero); legal = none }

  one_more : {n m at : ℕ} {next end : Cursor} → Passing file (all n) at next → Columns n m (at + 22) end → Columns n (suc m) at end
  unfolding columns_from columns_bytes
  one_more {m = m} {at} p r =
      let far : at + 22 + 22 * m ≡ at + 22 * suc m = omega arith in
      record {
        moves = omega (arith, r.moves);
        stand = column_stands p ∙ ap (◌++◌ (column_bytes (column_at file (at + 4)))) r.stand ∙ rw (far, append_assoc);
        legal = one (column_legal p) r.legal;
      }

  columns : (n m : ℕ) (here : Cursor) {end : Cursor} → Ok end ≡ columns_passed file (all n) m here → Columns n m here.at end
  unfolding columns_passed
  columns n zero here {end} e = subst (λ (c : Cursor). Columns n 0 here.at c) (cc) (no_columns n here)
  columns n (suc m) here {end} e =
      let (c, passed, rest) = through (column_passed file (all n) here) e in
      let p = passing file (all n) here passed in
      one_more p (subst (λ (at : ℕ). Columns n m at end) (p.stands.moves ∙ omega arith) (columns n m c rest))

  -- ---- the end

  record End (at : ℕ) : Type 0 where
    stands : drop at file ≡ end_bytes
    length_is : length file ≡ at + 4

  ended : (here : Cursor) {last : Cursor} → Ok last ≡ end_passed file here → End here.at
  unfolding end_passed nothing_after
  ended here e =
      let (at, c, found, j) = through_step (step file here.at (record_of records.matrix_end)) e in
      let h = held found in
      let (none_left, j') = unless (ltb 0 (left file c.at)) _ _ j in
      let all_read = ltb-false 0 (left file c.at) none_left in
      record {
        stands = end_stands h ∙ ap (◌++◌ end_bytes) (drop_of_length-le file {i = at} (omega arith)) ∙ append-nil end_bytes;
        length_is = omega (arith, h.moves, h.ends);
      }

  -- ---- the whole file

  -- What a file that is taken says of itself.
  record Readings : Type 0 where
    second : Cursor
    first : Cursor
    end : Cursor
    head_read : Head file second
    multiplicities_read : Multiplying first
    columns_read : Columns taxa_count column_count (columns_at file) end
    end_read : End (columns_at file + 22 * column_count)

  gather : {second first end last : Cursor} → Ok second ≡ head_passed file → Ok first ≡ multiplicities_passed file taxa_count second
      → Ok end ≡ columns_passed file (all taxa_count) column_count first → Ok last ≡ end_passed file end → Readings
  gather {second} {first} {end} h m c e =
      let hd = head file h in
      let ms = multiplicities hd m in
      let cols = subst (λ (at : ℕ). Columns taxa_count column_count at end) ms.moves (columns taxa_count column_count first c) in
      record { second = second; first = first; end = end; head_read = hd; multiplicities_read = ms; columns_read = cols; end_read = rw cols.moves at (ended end e) }

  all_read : {n m : ℕ} (p : Passed) → Ok (shape n m) ≡ answered taxa_count column_count p → (last : Cursor) × (Ok last ≡ p) × (taxa_count ≡ n) × (column_count ≡ m)
  all_read (Ok last) e = let same : shape _ _ ≡ shape taxa_count column_count = cc in (last, refl, sym (ap (λ (s : Shape). s.n) same), sym (ap (λ (s : Shape). s.m) same))
  all_read (Err why) e = absurd (let z : ◌≡◌ {A = ℕ} 0 1 = cc in omega arith)

  readings : {n m : ℕ} → Ok (shape n m) ≡ checked file → Readings × (taxa_count ≡ n) × (column_count ≡ m)
  unfolding checked file_passed
  readings e =
      let (last, passed, n-is, m-is) = all_read (file_passed file) e in
      let (second, h, passed') = through (head_passed file) passed in
      let (first, ms, passed'') = through (multiplicities_passed file taxa_count second) passed' in
      let (end, c, ends) = through (columns_passed file (all taxa_count) column_count first) passed'' in
      (gather h ms c ends, n-is, m-is)

length_columns : (file : List ℕ) (m at : ℕ) → length (columns_from file m at) ≡ m
unfolding columns_from
length_columns file zero at = refl
length_columns file (suc m) at = ap suc (length_columns file m (at + 22))

-- Column c of m whose records start at a place; of the matrix in a file, it is that file's column c.
column_from : (file : List ℕ) (m at c : ℕ) (d : Column) → c < length (columns_from file m at) → get_or (columns_from file m at) c d ≡ column_at file (at + 4 + 22 * c)
unfolding columns_from
column_from file zero at c d b = absurd (omega arith)
column_from file (suc m) at zero d b = ap (column_at file) (omega arith)
column_from file (suc m) at (suc c) d b = column_from file m (at + 22) c d (omega arith) ∙ ap (column_at file) (omega arith)

pub column_of_lem : (file : List ℕ) (c : ℕ) (d : Column) → c < length (matrix_of file).columns → get_or (matrix_of file).columns c d ≡ column_in file c
unfolding matrix_of
column_of_lem file = column_from file (number_at 2 file 6) (columns_at file)

-- Each of a list of legal columns is legal.
legal_at : {n : ℕ} {cs : List Column} → LegalColumns n cs → (c : ℕ) (d : Column) → c < length cs → LegalColumn n (get_or cs c d)
legal_at none c d b = absurd (omega arith)
legal_at (one l ls) zero d b = l
legal_at (one l ls) (suc c) d b = legal_at ls c d (omega arith)

module _ {file : List ℕ} (f : File file) {n m : ℕ} (taken : Ok (shape n m) ≡ checked file) where
  -- "12 + 22m bytes", and 4 + n more with multiplicities.
  pub taken_length : length file ≡ columns_at file + 22 * m + 4
  taken_length = let (r, n-is, m-is) = readings f taken in omega (arith, r.end_read.length_is)

  pub taken_taxa : (matrix_of file).taxa ≡ n
  unfolding matrix_of
  taken_taxa = (readings f taken).1

  pub taken_columns : length (matrix_of file).columns ≡ m
  unfolding matrix_of
  taken_columns = length_columns file (number_at 2 file 6) (columns_at file) ∙ (readings f taken).2

  pub taken_legal : Legal (matrix_of file)
  unfolding matrix_of
  taken_legal =
      let r = (readings f taken).0 in
      record {
        some_taxa = r.head_read.some;
        taxa_fit = r.head_read.few;
        multiplicities_legal = r.multiplicities_read.legal;
        columns_fit = omega (arith, length_columns file (number_at 2 file 6) (columns_at file), r.head_read.columns);
        columns_legal = r.columns_read.legal;
      }

  -- So is each of its columns.
  pub taken_column : (c : ℕ) → c < m → LegalColumn (matrix_of file).taxa (column_in file c)
  taken_column c b =
      let d = column_in file c in
      let listed : c < length (matrix_of file).columns = omega (arith, taken_columns) in
      subst (LegalColumn (matrix_of file).taxa) (column_of_lem file c d listed) (legal_at taken_legal.columns_legal c d listed)

  -- Its multiplicities can be read.
  pub taken_multiplied : Multiplied file
  unfolding matrix_of
  taken_multiplied = record { long = omega (arith, before_columns file, taken_length); fit = legal_fit taken_legal }

  -- "An accepted file is the encoding of its content."
  pub taken_is_file : file ≡ file_of (matrix_of file)
  unfolding matrix_of file_of
  taken_is_file =
      let r = (readings f taken).0 in
      let from : List Column = columns_from file (number_at 2 file 6) (columns_at file) in
      rw length_columns
      (head_stands f r.head_read
      ∙ ap (◌++◌ (head_bytes (number_at 2 file 4) (number_at 2 file 6))) (r.multiplicities_read.stand
      ∙ ap (◌++◌ (multiplicity_bytes (multiplicities_in file))) (r.columns_read.stand ∙ ap (◌++◌ (columns_bytes from)) r.end_read.stands)))

-- No two accepted files carry the same matrix.
pub same_matrix_same_file : {file file' : List ℕ} {n m n' m' : ℕ} → File file → File file' → Ok (shape n m) ≡ checked file → Ok (shape n' m') ≡ checked file'
    → matrix_of file ≡ matrix_of file' → file ≡ file'
same_matrix_same_file f f' t t' e = taken_is_file f t ∙ ap file_of e ∙ sym (taken_is_file f' t')
