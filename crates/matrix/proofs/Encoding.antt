-- The file of a legal matrix is taken (`file_taken`) and holds that matrix (`file_holds`).
use mathlib.Core.Path.{◌≡◌, refl, sym, ap, ◌∙◌}
use mathlib.Core.Bool.{true, false, and-false}
use mathlib.Core.List.{List, [], ◌∷◌, ◌++◌, append_assoc, append-nil}
use mathlib.Core.Logic.{◌≢◌}
use Prim.Native.Nat.{ℕ, suc, ◌+◌, ◌*◌, ◌≤◌}
use native.Mathlib.Nat.{add-zero, mul-zero}
use native.Mathlib.Omega.{arith}
use lib.Dec.{ltb, lit<}
use lib.ListN.{length, take, drop, length-append, length-drop}
use lib.Seq.{take_at}
use borrow.Author.Tests.{ne_eqb}
use Rattle.std.specs.Prelude.{Ok}
use Rattle.taxa.specs.Sets.{all}
use Rattle.taxa.proofs.Members.{set_fits, within_⊆}
use Rattle.record.specs.Bytes.{number_at, bytes_of}
use Rattle.record.specs.Records as records
use Rattle.record.specs.Records.{record_of, multiplicity_record, record_bytes}
use Rattle.record.specs.declared.Cursor.{Cursor}
use Rattle.record.proofs.Numbers.{length_bytes, past, field_read}
use Rattle.record.proofs.Steps.{held, content_stands, record_taken, none_after}
use Rattle.matrix.specs.declared.Column.{Column}
use Rattle.matrix.specs.Matrix.{Matrix, Merging, LegalMultiplicities, absent, given, Legal, LegalColumn, LegalColumns, none, one, head_bytes, multiplicity_bytes, column_bytes, columns_bytes, end_bytes, file_of, has_multiplicities, multiplicities_in, columns_at, column_at, columns_from, matrix_of}
use Rattle.matrix.specs.Check.{head_passed, multiplicities_passed, column_passed, columns_passed, end_passed, checked, shape}
use Rattle.matrix.proofs.Multiplying.{has_kind, multiplicities_there, columns_there, multiplicities_none, columns_none, given_bytes, merging_taken}
use Rattle.matrix.proofs.Judging.{column_taken, head_taken, all_passed}

abbrev cursor : ℕ → Cursor
cursor at = record { at = at }

module _ {n : ℕ} (few : n ≤ 64) (file : List ℕ) where
  -- A legal column that stands in a file is passed and read.
  module _ {c : Column} (l : LegalColumn n c) (at : ℕ) (rest : List ℕ) (e : drop at file ≡ column_bytes c ++ rest) where
    abbrev payload : List ℕ
    payload = bytes_of 2 c.weight ++ (bytes_of 8 c.ones ++ bytes_of 8 c.zeros)

    fields : (column_at file (at + 4) ≡ c) × (drop (at + 22) file ≡ rest)
    fields =
        let start = simp append_assoc at (content_stands file payload rest at (record_of records.column) e) in
        let (w, e₁) = field_read 2 c.weight file (bytes_of 8 c.ones ++ (bytes_of 8 c.zeros ++ rest)) (at + 4) {after = at + 4 + 2} l.weight_fits start refl in
        let (o, e₂) = field_read 8 c.ones file (bytes_of 8 c.zeros ++ rest) (at + 4 + 2) {after = at + 4 + 10} (set_fits few l.ones_known) e₁ (omega arith) in
        let (z, e₃) = field_read 8 c.zeros file rest (at + 4 + 10) {after = at + 22} (set_fits few l.zeros_known) e₂ (omega arith) in
        (λ i. record { weight = w i; ones = o i; zeros = z i }, e₃)

    column_passed_lem : column_passed file (all n) (cursor at) ≡ Ok (cursor (at + 22))
    unfolding column_passed
    column_passed_lem =
        let step_is = record_taken file payload rest at (record_of records.column) e (lit< tt) (lit< tt) (simp (length-append, length_bytes)) in
        let far : at + 4 + 18 ≡ at + 22 = omega arith in
        rw (← step_is, fields.0, far)
        (sym (column_taken (all n) at c (cursor (at + 22)) (omega (arith, l.weighs)) ((within_⊆ _ _).1 l.ones_known) ((within_⊆ _ _).1 l.zeros_known) l.apart))

  -- So are all of them.
  record Stand (cs : List Column) (at : ℕ) (rest : List ℕ) : Type 0 where
    passed : columns_passed file (all n) (length cs) (cursor at) ≡ Ok (cursor (at + 22 * length cs))
    held : columns_from file (length cs) at ≡ cs
    after : drop (at + 22 * length cs) file ≡ rest

  columns_stand : {cs : List Column} → LegalColumns n cs → (at : ℕ) (rest : List ℕ) → drop at file ≡ columns_bytes cs ++ rest → Stand cs at rest
  unfolding columns_passed columns_from columns_bytes
  columns_stand none at rest e = record { passed = rw (mul-zero, add-zero); held = refl; after = rw (mul-zero, add-zero) e }
  columns_stand (one {c} {cs} l ls) at rest e =
      let e' = e ∙ append_assoc (column_bytes c) (columns_bytes cs) rest in
      let (held, after) = fields l at (columns_bytes cs ++ rest) e' in
      let r = columns_stand ls (at + 22) rest after in
      let far : at + 22 + 22 * length cs ≡ at + 22 * suc (length cs) = omega arith in
      record {
        passed = rw (column_passed_lem l at (columns_bytes cs ++ rest) e', ← far) r.passed;
        held = rw held (ap (◌∷◌ c) r.held);
        after = rw (← far) r.after;
      }

-- What follows the multiplicities is no record of multiplicities.
after_kind : {n : ℕ} (few : n ≤ 64) (file : List ℕ) {cs : List Column} → LegalColumns n cs → (at : ℕ) → drop at file ≡ columns_bytes cs ++ end_bytes
    → number_at 2 file (at + 2) ≢ records.multiplicities
unfolding columns_bytes
after_kind few file none at e k =
    omega (arith, (held (record_taken file [] [] at (record_of records.matrix_end) (e ∙ sym (append-nil end_bytes)) (lit< tt) (lit< tt) refl)).kind)
after_kind few file (one {c} {cs} l ls) at e k =
    let step_is = record_taken file (payload few file l at _ (e ∙ append_assoc (column_bytes c) (columns_bytes cs) end_bytes)) _ at (record_of records.column) (e ∙ append_assoc (column_bytes c) (columns_bytes cs) end_bytes) (lit< tt) (lit< tt) (simp (length-append, length_bytes)) in
    omega (arith, (held step_is).kind)

-- Multiplicities that stand in a file after its head are passed and read; so is their absence.
module _ (file : List ℕ) where
  abbrev n_of : ℕ
  n_of = number_at 2 file 4

  record Stood (ms rest : List ℕ) : Type 0 where
    passed : multiplicities_passed file n_of (cursor 8) ≡ Ok (cursor (columns_at file))
    held : multiplicities_in file ≡ ms
    after : drop (columns_at file) file ≡ rest

  no_record : (rest : List ℕ) → drop 8 file ≡ rest → number_at 2 file 10 ≢ records.multiplicities → Stood [] rest
  unfolding multiplicities_passed has_multiplicities
  no_record rest e k =
      let is : has_multiplicities file ≡ false = rw (ne_eqb _ _ k) (and-false (ltb 11 (length file))) in
      record { passed = rw (is, columns_none file is); held = multiplicities_none file is; after = rw (columns_none file is) e }

  the_record : {ms : List ℕ} (rest : List ℕ) → n_of ≤ 64 → Merging n_of ms → drop 8 file ≡ record_bytes (multiplicity_record n_of) ms ++ rest → Stood ms rest
  unfolding multiplicities_passed
  the_record {ms} rest few l e =
      let step_is = record_taken file ms rest 8 (multiplicity_record n_of) e (omega arith) (lit< tt) l.one_each in
      let h = held step_is in
      let is : has_multiplicities file ≡ true = has_kind file (omega (arith, h.ends)) h.kind in
      let stands = content_stands file ms rest 8 (multiplicity_record n_of) e in
      let taken : take n_of (drop 12 file) ≡ ms = ap (take n_of) stands ∙ take_at ms rest n_of l.one_each in
      record {
        passed = rw (is, ← step_is, taken, columns_there file is) (sym (merging_taken l 8 (cursor (12 + n_of))));
        held = multiplicities_there file is ∙ taken;
        after = rw (columns_there file is, ← l.one_each) (past file ms rest 12 stands);
      }

module _ {M : Matrix} (legal : Legal M) where
  abbrev n : ℕ
  n = M.taxa

  abbrev m : ℕ
  m = length M.columns

  abbrev body : List ℕ
  body = columns_bytes M.columns ++ end_bytes

  abbrev after_head : List ℕ
  after_head = multiplicity_bytes M.multiplicities ++ body

  head_stands : drop 0 (file_of M) ≡ head_bytes n m ++ after_head
  unfolding file_of
  head_stands = refl

  -- The head's numbers, and what is after them.
  numbers : (number_at 2 (file_of M) 4 ≡ n) × (number_at 2 (file_of M) 6 ≡ m) × (drop 8 (file_of M) ≡ after_head)
  numbers =
      let start = simp append_assoc at (content_stands (file_of M) (bytes_of 2 n ++ bytes_of 2 m) after_head 0 (record_of records.matrix_head) head_stands) in
      let (n-is, e) = field_read 2 n (file_of M) (bytes_of 2 m ++ after_head) 4 {after = 6} (omega (arith, legal.taxa_fit)) start refl in
      let (m-is, e') = field_read 2 m (file_of M) after_head 6 {after = 8} (omega (arith, legal.columns_fit)) e refl in
      (n-is, m-is, e')

  head_is_passed : head_passed (file_of M) ≡ Ok (cursor 8)
  unfolding head_passed
  head_is_passed =
      let step_is = record_taken (file_of M) (bytes_of 2 n ++ bytes_of 2 m) after_head 0 (record_of records.matrix_head) head_stands (lit< tt) (lit< tt) (simp (length-append, length_bytes)) in
      rw (← step_is, numbers.0, numbers.1) (sym (head_taken n m (cursor 8) (omega (arith, legal.some_taxa)) legal.taxa_fit legal.columns_fit))

  multiplicities_are : Stood (file_of M) M.multiplicities body
  unfolding multiplicity_bytes
  multiplicities_are = go legal.multiplicities_legal numbers.2
    where
      go : {ms : List ℕ} → LegalMultiplicities n ms → drop 8 (file_of M) ≡ multiplicity_bytes ms ++ body → Stood (file_of M) ms body
      go absent e = no_record (file_of M) body e (after_kind legal.taxa_fit (file_of M) legal.columns_legal 8 e)
      go (given {ms} l) e =
          let n-is = numbers.0 in
          the_record (file_of M) body (rw n-is legal.taxa_fit) (rw n-is l) (rw n-is (e ∙ ap (λ (r : List ℕ). r ++ body) (given_bytes ms l.one_each legal.some_taxa)))

  abbrev start : ℕ
  start = columns_at (file_of M)

  columns_are : Stand legal.taxa_fit (file_of M) M.columns start end_bytes
  columns_are = columns_stand legal.taxa_fit (file_of M) legal.columns_legal start end_bytes multiplicities_are.after

  abbrev end : ℕ
  end = start + 22 * m

  end_stands : drop end (file_of M) ≡ end_bytes ++ []
  end_stands = columns_are.after ∙ sym (append-nil end_bytes)

  end_is_passed : end_passed (file_of M) (cursor end) ≡ Ok (cursor (end + 4))
  unfolding end_passed
  end_is_passed =
      let step_is = record_taken (file_of M) [] [] end (record_of records.matrix_end) end_stands (lit< tt) (lit< tt) refl in
      let nothing_left = sym (length-drop (end + 4) (file_of M)) ∙ ap length (content_stands (file_of M) [] [] end (record_of records.matrix_end) end_stands) in
      rw (← step_is, add-zero (end + 4)) (sym (none_after (file_of M) (cursor (end + 4)) (omega arith)))

  -- "The encoding of any content within the bounds is accepted .."
  pub file_taken : Ok (shape n m) ≡ checked (file_of M)
  file_taken =
      rw (numbers.0, numbers.1) at
      (all_passed (file_of M) head_is_passed multiplicities_are.passed (rw (numbers.0, numbers.1) columns_are.passed) end_is_passed)

  -- ".. and reads back to it."
  pub file_holds : matrix_of (file_of M) ≡ M
  unfolding matrix_of
  file_holds = rw (numbers.0, numbers.1) (λ i. record { taxa = n; multiplicities = multiplicities_are.held i; columns = columns_are.held i })
