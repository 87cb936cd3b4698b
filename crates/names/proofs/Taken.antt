-- A file that the check takes is the file of the names in it (`taken_is_file`), and those are legal (`taken_legal`), as many as the check says (`taken_count`):
-- so two files that are taken with the same names are the same bytes (`same_names_same_file`). Each name stands in its record (`taken_name`).
use mathlib.Core.Path.{◌≡◌, refl, sym, ap, ◌∙◌}
use mathlib.Core.Bool.{Bool, true, false, cond}
use mathlib.Core.List.Memᴰ
use mathlib.Core.List.{List, [], ◌∷◌, ◌++◌, append_assoc, append-nil, Memᴰ}
use Prim.Native.Nat.{ℕ, zero, suc, ◌+◌, ◌≤◌, ◌<◌}
use native.Mathlib.Omega.{arith}
use lib.ListN.{length, get_or, take, drop, drop_of_length-le, take-append-drop}
use lib.Seq.{drop-drop}
use Rattle.std.specs.Prelude.{Ok, Err}
use Rattle.grammar.specs.Columns.{Bytes}
use Rattle.grammar.specs.Limits.{Distinct, end}
use Rattle.grammar.specs.Limits as limits
use Rattle.record.specs.Bytes.{number_at, File}
use Rattle.record.specs.Records as records
use Rattle.record.specs.Records.{finds, left, Passed}
use Rattle.record.specs.declared.Cursor.{Cursor}
use Rattle.record.proofs.Steps.{record_bytes_lem}
use Rattle.names.specs.Names.{LegalName, Legal, name_bytes, end_bytes, list_of, name_at}
use Rattle.names.specs.inner.Places.{after, place_from}
use Rattle.names.specs.Check.{Listing, names, refusal, name_passed, end_passed, ended, goes_on, listed_in, listed, names_of, names_in, counted, checked}
use Rattle.names.proofs.Spelling.{spelt_name}
use Rattle.names.proofs.Lists.{list_none, list_first}
use Rattle.names.proofs.Passing.{Passing, passing, length_name, Ending, ending}

-- ---- the records that were passed

-- The records from a place on, after the names `before`, hold these names.
data Reading (file : List ℕ) : List Bytes → ℕ → List Bytes → Type 0 where
  done : {before : List Bytes} {at : ℕ} → Ending file at → Reading file before at []
  name : {before ms : List Bytes} {at : ℕ} (next : Cursor) → Passing file before at next → Reading file (before ++ name_at file at ∷ []) (after file at) ms
      → Reading file before at (name_at file at ∷ ms)

never : {ns : List Bytes} {why : _} → names ns ≡ refusal why → ⊥
never e = let z : ◌≡◌ {A = ℕ} 0 1 = cc in omega arith

through_name : {ns : List Bytes} (p : Passed) {go : Cursor → Listing} → names ns ≡ goes_on p go → (c : Cursor) × (Ok c ≡ p) × (names ns ≡ go c)
through_name (Ok c) e = (c, refl, e)
through_name (Err why) e = absurd (never e)

through_end : {ns before : List Bytes} (p : Passed) → names ns ≡ ended before p → (c : Cursor) × (Ok c ≡ p) × (ns ≡ before)
through_end (Ok c) e = (c, refl, cc)
through_end (Err why) e = absurd (never e)

module _ (file : List ℕ) where
  -- What follows the names `before`.
  abbrev Rest : List Bytes → List Bytes → ℕ → Type 0
  Rest ns before at = (ms : List Bytes) × (ns ≡ before ++ ms) × Reading file before at ms

  -- A name before them.
  named : {ns before : List Bytes} (here c : Cursor) → Ok c ≡ name_passed file before here → Rest ns (before ++ name_at file here.at ∷ []) c.at
      → Rest ns before here.at
  named {before = before} here c p (ms, e, r) =
      let it = passing file before here p in
      (name_at file here.at ∷ ms, e ∙ append_assoc before (name_at file here.at ∷ []) ms, name c it (rw it.stands.moves at r))

  by_record : {ns before : List Bytes} (here : Cursor) (b : Bool) (go : Cursor → Listing)
      → names ns ≡ cond b (goes_on (name_passed file before here) go) (ended before (end_passed file here))
      → ((c : Cursor) → names ns ≡ go c → Rest ns (before ++ name_at file here.at ∷ []) c.at) → Rest ns before here.at
  by_record {before = before} here true go e rest =
      let (c, p, e') = through_name (name_passed file before here) e in
      named here c p (rest c e')
  by_record {before = before} here false go e rest =
      let (c, p, e') = through_end (end_passed file here) e in
      ([], e' ∙ sym (append-nil before), done (ending file here p))

  reading : (t : ℕ) (before : List Bytes) (here : Cursor) {ns : List Bytes} → names ns ≡ listed_in t file before here → Rest ns before here.at
  unfolding listed_in
  reading zero before here e = absurd (never e)
  reading (suc t) before here e =
      let with_it = before ++ name_at file here.at ∷ [] in
      by_record here (finds file here.at records.name) (listed_in t file with_it) e (λ c e'. reading t with_it c e')

-- ---- what they say of the file

-- A name, 1 to 32 long, stands in the record at a place.
pub record There (file : List ℕ) (at : ℕ) (n : Bytes) : Type 0 where
  pub is : name_at file at ≡ n
  pub whole : after file at ≤ length file
  pub some : 1 ≤ number_at 2 file at
  pub short : number_at 2 file at ≤ 32

module _ {file : List ℕ} where
  -- They stand there.
  record-stands : File file → {before : List Bytes} {at : ℕ} (next : Cursor) → Passing file before at next
      → drop at file ≡ name_bytes (name_at file at) ++ drop (after file at) file
  unfolding name_at
  record-stands f {at = at} next p =
      let l = number_at 2 file at in
      let rest = drop (at + 4) file in
      let split : rest ≡ take l rest ++ drop (after file at) file = sym (take-append-drop l rest) ∙ ap (◌++◌ (take l rest)) (drop-drop l (at + 4) file) in
      rw (length_name file at (omega (arith, p.stands))) (record_bytes_lem _ _ f p.stands split)

  stands : File file → {before ms : List Bytes} {at : ℕ} → Reading file before at ms → drop at file ≡ list_of ms
  stands f (done {at = at} e) = record_bytes_lem [] [] f e.stands (drop_of_length-le file {i = at + 4} e.last) ∙ append-nil end_bytes ∙ sym list_none
  stands f (name {ms = ms} {at} next p r) =
      let n = name_at file at in
      record-stands f next p ∙ ap (◌++◌ (name_bytes n)) (stands f r) ∙ sym (list_first n ms)

  -- They are legal.
  legal_name : {before : List Bytes} {at : ℕ} (next : Cursor) → Passing file before at next → LegalName (name_at file at)
  legal_name {at = at} next p =
      let l = length_name file at (omega (arith, p.stands)) in
      record { spelt = spelt_name (name_at file at) p.letters (omega (arith, p.some)); short = omega (arith, p.short) }

  legal_names : {before ms : List Bytes} {at : ℕ} → Reading file before at ms → (n : Bytes) → Memᴰ n ms → LegalName n
  legal_names (done e) n m = absurd (Memᴰ.not-nil m)
  legal_names (name next p r) n (Memᴰ.head e) = rw e (legal_name next p)
  legal_names (name next p r) n (Memᴰ.tail m) = legal_names r n m

  distinct : {before ms : List Bytes} {at : ℕ} → Reading file before at ms → Distinct before ms
  distinct (done e) = end
  distinct (name next p r) = limits.next p.new (distinct r)

  -- Name number i of them stands in the record after i of them.
  there : {before ms : List Bytes} {at : ℕ} → Reading file before at ms → (i : ℕ) → i < length ms → There file (place_from file i at) (get_or ms i [])
  unfolding place_from
  there (done e) i h = absurd (omega arith)
  there (name next p r) zero h = record { is = refl; whole = omega (arith, p.stands); some = p.some; short = p.short }
  there (name next p r) (suc i) h = there r i (omega arith)

-- ---- the whole file

module _ (file : List ℕ) {ns : List Bytes} (taken : names ns ≡ listed file) where
  whole : Reading file [] 0 ns
  unfolding listed
  whole = let (ms, e, r) = reading file (left file 0) [] (record { at = 0 }) taken in rw e r

  pub taken_legal : Legal ns
  taken_legal = record { names = legal_names whole; distinct = distinct whole }

  -- "An accepted file is the encoding of its content."
  pub taken_is_file : File file → file ≡ list_of ns
  taken_is_file f = stands f whole

  pub taken_name : (i : ℕ) → i < length ns → There file (place_from file i 0) (get_or ns i [])
  taken_name = there whole

-- No two accepted files carry the same names.
pub same_names_same_file : {file file' : List ℕ} {ns : List Bytes} → File file → File file' → names ns ≡ listed file → names ns ≡ listed file' → file ≡ file'
same_names_same_file {file} {file'} f f' t t' = taken_is_file file t f ∙ sym (taken_is_file file' t' f')

-- ---- the answer of the check

counted_is : {k : ℕ} (l : Listing) → Ok k ≡ counted l → (names (names_of l) ≡ l) × (length (names_of l) ≡ k)
counted_is (names ns) e = (refl, cc)
counted_is (refusal why) e = absurd (let z : ◌≡◌ {A = ℕ} 0 1 = cc in omega arith)

-- Where it takes a file, that has these names, as many as it says.
pub taken_count : (file : List ℕ) {k : ℕ} → Ok k ≡ checked file → (names (names_in file) ≡ listed file) × (length (names_in file) ≡ k)
unfolding checked
taken_count file e = counted_is (listed file) e

some_named : (l : Listing) {i : ℕ} → i < length (names_of l) → names (names_of l) ≡ l
some_named (names ns) h = refl
some_named (refusal why) h = absurd (omega arith)

-- Where a file has a name of some number, it is taken.
pub named_taken : (file : List ℕ) {i : ℕ} → i < length (names_in file) → names (names_in file) ≡ listed file
named_taken file h = some_named (listed file) h
