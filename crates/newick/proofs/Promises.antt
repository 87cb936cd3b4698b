-- What reading source trees promises (document 02, C-11). A text is taken exactly where it spells trees within the limits and both outputs have room
-- (`accepted_exactly`, `ten_exactly`); any other is refused by the first of its faults (`refused_first`, `sixteen_there`). What is left is a matrix file that the
-- check takes (`matrix_taken`), with columns that say of each name what the trees do (`column_means`), and a name list that reads back (`list_taken`).
use mathlib.Core.Path.{◌≡◌, refl, sym, ap, ◌∙◌}
use mathlib.Core.List.{List, [], ◌∷◌, Memᴰ}
use mathlib.Core.Logic.{◌↔◌, ◌≢◌}
use Prim.Native.Nat.{ℕ, ◌+◌, ◌*◌, ◌≤◌, ◌<◌}
use native.Mathlib.Omega.{arith}
use lib.ListN.{length, get_or, get_or-map}
use lib.Seq.{take_at}
use Rattle.std.specs.Prelude.{Result, Ok, Err}
use Rattle.record.specs.Bytes.{over}
use Rattle.record.specs.Refusals as refusals
use Rattle.record.specs.Refusals.{refusal_number}
use Rattle.record.specs.declared.refusal.Refusal.{Refusal}
use Rattle.record.specs.declared.refusal.Reason.TheVariants as reason
use Rattle.grammar.specs.Trees.{Trees}
use Rattle.grammar.specs.Columns.{Bytes, Column, all_columns}
use Rattle.grammar.specs.Limits.{taxa}
use Rattle.grammar.specs.Places.{Fault}
use Rattle.grammar.specs.Faults.{FirstOf}
use Rattle.grammar.specs.Verdict as verdict
use Rattle.grammar.specs.Clerk.{outcome, faults_of}
use Rattle.grammar.proofs.Complete.{unique}
use Rattle.grammar.proofs.Reading.{place_16}
use Rattle.grammar.proofs.Faults.{refused_known}
use Rattle.grammar.proofs.Faults as faults
use Rattle.ledger.proofs.Sets.{in_list}
use Rattle.matrix.specs.Matrix.{Matrix, matrix_of, file_of, column_in}
use Rattle.matrix.specs.Check.{checked}
use Rattle.matrix.proofs.Encoding.{file_taken, file_holds}
use Rattle.matrix.proofs.Taken.{column_of_lem}
use Rattle.matrix.proofs.Writing.{length_file}
use Rattle.matrix.specs.Check.{shape}
use Rattle.names.specs.Names.{list_of, list_length}
use Rattle.names.specs.Check as list
use Rattle.names.proofs.Encoding as encoding
use Rattle.names.proofs.Lists.{length_list}
use Rattle.newick.specs.Read.{matrix_file, name_list, read, output_after, returned, read_numbers, Reads}
use Rattle.newick.specs.Held.{SourceTrees, matrix_of_trees, matrix_room, names_room, Fit, Short, Leaves, Encodes}
use Rattle.newick.proofs.Taken.{Comes, taken, short, faulty, trees_accepted, read_taken, read_short, comes}
use Rattle.newick.proofs.Reasons.{number_there}
use Rattle.newick.proofs.Taken.{matrix_legal, length_columns, names_legal, column_of, encoded}
use Rattle.newick.specs.declared.Derived.{Derived}

abbrev number_of : Result Derived Refusal → ℕ
number_of r = (returned r).number

-- ---- which texts are taken

module _ (text : List ℕ) (room space : ℕ) where
  -- Success, "0": the text spells trees within the limits, and both files have room.
  pub accepted_exactly : ((ts : Trees) × SourceTrees text ts × Fit ts room space) ↔ ((read_numbers text room space).number ≡ 0)
  accepted_exactly = (λ (ts, s, f). rw (read_taken s room space f), λ e. back (comes text room space) e)
    where
      back : {r : Result Derived Refusal} → Comes text room space r → number_of r ≡ 0 → (ts : Trees) × SourceTrees text ts × Fit ts room space
      back (taken ts s f) e = (ts, s, f)
      back (short ts s a) e = absurd (omega arith)
      back (faulty number place f) e = let (least, most, inside) = refused_known text f in absurd (omega (arith, e, number_there number least most, least))

  -- 10, "shorter than what goes into it", and after all others: the text spells trees within the limits, and one of the files has no room.
  pub ten_exactly : ((ts : Trees) × SourceTrees text ts × Short ts room space) ↔ ((read_numbers text room space).number ≡ 10)
  ten_exactly = (λ (ts, s, a). rw (read_short s room space a), λ e. back (comes text room space) e)
    where
      back : {r : Result Derived Refusal} → Comes text room space r → number_of r ≡ 10 → (ts : Trees) × SourceTrees text ts × Short ts room space
      back (taken ts s f) e = absurd (omega arith)
      back (short ts s a) e = (ts, s, a)
      back (faulty number place f) e = let (least, most, inside) = refused_known text f in absurd (omega (arith, e, number_there number least most, least))

  refused : {why : Refusal} → Err why ≡ read text room space → refusal_number why.reason ≢ 10
      → outcome text ≡ verdict.refused (refusal_number why.reason) why.place
  refused {why} e other = back (comes text room space) e
    where
      back : {r : Result Derived Refusal} → Comes text room space r → Err why ≡ r → outcome text ≡ verdict.refused (refusal_number why.reason) why.place
      back (taken ts s f) e = let z : ◌≡◌ {A = ℕ} 0 1 = cc in absurd (omega arith)
      back (short ts s a) e = absurd (other (ap number_of e))
      back (faulty number place f) e =
          let (least, most, inside) = refused_known text f in
          rw (ap number_of e ∙ number_there number least most, ap (λ (r : Result Derived Refusal). (returned r).place) e) f

  -- Any other refusal is the first of all that is wrong with the text: one of 16 to 20, in the text or at its end.
  pub refused_first : {why : Refusal} → Err why ≡ read text room space → refusal_number why.reason ≢ 10
      → FirstOf (faults_of text) (record { number = refusal_number why.reason; place = why.place }) × (16 ≤ refusal_number why.reason)
      × (refusal_number why.reason ≤ 20) × (why.place ≤ length text)
  refused_first {why} e other =
      let f = refused e other in
      let (least, most, inside) = refused_known text f in
      (faults.refused_first text f, least, most, inside)

  -- "16 not of this grammar, or no tree, at the first byte that cannot stand there or the file's end".
  pub sixteen_there : {place : ℕ} → Err (refusals.refused reason.Misfit place) ≡ read text room space → Fault text place
  sixteen_there e = place_16 text (refused e (λ f. absurd (omega arith)))

-- ---- what is left

module _ {text matrix names : List ℕ} (l : Leaves text matrix names) where
  -- It is left of source trees.
  pub leaves_trees : (ts : Trees) × SourceTrees text ts
  leaves_trees =
      let (ts, s, f) = (accepted_exactly text (length l.matrix_output) (length l.names_output)).1 (ap number_of (sym l.reads.answers) ∙ l.success) in
      (ts, s)

  module _ {ts : Trees} (s : SourceTrees text ts) where
    took : l.r ≡ Ok (record { matrix = matrix_room ts; names = names_room ts })
    took = go (comes text (length l.matrix_output) (length l.names_output)) l.reads.answers
      where
        go : {r : Result Derived Refusal} → Comes text (length l.matrix_output) (length l.names_output) r → l.r ≡ r → l.r ≡ Ok (record { matrix = matrix_room ts; names = names_room ts })
        go (taken us t f) e = e ∙ ap (λ (us : Trees). Ok (record { matrix = matrix_room us; names = names_room us })) (unique t.spelt s.spelt)
        go (short us t a) e = absurd (omega (arith, ap number_of e, l.success))
        go (faulty number place f) e =
            let (least, most, inside) = refused_known text f in
            absurd (omega (arith, ap number_of e, l.success, number_there number least most, least))

    -- "Out come a matrix file and a name list": the files of the trees' matrix and of their taxa.
    pub leaves_files : (matrix ≡ file_of (matrix_of_trees ts)) × (names ≡ list_of (taxa ts))
    unfolding output_after over
    leaves_files = (
      l.matrix_bytes ∙ rw (l.reads.matrix_output, took, trees_accepted s) (take_at (file_of (matrix_of_trees ts)) _ (matrix_room ts) refl),
      l.names_bytes ∙ rw (l.reads.names_output, took, trees_accepted s) (take_at (list_of (taxa ts)) _ (names_room ts) refl),
    )

    -- The check takes the matrix: its taxa are the names, its columns the trees' columns, of weight 1.
    pub matrix_taken : (Ok (shape (length (taxa ts)) (length (all_columns ts))) ≡ checked matrix) × (matrix_of matrix ≡ matrix_of_trees ts)
    matrix_taken =
        let m = matrix_legal s in
        let e = leaves_files.0 in
        (rw (e, ← length_columns s) (file_taken m), ap matrix_of e ∙ file_holds m)

    -- The check takes the name list: it reads back to the names, "numbered by first appearance".
    pub list_taken : (Ok (length (taxa ts)) ≡ list.checked names) × (list.names_in names ≡ taxa ts)
    list_taken =
        let n = names_legal s in
        let e = leaves_files.1 in
        (rw e (encoding.list_checked n), rw (e, ← encoding.list_taken n))

    -- What taxon i has in column j, by its name in the list and by the vertex that gave the column.
    pub column_means : (j i : ℕ) → j < length (all_columns ts) → i < length (taxa ts) → (d : Column)
        → Encodes i (get_or (list.names_in names) i []) (column_in matrix j) (get_or (all_columns ts) j d)
    column_means j i l h d =
        let c = get_or (all_columns ts) j d in
        let (t, e) = matrix_taken in
        let listed : j < length (matrix_of matrix).columns = omega (arith, ap (λ (M : Matrix). length M.columns) e, length_columns s) in
        let column : column_in matrix j ≡ column_of (taxa ts) c = sym (column_of_lem matrix j (column_of (taxa ts) d) listed)
        ∙ ap (λ (M : Matrix). get_or M.columns j (column_of (taxa ts) d)) e ∙ get_or-map (column_of (taxa ts)) (all_columns ts) j d in
        rw (column, list_taken.1) (encoded s c (in_list (all_columns ts) j d l) i h)

-- ---- room

-- What goes into the outputs: "12 + 22m bytes" (document 01), and of a name list 4 for its end and 4 more than its bytes for each name.
pub room_needed : {text : List ℕ} {ts : Trees} → SourceTrees text ts
    → (matrix_room ts ≡ 12 + 22 * length (all_columns ts)) × (matrix_room ts ≤ 5644) × (names_room ts ≡ list_length (taxa ts)) × (names_room ts ≤ 2308)
unfolding list_length
room_needed {ts = ts} s =
    let m = length_file (length (taxa ts)) (matrix_of_trees ts).columns in
    let n = length_list (taxa ts) in
    let few = s.within.few in
    let c = length_columns s in
    (omega (arith, m, c), omega (arith, m, c, s.within.columns), n, omega (arith, n, few, most (taxa ts) (λ n i. ((names_legal s).names n i).short)))
  where
    most : (ns : List Bytes) → ((n : Bytes) → Memᴰ n ns → length n ≤ 32) → list_length ns ≤ 4 + 36 * length ns
    most [] h = omega arith
    most (n ∷ ns) h = omega (arith, h n (Memᴰ.head refl), most ns (λ m i. h m (Memᴰ.tail i)))

-- ---- one text, one answer

-- Two readings that the contract allows, with the same outputs lent, coincide.
pub one_reading : {text matrix names : List ℕ} {r r' : Result Derived Refusal} {matrix' names' matrix'' names'' : List ℕ} → Reads text matrix names r matrix' names'
    → Reads text matrix names r' matrix'' names'' → (r ≡ r') × (matrix' ≡ matrix'') × (names' ≡ names'')
one_reading {text} {matrix} {names} x y =
    let same = x.answers ∙ sym y.answers in (
      same,
      x.matrix_output ∙ ap (λ (r : Result Derived Refusal). output_after (matrix_file (outcome text)) r matrix) same ∙ sym y.matrix_output,
      x.names_output ∙ ap (λ (r : Result Derived Refusal). output_after (name_list (outcome text)) r names) same ∙ sym y.names_output,
    )

-- Whatever the outputs are, reading leaves the same bytes of a text.
pub one_text : {text matrix names matrix' names' : List ℕ} → Leaves text matrix names → Leaves text matrix' names' → (matrix ≡ matrix') × (names ≡ names')
one_text l k =
    let (ts, s) = leaves_trees l in
    let (m, n) = leaves_files l s in
    let (m', n') = leaves_files k s in
    (m ∙ sym m', n ∙ sym n')

-- ---- the numbers that are returned (document 01)

-- "success returns 0", and only success does.
pub reading_trees_succeeds : {text matrix names : List ℕ} {r : Result Derived Refusal} {matrix' names' : List ℕ} → Reads text matrix names r matrix' names'
    → ((returned r).number ≡ 0) ↔ ((a : ℕ) × (b : ℕ) × (r ≡ Ok (record { matrix = a; names = b })))
reading_trees_succeeds {text} {matrix} {names} {r} x = (λ e. go (comes text (length matrix) (length names)) x.answers e, λ (a, b, e). ap number_of e)
  where
    go : {q : Result Derived Refusal} → Comes text (length matrix) (length names) q → r ≡ q → number_of r ≡ 0 → (a : ℕ) × (b : ℕ) × (r ≡ Ok (record { matrix = a; names = b }))
    go (taken ts s f) e z = (matrix_room ts, names_room ts, e)
    go (short ts s a) e z = absurd (omega (arith, ap number_of e))
    go (faulty number place f) e z =
        let (least, most, inside) = refused_known text f in
        absurd (omega (arith, ap number_of e, number_there number least most, least))

-- "A refusal returns its number and place, 0 for every other number, and changes no lent memory."
pub refused_reading_trees : {text matrix names : List ℕ} {r : Result Derived Refusal} {matrix' names' : List ℕ} → Reads text matrix names r matrix' names'
    → (returned r).number ≢ 0 → ((returned r).matrix ≡ 0) × ((returned r).names ≡ 0) × (matrix' ≡ matrix) × (names' ≡ names)
unfolding output_after
refused_reading_trees {r = Ok it} x some = absurd (some refl)
refused_reading_trees {r = Err why} x some = (refl, refl, x.matrix_output, x.names_output)
