-- From what the reader has found (`found`) to what the operation promises: where the text is refused (`told`), where an output is too short (`short_file`,
-- `short_list`), and where both are written (`both_written`).
use mathlib.Core.Path.{◌≡◌, refl, sym, ap, ◌∙◌}
use mathlib.Core.Bool.{false, ◌||◌, cond}
use mathlib.Core.List.{List, []}
use Prim.Native.Nat.{ℕ, ◌+◌, ◌*◌, ◌≤◌, ◌<◌}
use native.Mathlib.Omega.{arith}
use lib.Dec.{ltb}
use lib.ListN.{length, take}
use lib.Seq.{length-take-le}
use borrow.Author.Tests.{lt-ltb, le-ltb}
use Rattle.std.specs.Prelude.{Result, Ok, Err}
use Rattle.record.specs.Bytes.{over}
use Rattle.record.specs.Refusals as refusals
use Rattle.record.specs.Refusals.{refusal_number}
use Rattle.record.specs.declared.refusal.Refusal.{Refusal}
use Rattle.record.specs.declared.refusal.Reason.TheVariants as reason
use Rattle.grammar.specs.Trees.{Trees}
use Rattle.grammar.specs.Verdict.{accepted, refused}
use Rattle.grammar.specs.Columns.{Bytes}
use Rattle.grammar.specs.Clerk.{outcome}
use Rattle.grammar.proofs.Faults.{refused_known}
use Rattle.ledger.specs.Sets.{ones_of, zeros_of}
use Rattle.ledger.specs.inner.Ledger as ledger
use Rattle.ledger.specs.inner.Ledger.{Ledger}
use Rattle.ledger.proofs.Outcomes.{ledger_accepted, ledger_refused}
use Rattle.matrix.specs.Matrix.{Matrix, file_of, weighing_one}
use Rattle.matrix.proofs.Writing.{weighing_map, length_weighing, length_file}
use Rattle.names.specs.Names.{list_of, list_length}
use Rattle.names.proofs.Lists.{length_list}
use Rattle.newick.specs.declared.Reading.{Reading}
use Rattle.newick.specs.Read.{matrix_file, name_list, answered, read, output_after, returned, Reads}
use Rattle.newick.specs.inner.Names.{names_in}
use Rattle.newick.specs.declared.Book.{Book}
use Rattle.newick.specs.inner.Book.{ledger_in, Holds}
use Rattle.newick.specs.inner.Found.{Found}
use Rattle.newick.proofs.Names.{length_names}
use Rattle.newick.proofs.Reasons.{reason_there}
use Rattle.newick.specs.declared.Derived.{Derived}

-- A text that is accepted.
pub found : {text : List ℕ} {k : Book} {r : Reading} {ts : Trees} → Holds text k r → ledger.outcome text ≡ accepted ts (ledger_in text k r)
    → Found text k r
found {text} {k} {r} {ts} h e =
    let (x, f, same) = ledger_accepted text e in
    record {
      trees = ts;
      tally = x;
      accepted = f;
      placed = h.placed;
      names = ap (λ (l : Ledger). l.taxa) same;
      ones_room = h.bracketed.ones_room;
      zeros_room = h.zeros_room;
      columns_fit = h.bracketed.columns_fit;
      ones_found = ap (λ (l : Ledger). l.ones) same;
      zeros_found = ap (λ (l : Ledger). l.zeros) same;
    }

-- A text that is refused.
pub told : (text matrix names : List ℕ) {why : Refusal} → ledger.outcome text ≡ refused (refusal_number why.reason) why.place
    → Reads text matrix names (Err why) matrix names
unfolding read answered output_after
told text matrix names {why} e =
    let f = ledger_refused text e in
    let (least, most, inside) = refused_known text f in
    let same : Err why ≡ read text (length matrix) (length names) = rw (f, reason_there why.reason least most) in
    record { answers = same; numbers = ap returned same; matrix_output = refl; names_output = refl }

-- An output is "shorter than what goes into it".
abbrev no_room : Result Derived Refusal
no_room = Err (refusals.refused reason.Room 0)

module _ {text : List ℕ} {k : Book} {r : Reading} (g : Found text k r) where
  abbrev names_found : List Bytes
  names_found = names_in text k.starts k.sizes r.taxa

  abbrev matrix_found : Matrix
  matrix_found = record { taxa = r.taxa; multiplicities = []; columns = weighing_one (take r.columns k.ones) (take r.columns k.zeros) }

  taxa_found : length g.tally.taxa ≡ r.taxa
  taxa_found = ap (λ (l : List Bytes). length l) (sym g.names) ∙ length_names text k.starts k.sizes r.taxa

  file_found : matrix_file (outcome text) ≡ file_of matrix_found
  file_found =
      let t = g.tally in
      rw (g.accepted, taxa_found, g.ones_found, g.zeros_found, weighing_map (ones_of t.taxa) (zeros_of t.taxa) t.columns)

  list_found : name_list (outcome text) ≡ list_of names_found
  list_found = rw (g.accepted, g.names)

  file_size : length (matrix_file (outcome text)) ≡ 12 + 22 * r.columns
  file_size =
      let o = length-take-le r.columns k.ones (omega (arith, g.ones_room, g.columns_fit)) in
      let z = length-take-le r.columns k.zeros (omega (arith, g.zeros_room, g.columns_fit)) in
      rw (file_found, length_file r.taxa matrix_found.columns, length_weighing (take r.columns k.ones) (take r.columns k.zeros) (o ∙ sym z), o)

  list_size : length (name_list (outcome text)) ≡ list_length names_found
  list_size = rw (list_found, length_list names_found)

  abbrev lengths_found : Result Derived Refusal
  lengths_found = Ok (record { matrix = 12 + 22 * r.columns; names = list_length names_found })

  module _ (matrix names : List ℕ) where
    read_found : read text (length matrix) (length names)
        ≡ cond (ltb (length matrix) (12 + 22 * r.columns) || ltb (length names) (list_length names_found)) no_room lengths_found
    unfolding read answered
    read_found = rw (← file_size, ← list_size, g.accepted)

    -- An output that is too short.
    too_short : read text (length matrix) (length names) ≡ no_room → Reads text matrix names no_room matrix names
    unfolding output_after
    too_short e = record { answers = sym e; numbers = ap returned (sym e); matrix_output = refl; names_output = refl }

    pub short_file : length matrix < 12 + 22 * r.columns → Reads text matrix names no_room matrix names
    short_file l = too_short (read_found ∙ rw (lt-ltb (length matrix) (12 + 22 * r.columns) l))

    module _ (fits : 12 + 22 * r.columns ≤ length matrix) where
      file_fits : ltb (length matrix) (12 + 22 * r.columns) ≡ false
      file_fits = le-ltb (length matrix) (12 + 22 * r.columns) fits

      pub short_list : length names < list_length names_found → Reads text matrix names no_room matrix names
      short_list l = too_short (read_found ∙ rw (file_fits, lt-ltb (length names) (list_length names_found) l))

      pub both_written : list_length names_found ≤ length names
          → Reads text matrix names lengths_found (over (file_of matrix_found) 0 matrix) (over (list_of names_found) 0 names)
      unfolding output_after
      both_written l =
          let list-fits = le-ltb (length names) (list_length names_found) l in
          let e : read text (length matrix) (length names) ≡ lengths_found = read_found ∙ rw (file_fits, list-fits) in
          record { answers = sym e; numbers = ap returned (sym e); matrix_output = rw file_found; names_output = rw list_found }
