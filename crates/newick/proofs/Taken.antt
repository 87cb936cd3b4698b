-- What reading comes to (`comes`). Of the trees that it takes, the matrix is legal (`matrix_legal`), so are the names (`names_legal`), and each column says of
-- each name what its tree does (`encoded`).
use mathlib.Core.Path.{◌≡◌, refl}
use mathlib.Core.Bool.{Bool, true, false, ◌||◌, cond}
use mathlib.Core.Logic.{inl, inr}
use mathlib.Core.List.{List, [], ◌∷◌, Memᴰ}
use Prim.Native.Nat.{ℕ, ◌<◌}
use native.Mathlib.Decide.{dec_lt}
use native.Mathlib.Omega.{arith}
use lib.Dec.{ltb, lit<}
use lib.ListN.{length, get_or, length-map}
use borrow.Author.Tests.{le-ltb, lt-ltb}
use Rattle.std.specs.Prelude.{Result, Ok, Err}
use Rattle.taxa.specs.Sets.{◌∈◌, ◌∉◌}
use Rattle.taxa.proofs.Members.{in∖}
use Rattle.record.specs.Refusals as refusals
use Rattle.record.specs.declared.refusal.Refusal.{Refusal}
use Rattle.record.specs.declared.refusal.Reason.TheVariants as reason
use Rattle.grammar.specs.Trees.{Trees}
use Rattle.grammar.specs.Columns.{Bytes, Column, all_columns}
use Rattle.grammar.specs.Limits.{taxa}
use Rattle.grammar.specs.Verdict.{Verdict, accepted, refused}
use Rattle.grammar.specs.Clerk.{Tally, outcome}
use Rattle.grammar.proofs.Tallies.{between}
use Rattle.grammar.proofs.Reading.{reads, reads_only}
use Rattle.ledger.specs.Sets.{set_of, ones_of, zeros_of}
use Rattle.ledger.proofs.Sets.{named_in}
use Rattle.ledger.proofs.Accepted.{LegalSets, LegalTally, accepted_legal}
use Rattle.matrix.specs.Matrix as matrix
use Rattle.matrix.specs.declared.Column as matrix-column
use Rattle.matrix.specs.Matrix.{absent, LegalColumns, none, one}
use Rattle.names.specs.Names as names
use Rattle.newick.specs.Read.{matrix_for, reason_of, answered, read}
use Rattle.newick.specs.Held.{SourceTrees, matrix_of_trees, matrix_room, names_room, Fit, Short, Encodes}
use Rattle.newick.specs.declared.Derived.{Derived}

-- ---- what reading comes to

pub data Comes (text : List ℕ) (room space : ℕ) : Result Derived Refusal → Type 0 where
  taken : (ts : Trees) → SourceTrees text ts → Fit ts room space → Comes text room space (Ok (record { matrix = matrix_room ts; names = names_room ts }))
  short : (ts : Trees) → SourceTrees text ts → Short ts room space → Comes text room space (Err (refusals.refused reason.Room 0))
  faulty : (number place : ℕ) → outcome text ≡ refused number place → Comes text room space (Err (refusals.refused (reason_of number) place))

module _ {text : List ℕ} {ts : Trees} (s : SourceTrees text ts) where
  pub trees_accepted : outcome text ≡ accepted ts (between (taxa ts) (all_columns ts))
  trees_accepted = reads text ts s.spelt s.within

  pub read_taken : (room space : ℕ) → Fit ts room space → read text room space ≡ Ok (record { matrix = matrix_room ts; names = names_room ts })
  unfolding read answered
  read_taken room space (a, b) = rw (trees_accepted, le-ltb room (matrix_room ts) a, le-ltb space (names_room ts) b)

  pub read_short : (room space : ℕ) → Short ts room space → read text room space ≡ Err (refusals.refused reason.Room 0)
  unfolding read answered
  read_short room space (inl a) = rw (trees_accepted, lt-ltb room (matrix_room ts) a)
  read_short room space (inr b) = rw (trees_accepted, lt-ltb space (names_room ts) b) (either (ltb room (matrix_room ts)))
    where
      either : (c : Bool) → cond {A = Result Derived Refusal} (c || true) (Err (refusals.refused reason.Room 0)) (Ok (record { matrix = matrix_room ts; names = names_room ts })) ≡ Err (refusals.refused reason.Room 0)
      either true = refl
      either false = refl

read_faulty : (text : List ℕ) {number place : ℕ} (room space : ℕ) → outcome text ≡ refused number place
    → read text room space ≡ Err (refusals.refused (reason_of number) place)
unfolding read answered
read_faulty text room space e = rw e

pub comes : (text : List ℕ) (room space : ℕ) → Comes text room space (read text room space)
comes text room space = go (outcome text) refl
  where
    fit : {ts : Trees} → SourceTrees text ts → Dec (room < matrix_room ts) → Dec (space < names_room ts) → Comes text room space (read text room space)
    fit {ts} s (yes a) d = rw (read_short s room space (inl a)) (short ts s (inl a))
    fit {ts} s (no a) (yes b) = rw (read_short s room space (inr b)) (short ts s (inr b))
    fit {ts} s (no a) (no b) = let f : Fit ts room space = (omega arith, omega arith) in rw (read_taken s room space f) (taken ts s f)

    go : (v : Verdict Tally) → outcome text ≡ v → Comes text room space (read text room space)
    go (accepted ts x) e =
        let (spelt, within, t, c) = reads_only text ts e in
        fit (record { spelt = spelt; within = within }) (dec_lt room (matrix_room ts)) (dec_lt space (names_room ts))
    go (refused number place) e = rw (read_faulty text room space e) (faulty number place e)

-- ---- what is written is legal

module _ {text : List ℕ} {ts : Trees} (s : SourceTrees text ts) where
  legal : LegalTally (between (taxa ts) (all_columns ts))
  legal = accepted_legal text (trees_accepted s)

  columns_legal : (cs : List Column) → ((c : Column) → Memᴰ c cs → LegalSets (taxa ts) c)
      → LegalColumns (length (taxa ts)) (matrix_for (taxa ts) cs).columns
  columns_legal [] h = none
  columns_legal (c ∷ cs) h =
      let l = h c (mathlib.Core.List.Memᴰ.head refl) in
      one (record { weighs = lit< tt; weight_fits = lit< tt; ones_known = l.ones_known; zeros_known = l.zeros_known; apart = l.apart })
      (columns_legal cs (λ d m. h d (mathlib.Core.List.Memᴰ.tail m)))

  pub length_columns : length (matrix_of_trees ts).columns ≡ length (all_columns ts)
  length_columns = simp length-map

  pub matrix_legal : matrix.Legal (matrix_of_trees ts)
  matrix_legal = record {
    some_taxa = legal.some_taxa;
    taxa_fit = legal.taxa_fit;
    multiplicities_legal = absent;
    columns_fit = omega (arith, length_columns, legal.columns_fit);
    columns_legal = columns_legal (all_columns ts) legal.columns;
  }

  pub names_legal : names.Legal (taxa ts)
  names_legal = record { names = λ n m. record { spelt = legal.named n m; short = legal.short n m }; distinct = legal.differ }

-- ---- what a column says

-- The matrix's column of a column of names.
abbrev pub column_of : List Bytes → Column → matrix-column.Column
column_of taxa c = record { weight = 1; ones = ones_of taxa c; zeros = zeros_of taxa c }

pub encoded : {text : List ℕ} {ts : Trees} → SourceTrees text ts → (c : Column) → Memᴰ c (all_columns ts) → (i : ℕ) → i < length (taxa ts)
    → Encodes i (get_or (taxa ts) i []) (column_of (taxa ts) c) c
encoded {ts = ts} s c m i l =
    let names = taxa ts in
    let (known, among) = (legal s).trees c m in
    let under = named_in (legal s).differ (λ n k. known n (among n k)) i l in
    let of_Tree = named_in (legal s).differ known i l in
    let zero = in∖ (set_of names c.tree) (ones_of names c) {i = i} in
    let is_zero : Memᴰ (get_or names i []) c.tree → i ∉ ones_of names c → i ∈ zeros_of names c = λ t n. zero.1 (of_Tree.1 t, n) in
    record {
      one = under;
      zero = (λ z. let (t, n) = zero.0 z in (of_Tree.0 t, λ o. n (under.1 o)), λ (t, n). is_zero t (λ o. n (under.0 o)));
      unknown = (λ (n, k) t. k (is_zero t n), λ n. (λ o. n (among (get_or names i []) (under.0 o)), λ z. n (of_Tree.0 (zero.0 z).0)));
    }
