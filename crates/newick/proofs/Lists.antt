-- The name list of the names in a text, as it is written: a name (`name_flat`), name after name (`names_next`) and the end (`list_flat`); and how long it is
-- (`length_next`, `room`).
use mathlib.Core.Path.{◌≡◌, ap, ◌∙◌}
use mathlib.Core.List.{List, [], ◌∷◌, ◌++◌, append-nil}
use mathlib.Core.Logic.{⊎_elim}
use Prim.Native.Nat.{ℕ, zero, suc, ◌+◌, ◌-◌, ◌≤◌, ◌<◌}
use native.Mathlib.Nat.{eq-or-lt_of_le}
use native.Mathlib.Numerals.{add-one}
use native.Mathlib.Omega.{arith}
use lib.ListN.{length, get_or, length-append}
use Rattle.record.specs.Records as records
use Rattle.record.specs.Records.{record_of, opening_of, record_bytes}
use Rattle.record.proofs.Files.{length_opening, opening_only}
use Rattle.grammar.specs.Columns.{Bytes}
use Rattle.grammar.specs.inner.Standing.{piece}
use Rattle.grammar.proofs.Standing.{piece_length}
use Rattle.names.specs.Names.{name_bytes, names_bytes, list_of, list_length}
use Rattle.names.proofs.Lists.{names_append, length_list}
use Rattle.newick.specs.inner.Names.{Placed, names_in}

-- ---- records

-- The record of a name whose size is known.
pub name_flat : (text : List ℕ) (start size : ℕ) → start + size ≤ length text
    → name_bytes (piece text start size) ≡ opening_of (record { kind = records.name; length = size }) ++ piece text start (start + size - start)
unfolding record_bytes
name_flat text start size l =
    let same : start + size - start ≡ size = omega arith in
    rw (same, piece_length text start size l)

pub list_flat : (ns : List Bytes) → list_of ns ≡ names_bytes ns ++ opening_of (record_of records.names_end)
unfolding list_of
list_flat ns = rw opening_only

one_name_more : (ns : List Bytes) (n : Bytes) → list_length (ns ++ n ∷ []) ≡ list_length ns + (4 + length n)
unfolding list_length
one_name_more [] n = omega arith
one_name_more (m ∷ ns) n = omega (arith, one_name_more ns n)

-- The end record takes 4 of the bytes.
pub length_records : (ns : List Bytes) → length (names_bytes ns) + 4 ≡ list_length ns
length_records ns = rw (← length_list ns, list_flat ns) (simp (length-append, length_opening))

-- ---- the names in a text

module _ (text starts sizes : List ℕ) where
  abbrev named : ℕ → Bytes
  named i = piece text (get_or starts i 0) (get_or sizes i 0)

  pub names_next : (i : ℕ) → names_bytes (names_in text starts sizes (i + 1)) ≡ names_bytes (names_in text starts sizes i) ++ name_bytes (named i)
  unfolding names_in names_bytes
  names_next i =
      let before = names_in text starts sizes i in
      rw (add-one i) (names_append before (named i ∷ []) ∙ ap (◌++◌ (names_bytes before)) (append-nil (name_bytes (named i))))

  longer : (i : ℕ) → list_length (names_in text starts sizes (suc i)) ≡ list_length (names_in text starts sizes i) + (4 + length (named i))
  unfolding names_in
  longer i = one_name_more (names_in text starts sizes i) (named i)

  up_to : (i n : ℕ) → i ≤ n → list_length (names_in text starts sizes i) ≤ list_length (names_in text starts sizes n)
  up_to i zero l = let e : i ≡ 0 = omega arith in rw e (omega arith)
  up_to i (suc n) l = ⊎_elim (λ e. rw e (omega arith)) (λ b. omega (arith, up_to i n (omega arith), longer n)) (eq-or-lt_of_le l)

module _ {text starts sizes : List ℕ} {n : ℕ} (p : Placed text starts sizes n) (i : ℕ) (l : i < n) where
  pub length_next : list_length (names_in text starts sizes (i + 1)) ≡ list_length (names_in text starts sizes i) + (4 + get_or sizes i 0)
  length_next = rw (add-one i) (longer text starts sizes i ∙ rw (piece_length text (get_or starts i 0) (get_or sizes i 0) (p.inside i l)))

  pub room : list_length (names_in text starts sizes i) + (4 + get_or sizes i 0) ≤ list_length (names_in text starts sizes n)
  room = omega (arith, length_next, up_to text starts sizes (i + 1) n (omega arith))
