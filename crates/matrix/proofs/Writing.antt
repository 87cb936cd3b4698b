-- The file of a matrix as it is written: its records (`head_flat`, `column_flat`), columns of weight 1 one after the other (`first_next`), the whole
-- (`file_flat`), and how long it is (`length_file`).
use mathlib.Core.Path.{◌≡◌, refl, sym, ap, ◌∙◌}
use mathlib.Core.List.{List, [], ◌∷◌, ◌++◌, map, append_assoc, append-nil}
use Prim.Native.Nat.{ℕ, zero, suc, ◌+◌, ◌*◌, ◌≤◌, ◌<◌}
use native.Mathlib.Numerals.{add-one}
use native.Mathlib.Omega.{arith}
use lib.ListN.{length, get_or, take, length-append}
use lib.Seq.{length-take-le}
use Rattle.record.specs.Bytes.{bytes_of}
use Rattle.record.specs.Records as records
use Rattle.record.specs.Records.{record_of, opening_of, record_bytes}
use Rattle.record.proofs.Numbers.{length_bytes}
use Rattle.record.proofs.Files.{length_record}
use Rattle.matrix.specs.declared.Column.{Column}
use Rattle.matrix.specs.Matrix.{Matrix, head_bytes, column_bytes, columns_bytes, end_bytes, multiplicity_bytes, file_of, weighing_one}

-- ---- records

pub head_flat : (n m : ℕ) → head_bytes n m ≡ opening_of (record_of records.matrix_head) ++ bytes_of 2 n ++ bytes_of 2 m
unfolding record_bytes
head_flat n m = simp append_assoc

pub column_flat : (c : Column) → column_bytes c ≡ opening_of (record_of records.column) ++ bytes_of 2 c.weight ++ bytes_of 8 c.ones ++ bytes_of 8 c.zeros
unfolding record_bytes
column_flat c = simp append_assoc

pub length_head : (n m : ℕ) → length (head_bytes n m) ≡ 8
length_head n m = simp (length_record, length-append, length_bytes)

length_column : (c : Column) → length (column_bytes c) ≡ 22
length_column c = simp (length_record, length-append, length_bytes)

length_columns : (cs : List Column) → length (columns_bytes cs) ≡ 22 * length cs
unfolding columns_bytes
length_columns [] = refl
length_columns (c ∷ cs) = length-append (column_bytes c) (columns_bytes cs) ∙ omega (arith, length_column c, length_columns cs)

columns_next : (cs : List Column) (c : Column) → columns_bytes (cs ++ c ∷ []) ≡ columns_bytes cs ++ column_bytes c
unfolding columns_bytes
columns_next [] c = append-nil (column_bytes c)
columns_next (d ∷ cs) c = ap (◌++◌ (column_bytes d)) (columns_next cs c) ∙ sym (append_assoc (column_bytes d) (columns_bytes cs) (column_bytes c))

-- ---- columns of weight 1

-- A column of weight 1.
abbrev pub weight_one : ℕ → ℕ → Column
weight_one ones zeros = record { weight = 1; ones = ones; zeros = zeros }

pub length_weighing : (ones zeros : List ℕ) → length ones ≡ length zeros → length (weighing_one ones zeros) ≡ length ones
unfolding weighing_one
length_weighing [] zeros e = refl
length_weighing (o ∷ ones) [] e = absurd (omega arith)
length_weighing (o ∷ ones) (z ∷ zeros) e = ap suc (length_weighing ones zeros (omega arith))

pub weighing_map : {A : Type 0} (f g : A → ℕ) (cs : List A) → weighing_one (map f cs) (map g cs) ≡ map (λ c. weight_one (f c) (g c)) cs
unfolding weighing_one
weighing_map f g [] = refl
weighing_map f g (c ∷ cs) = ap (◌∷◌ (weight_one (f c) (g c))) (weighing_map f g cs)

weighing_next : (ones zeros : List ℕ) (i : ℕ) → i < length ones → i < length zeros
    → weighing_one (take (suc i) ones) (take (suc i) zeros) ≡ weighing_one (take i ones) (take i zeros) ++ weight_one (get_or ones i 0) (get_or zeros i 0) ∷ []
unfolding weighing_one
weighing_next [] zeros i l h = absurd (omega arith)
weighing_next (o ∷ ones) [] i l h = absurd (omega arith)
weighing_next (o ∷ ones) (z ∷ zeros) zero l h = refl
weighing_next (o ∷ ones) (z ∷ zeros) (suc i) l h = ap (◌∷◌ (weight_one o z)) (weighing_next ones zeros i (omega arith) (omega arith))

-- The first columns of two lists, as they are written one after the other.
module _ (ones zeros : List ℕ) where
  abbrev pub first_columns : ℕ → List Column
  first_columns i = weighing_one (take i ones) (take i zeros)

  module _ (i : ℕ) where
    pub length_first : i ≤ length ones → i ≤ length zeros → length (first_columns i) ≡ i
    length_first l h =
        let n = length-take-le i ones l in
        length_weighing (take i ones) (take i zeros) (n ∙ sym (length-take-le i zeros h)) ∙ n

    pub length_first_bytes : i ≤ length ones → i ≤ length zeros → length (columns_bytes (first_columns i)) ≡ 22 * i
    length_first_bytes l h = length_columns (first_columns i) ∙ rw (length_first l h)

    pub first_next : i < length ones → i < length zeros
        → columns_bytes (first_columns (i + 1)) ≡ columns_bytes (first_columns i) ++ column_bytes (weight_one (get_or ones i 0) (get_or zeros i 0))
    first_next l h = rw (add-one i) (ap columns_bytes (weighing_next ones zeros i l h) ∙ columns_next (first_columns i) _)

-- ---- the file

module _ (n : ℕ) (cs : List Column) where
  -- A matrix with no multiplicities.
  abbrev pub unmerged : Matrix
  unmerged = record { taxa = n; multiplicities = []; columns = cs }

  pub file_flat : file_of unmerged ≡ head_bytes n (length cs) ++ columns_bytes cs ++ end_bytes
  unfolding file_of multiplicity_bytes
  file_flat = simp append_assoc

  pub length_file : length (file_of unmerged) ≡ 12 + 22 * length cs
  length_file = rw file_flat (simp (length-append, length_record, length_bytes, length_columns) (omega arith))
