-- A matrix, and the file that holds it: "one head, m columns, one end: 12 + 22m bytes" (document 01, "Records"), and 4 + n more where
-- "some rows are a merged set of specimens": a record of multiplicities "directly after the matrix head" (document 02, C-14).
use Rattle.std.specs.Prelude.{◌≡◌, Bool, ◌&&◌, cond, List, [], ◌∷◌, ◌++◌, ℕ, zero, suc, ◌+◌, ◌*◌, ◌<◌, ◌≤◌, ltb, eqb, length, take, drop}
use Rattle.taxa.specs.Sum.{sum}
use Rattle.taxa.specs.Sets.{◌∩◌, ◌⊆◌, multiplicity, all}
use Rattle.record.specs.Bytes.{number_at, bytes_of}
use Rattle.record.specs.Records as records
use Rattle.record.specs.Records.{record_of, multiplicity_record, record_bytes}
use Rattle.matrix.specs.declared.Column.{Column}

-- How many taxa, "one multiplicity per taxon", none "where it's absent", and the columns.
pub record Matrix : Type 0 where
  pub taxa : ℕ
  pub multiplicities : List ℕ
  pub columns : List Column

-- "Refusals: 21 where a multiplicity is 0, the sum is above 127, or all are 1": n multiplicities that are none of this.
pub record Merging (n : ℕ) (ms : List ℕ) : Type 0 where
  pub one_each : length ms ≡ n
  pub positive : (i : ℕ) → i < n → 0 < multiplicity ms i
  pub merged : sum n (multiplicity ms) ≤ 127
  pub several : ((i : ℕ) → i < n → multiplicity ms i ≡ 1) → ⊥

-- They are absent, or legal.
pub data LegalMultiplicities (n : ℕ) : List ℕ → Type 0 where
  absent : LegalMultiplicities n []
  given : {ms : List ℕ} → Merging n ms → LegalMultiplicities n ms

-- "A weight is 1 to 65,535"; no taxon is n or above, none in both 1-set and 0-set.
pub record LegalColumn (n : ℕ) (c : Column) : Type 0 where
  pub weighs : 0 < c.weight
  pub weight_fits : c.weight < 65536
  pub ones_known : c.ones ⊆ all n
  pub zeros_known : c.zeros ⊆ all n
  pub apart : c.ones ∩ c.zeros ≡ 0

-- Each column of a list is legal.
pub data LegalColumns (n : ℕ) : List Column → Type 0 where
  none : LegalColumns n []
  one : {c : Column} {cs : List Column} → LegalColumn n c → LegalColumns n cs → LegalColumns n (c ∷ cs)

-- "n is 1 to 64, m is 0 to 256".
pub record Legal (M : Matrix) : Type 0 where
  pub some_taxa : 0 < M.taxa
  pub taxa_fit : M.taxa ≤ 64
  pub multiplicities_legal : LegalMultiplicities M.taxa M.multiplicities
  pub columns_fit : length M.columns ≤ 256
  pub columns_legal : LegalColumns M.taxa M.columns

-- ---- the file of a matrix

-- "n, m (2 each)".
abbrev pub head_bytes : ℕ → ℕ → List ℕ
head_bytes n m = record_bytes (record_of records.matrix_head) (bytes_of 2 n ++ bytes_of 2 m)

-- "A record of kind 5 holds n bytes, one multiplicity per taxon"; with none it is absent.
unfoldable pub multiplicity_bytes : List ℕ → List ℕ
multiplicity_bytes [] = []
multiplicity_bytes (a ∷ ms) = record_bytes (multiplicity_record (length (a ∷ ms))) (a ∷ ms)

-- "Weight (2), 1-set (8), 0-set (8)".
abbrev pub column_bytes : Column → List ℕ
column_bytes c = record_bytes (record_of records.column) (bytes_of 2 c.weight ++ (bytes_of 8 c.ones ++ bytes_of 8 c.zeros))

-- The records of columns, one after the other.
unfoldable pub columns_bytes : List Column → List ℕ
columns_bytes [] = []
columns_bytes (c ∷ cs) = column_bytes c ++ columns_bytes cs

-- The end record, which has no payload.
abbrev pub end_bytes : List ℕ
end_bytes = record_bytes (record_of records.matrix_end) []

-- "A matrix file is one head, m columns, one end", the multiplicities "directly after the matrix head".
unfoldable pub file_of : Matrix → List ℕ
file_of M =
    head_bytes M.taxa (length M.columns) ++ (multiplicity_bytes M.multiplicities ++ (columns_bytes M.columns ++ end_bytes))

-- The columns with these 1-sets and 0-sets, each of weight 1.
unfoldable pub weighing_one : List ℕ → List ℕ → List Column
weighing_one [] zeros = []
weighing_one (o ∷ ones) [] = []
weighing_one (o ∷ ones) (z ∷ zeros) = record { weight = 1; ones = o; zeros = z } ∷ weighing_one ones zeros

-- ---- the matrix in a file

-- Whether the record after the head, which takes 8 bytes, is there and of kind 5.
unfoldable pub has_multiplicities : List ℕ → Bool
has_multiplicities file = ltb 11 (length file) && eqb (number_at 2 file 10) records.multiplicities

-- How many multiplicities a file holds: n, or none.
unfoldable pub multiplicity_count : List ℕ → ℕ
multiplicity_count file = cond (has_multiplicities file) (number_at 2 file 4) 0

-- They are the bytes from 12 on.
unfoldable pub multiplicities_in : List ℕ → List ℕ
multiplicities_in file = take (multiplicity_count file) (drop 12 file)

-- Where the first column's record starts: after the head's 8 bytes, and the 4 + n of the multiplicities.
unfoldable pub columns_at : List ℕ → ℕ
columns_at file = cond (has_multiplicities file) (12 + number_at 2 file 4) 8

-- The column whose payload starts at a place: "weight (2), 1-set (8), 0-set (8)".
abbrev pub column_at : List ℕ → ℕ → Column
column_at file at = record { weight = number_at 2 file at; ones = number_at 8 file (at + 2); zeros = number_at 8 file (at + 10) }

-- Column c: each column's record takes 22 bytes, 4 of them before its payload.
abbrev pub column_in : List ℕ → ℕ → Column
column_in file c = column_at file (columns_at file + 4 + 22 * c)

-- m columns, of which the first one's record starts at a place.
unfoldable pub columns_from : List ℕ → ℕ → ℕ → List Column
columns_from file zero at = []
columns_from file (suc m) at = column_at file (at + 4) ∷ columns_from file m (at + 22)

-- The matrix in a file: its n, its multiplicities, and its m columns after them.
unfoldable pub matrix_of : List ℕ → Matrix
matrix_of file =
    record { taxa = number_at 2 file 4; multiplicities = multiplicities_in file; columns = columns_from file (number_at 2 file 6) (columns_at file) }
