-- The matrix in a file that the check takes is sound, as all theorems of the method ask (`taken_sound`), and its taxa and columns are counted by n and m.
use mathlib.Core.Path.{◌≡◌, sym, ◌∙◌, refl}
use mathlib.Core.List.{List}
use Prim.Native.Nat.{ℕ, ◌+◌, ◌*◌, ◌≤◌, ◌<◌}
use native.Mathlib.Omega.{arith}
use lib.ListN.{length, length-map}
use Rattle.taxa.specs.Sets.{multiplicity, multiplicity_in}
use Rattle.taxa.proofs.Members.{∩-disjoint}
use Rattle.record.specs.Bytes.{File}
use Rattle.matrix.specs.Check.{checked}
use Rattle.matrix.specs.inner.Planes.{Multiplied}
use Rattle.matrix.specs.Matrix.{multiplicities_in, columns_at, column_in, LegalColumn, matrix_of}
use Rattle.matrix.proofs.Taken.{taken_length, taken_taxa, taken_columns, taken_legal, taken_column, taken_multiplied}
use Rattle.matrix.proofs.Multiplying.{legal_positive, legal_merged}
use Rattle.method.specs.Tree.{Sound, column}
use Rattle.split.specs.Columns.{column_of, matrix_in}
use Rattle.split.proofs.Loading.{file_column}
use Rattle.std.specs.Prelude.{Ok}
use Rattle.matrix.specs.Check.{shape}

-- Planes that were read off a file hold its multiplicities.
pub read_multiplicities : (file P : List ℕ) → multiplicity_in P ≡ multiplicity (multiplicities_in file) → multiplicity_in P ≡ multiplicity (matrix_in file).multiplicities
unfolding matrix_of
read_multiplicities file P are = are

module _ {file : List ℕ} (f : File file) {n m : ℕ} (taken : Ok (shape n m) ≡ checked file) where
  pub taken_count : length (matrix_in file).columns ≡ m
  taken_count = length-map (matrix_of file).columns column_of ∙ taken_columns f taken

  pub taken_known : (matrix_in file).taxa ≡ n
  taken_known = taken_taxa f taken

  -- "n is 1 to 64, m is 0 to 256".
  pub few_taxa : n ≤ 64
  few_taxa = omega (arith, (taken_legal f taken).taxa_fit, taken_taxa f taken)

  pub few_columns : m ≤ 256
  few_columns = omega (arith, (taken_legal f taken).columns_fit, taken_columns f taken)

  -- Lists of m places take the file's columns.
  pub can_load : {k : ℕ} → k ≡ m → (k ≡ length (matrix_in file).columns) × (columns_at file + 22 * k ≤ length file)
  can_load long = (long ∙ sym taken_count, omega (arith, taken_length f taken))

  -- What the loading of the file asks for.
  pub loads : (m ≡ length (matrix_in file).columns) × (columns_at file + 22 * m ≤ length file) × Multiplied file × (n ≤ 64) × (m ≤ 256)
  loads = let fits = can_load refl in (fits.0, fits.1, taken_multiplied f taken, few_taxa, few_columns)

  -- What the check has seen of a column.
  seen : {c : ℕ} → c < length (matrix_in file).columns → (column (matrix_in file).columns c ≡ column_of (column_in file c)) × LegalColumn (matrix_in file).taxa (column_in file c)
  seen {c} b = (file_column file b, taken_column f taken c (omega (arith, taken_count)))

  pub taken_sound : Sound (matrix_in file)
  taken_sound =
      let legal = taken_legal f taken in
      record {
        some = legal.some_taxa;
        few = legal.taxa_fit;
        positive = legal_positive legal;
        merged = legal_merged legal;
        columns_few = omega (arith, taken_count, few_columns);
        weighs = λ c b. let (is, l) = seen b in rw is l.weighs;
        light = λ c b. let (is, l) = seen b in rw is (omega (arith, l.weight_fits));
        ones_in = λ c b. let (is, l) = seen b in rw is l.ones_known;
        zeros_in = λ c b. let (is, l) = seen b in rw is l.zeros_known;
        proper = λ c b. let (is, l) = seen b in rw is (∩-disjoint l.apart);
      }
