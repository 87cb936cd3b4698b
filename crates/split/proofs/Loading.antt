-- The columns of a file that is taken, as the method has them (`file_column`), and that a loop over them counts their 1s (`ones_next`) or loads them
-- (`all_loaded`).
use mathlib.Core.Path.{◌≡◌, refl, sym, ap, ◌∙◌, fun_ext}
use mathlib.Core.List.{List}
use Prim.Native.Nat.{ℕ, ◌+◌, ◌≤◌, ◌<◌}
use native.Mathlib.Omega.{arith}
use lib.ListN.{length, set, take, length-map, get_or-map, get_or-eq_default}
use Rattle.taxa.specs.Sets.{count, sizes}
use Rattle.taxa.proofs.Ranks.{sizes_next}
use Rattle.matrix.specs.declared.Column as matrix
use Rattle.matrix.specs.Matrix.{column_in, matrix_of}
use Rattle.matrix.proofs.Taken.{column_of_lem}
use Rattle.method.specs.Split.{Column}
use Rattle.method.specs.Tree.{column}
use Rattle.search.specs.Search.{cols_of}
use Rattle.split.specs.Columns.{column_of, matrix_in}
use Rattle.split.proofs.Filling.{Filled, fill_one, fill_front}

abbrev pub blank : matrix.Column
blank = record { weight = 0; ones = 0; zeros = 0 }

module _ (file : List ℕ) where
  -- The method's columns of a file.
  abbrev pub file_columns : ℕ → Column
  file_columns = column (matrix_in file).columns

  abbrev pub column_count : ℕ
  column_count = length (matrix_in file).columns

  pub file_column : {c : ℕ} → c < column_count → file_columns c ≡ column_of (column_in file c)
  unfolding column
  file_column {c} b =
      let from = (matrix_of file).columns in
      get_or-map column_of from c blank ∙ ap column_of (column_of_lem file c blank (omega (arith, length-map from column_of)))

  pub no_column : {c : ℕ} → column_count ≤ c → file_columns c ≡ column_of blank
  unfolding column
  no_column {c} b = get_or-eq_default (matrix_in file).columns (column_of blank) b

  -- Their 1-sets.
  abbrev pub file_ones : ℕ → ℕ
  file_ones c = (file_columns c).ones

  pub ones_next : {c : ℕ} {r : matrix.Column} → c < column_count → r ≡ column_in file c → sizes (c + 1) file_ones ≡ sizes c file_ones + count 64 r.ones
  ones_next {c} b is = sizes_next file_ones c ∙ ap (λ (d : Column). sizes c file_ones + count 64 d.ones) (file_column b ∙ ap column_of (sym is))

  -- Three lists that are filled up to place c with what the file's columns say.
  pub record Loading (ws₀ os₀ zs₀ ws os zs : List ℕ) (c : ℕ) : Type 0 where
    pub weights : Filled (λ x. (file_columns x).weight) ws₀ ws c
    pub ones : Filled (λ x. (file_columns x).ones) os₀ os c
    pub zeros : Filled (λ x. (file_columns x).zeros) zs₀ zs c

  module _ {ws₀ os₀ zs₀ ws os zs : List ℕ} {c : ℕ} (l : Loading ws₀ os₀ zs₀ ws os zs c) where
    -- Those in front are the file's columns.
    pub all_loaded : {m : ℕ} → m ≡ column_count → m ≤ c → m ≤ length ws₀ → m ≤ length os₀ → m ≤ length zs₀ → cols_of (take m ws) (take m os) (take m zs) ≡ file_columns
    unfolding cols_of
    all_loaded {m} e b lw lo lz =
        fun_ext (λ x i. record {
          weight = fill_front l.weights m b lw (λ y f. refl) (λ y f. ap (λ (d : Column). d.weight) (no_column (omega arith))) x i;
          ones = fill_front l.ones m b lo (λ y f. refl) (λ y f. ap (λ (d : Column). d.ones) (no_column (omega arith))) x i;
          zeros = fill_front l.zeros m b lz (λ y f. refl) (λ y f. ap (λ (d : Column). d.zeros) (no_column (omega arith))) x i;
        })

    pub load_next : {r : matrix.Column} → c < column_count → c < length ws₀ → c < length os₀ → c < length zs₀ → r ≡ column_in file c
        → Loading ws₀ os₀ zs₀ (set ws c r.weight) (set os c r.ones) (set zs c r.zeros) (c + 1)
    load_next {r} b lw lo lz is =
        let same : column_of r ≡ file_columns c = ap column_of is ∙ sym (file_column b) in
        record {
          weights = fill_one l.weights lw (ap (λ (d : Column). d.weight) same);
          ones = fill_one l.ones lo (ap (λ (d : Column). d.ones) same);
          zeros = fill_one l.zeros lz (ap (λ (d : Column). d.zeros) same);
        }
