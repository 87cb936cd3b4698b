-- The columns in code, and those of a file, as the method has them.
use Rattle.std.specs.Prelude.{List, map, ℕ}
use Rattle.matrix.specs.declared.Column as matrix
use Rattle.matrix.specs.Matrix.{matrix_of}
use Rattle.method.specs.Split.{Column}
use Rattle.method.specs.Tree.{Matrix}

-- A column that was read, as the method's.
abbrev pub column_of : matrix.Column → Column
column_of c = record { weight = c.weight; ones = c.ones; zeros = c.zeros }

-- The matrix in a file, as the method's.
abbrev pub matrix_in : List ℕ → Matrix
matrix_in file = record { taxa = (matrix_of file).taxa; multiplicities = (matrix_of file).multiplicities; columns = map column_of (matrix_of file).columns }
