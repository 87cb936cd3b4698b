-- A net flow is signed: "positive into the column, negative out of it". It is told by two numbers, of which at most one is above 0.
use Rattle.std.specs.Prelude.{ℕ, suc, ℤ, pos, negsuc}

-- What goes out of the taxon into the column.
abbrev pub out_of : ℤ → ℕ
out_of (pos n) = n
out_of (negsuc n) = 0

-- What comes into the taxon from the column.
abbrev pub inn_of : ℤ → ℕ
inn_of (pos n) = 0
inn_of (negsuc n) = suc n
