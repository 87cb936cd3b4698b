-- "The workspace is a lent run of signed 32-bit numbers", "one number for each 1 in the matrix" (document 02, C-13): where the net flow of a pair stands, and
-- what may change. `row` has the taxa that each column joins: a flow runs between those pairs only.
use Rattle.std.specs.Prelude.{◌≡◌, cond, List, ◌++◌, ℕ, ◌+◌, ℤ, pos, length, get_or, drop, replicate}
use Rattle.taxa.specs.Sets.{has, count, sizes}
use Rattle.search.specs.Signed.{out_of, inn_of}

-- The place of the pair of column c and a taxon i that it joins: after all pairs of the columns before it, and those of its lower taxa.
unfoldable pub slot : (ℕ → ℕ) → ℕ → ℕ → ℕ
slot row c i = sizes c row + count i (row c)

-- The net flow of a pair of column c and taxon i; of one that is not joined, none.
unfoldable pub net_flow : List ℤ → (ℕ → ℕ) → ℕ → ℕ → ℤ
net_flow ws row c i = cond (has (row c) i) (get_or ws (slot row c i) (pos 0)) (pos 0)

-- What goes from taxon i into column c.
unfoldable pub outs : List ℤ → (ℕ → ℕ) → ℕ → ℕ → ℕ
outs ws row c i = out_of (net_flow ws row c i)

-- What comes from column c into taxon i.
unfoldable pub inns : List ℤ → (ℕ → ℕ) → ℕ → ℕ → ℕ
inns ws row c i = inn_of (net_flow ws row c i)

-- The first k numbers 0, "the rest untouched".
abbrev pub cleared : ℕ → List ℤ → List ℤ
cleared k ws = replicate k (pos 0) ++ drop k ws

-- Only the first k numbers may have changed.
pub record Kept (k : ℕ) (ws ws' : List ℤ) : Type 0 where
  pub long : length ws' ≡ length ws
  pub rest : drop k ws' ≡ drop k ws
