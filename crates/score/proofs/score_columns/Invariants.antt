-- `score::score_columns` meets its contract. The invariant: the sums are those of the columns passed, at most `column_most` each.
use mathlib.Core.Path.{◌≡◌}
use Prim.Native.Nat.{◌*◌, ◌≤◌}
use lib.ListN.{length}
use Rattle.taxa.specs.Sets.{multiplicity_in}
use Rattle.matrix.specs.Matrix.{column_in}
use Rattle.score.specs.Score.{node_for, raises_of, lowers_of}
use Rattle.score.specs.inner.Light.{column_most}
use Rattle.score.proofs.score_columns.Given as goal

abbrev pub invariant-loop-c : goal.invariant-loop-c
invariant-loop-c l =
    let μ = multiplicity_in l.planes in
    (l.sum.raises.0 ≡ raises_of μ (column_in l.file) (node_for μ l.n l.groups (length l.groups)) l.c) × (l.sum.lowers.0 ≡ lowers_of μ (column_in l.file) (node_for μ l.n l.groups (length l.groups)) l.c)
    × (l.sum.raises.0 ≤ l.c * column_most) × (l.sum.lowers.0 ≤ l.c * column_most)
