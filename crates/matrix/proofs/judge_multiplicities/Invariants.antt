-- `matrix::judge_multiplicities` meets its contract. The invariant: the sum is that of the multiplicities so far, of which none is 0.
use mathlib.Core.Path.{◌≡◌}
use Prim.Native.Nat.{◌*◌, ◌≤◌}
use Rattle.taxa.specs.Sum as sums
use Rattle.taxa.specs.Sets as sets
use Rattle.matrix.proofs.Multiplying.{Some}
use Rattle.matrix.proofs.judge_multiplicities.Given as goal

abbrev pub invariant-loop-one : goal.invariant-loop-one
invariant-loop-one l =
    (l.sum ≡ sums.sum l.one-index (sets.multiplicity l.multiplicities)) × (l.sum ≤ 255 * l.one-index) × Some l.multiplicities l.one-index
