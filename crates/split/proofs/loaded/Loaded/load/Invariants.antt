-- `Loaded::load` meets its contract. The invariant: the first c entries of each list are those of the file's columns.
use mathlib.Core.Path.{◌≡◌}
use Prim.Native.Nat.{◌≤◌, ◌-◌}
use Rattle.taxa.specs.Sets.{multiplicity, multiplicity_in, Tabled}
use Rattle.matrix.specs.Matrix.{multiplicities_in}
use Rattle.split.proofs.Loading.{Loading}
use Rattle.split.proofs.loaded.Loaded.load.Given as goal

abbrev pub invariant-loop-c : goal.invariant-loop-c
invariant-loop-c l =
    (l.c ≤ l.m) × (l.self.n ≡ l.n) × (l.self.m ≡ l.m) × (multiplicity_in l.self.planes ≡ multiplicity (multiplicities_in l.file)) × Tabled l.self.planes
    × Loading l.file l.initial.self.weights l.initial.self.ones l.initial.self.zeros l.self.weights l.self.ones l.self.zeros l.c

abbrev pub decreases-loop-c : goal.decreases-loop-c
decreases-loop-c l = l.m - l.c
