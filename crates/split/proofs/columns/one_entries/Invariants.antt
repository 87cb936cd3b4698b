-- `columns::one_entries` meets its contract. The invariant: the sizes of the 1-sets passed, added up.
use mathlib.Core.Path.{◌≡◌}
use Prim.Native.Nat.{◌≤◌, ◌-◌}
use Rattle.taxa.specs.Sets.{sizes}
use Rattle.split.proofs.Loading.{file_ones}
use Rattle.split.proofs.columns.one_entries.Given as goal

abbrev pub invariant-loop-c : goal.invariant-loop-c
invariant-loop-c l = (l.c ≤ l.m) × (l.count ≡ sizes l.c (file_ones l.file))

abbrev pub decreases-loop-c : goal.decreases-loop-c
decreases-loop-c l = l.m - l.c
