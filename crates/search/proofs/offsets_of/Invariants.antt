-- `search::offsets_of` meets its contract. The invariant: the offsets of the columns below c stand, and the sum is that of c.
use mathlib.Core.Path.{◌≡◌}
use Prim.Native.Nat.{◌-◌, ◌≤◌}
use Rattle.taxa.specs.Sets.{sizes}
use Rattle.search.specs.Search.{nth}
use Rattle.search.proofs.Tables.{Table}
use Rattle.search.proofs.offsets_of.Given as goal

abbrev pub invariant-loop-c : goal.invariant-loop-c
invariant-loop-c l = (l.c ≤ l.m) × (l.sum ≡ sizes l.c (nth l.joined)) × Table 257 (λ e. sizes e (nth l.joined)) l.offsets l.c

abbrev pub decreases-loop-c : goal.decreases-loop-c
decreases-loop-c l = l.m - l.c
