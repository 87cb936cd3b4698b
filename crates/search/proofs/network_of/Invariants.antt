-- `search::network_of` meets its contract. The invariant: the places passed are filled, in both lists.
use mathlib.Core.Bool.{cond}
use mathlib.Core.List.{List}
use Prim.Native.Nat.{ℕ, ◌≤◌, ◌-◌, ◌*◌}
use lib.Dec.{ltb}
use Rattle.taxa.specs.Sets.{◌∩◌, mass, count, multiplicity_in}
use Rattle.search.specs.Search.{nth}
use Rattle.search.proofs.Tables.{Table}
use Rattle.search.proofs.network_of.Given as goal

-- What stands in each place.
abbrev pub joined_at : List ℕ → List ℕ → ℕ → ℕ → ℕ
joined_at ones zeros group e = cond (ltb 0 (count 64 (nth zeros e ∩ group))) (nth ones e ∩ group) 0

abbrev pub limit_at : List ℕ → List ℕ → List ℕ → ℕ → ℕ → ℕ
limit_at weights planes zeros group e = nth weights e * mass 64 (multiplicity_in planes) (nth zeros e ∩ group)

abbrev pub invariant-loop-c : goal.invariant-loop-c
invariant-loop-c l =
    (l.c ≤ l.m) × Table 256 (joined_at l.ones l.zeros l.group) l.lists.joined l.c × Table 320 (limit_at l.weights l.planes l.zeros l.group) l.lists.limits l.c

abbrev pub decreases-loop-c : goal.decreases-loop-c
decreases-loop-c l = l.m - l.c
