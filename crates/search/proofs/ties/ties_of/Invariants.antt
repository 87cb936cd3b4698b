-- `ties::ties_of` meets its contract. The invariant: what the columns passed tie, each at most 65,535.
use Prim.Native.Nat.{◌*◌, ◌-◌, ◌≤◌}
use Rattle.search.specs.inner.Trying.{Ties, Weighed, Few, SameLimits}
use Rattle.search.proofs.ties.ties_of.Given as goal

abbrev pub invariant-loop-c : goal.invariant-loop-c
invariant-loop-c l =
    (l.c ≤ l.m) × Ties l.weights l.joined l.c l.group l.limits × Weighed l.weights l.joined l.c l.group l.limits l.own × SameLimits l.initial.limits l.limits × Few (65535 * l.c) l.limits l.own

abbrev pub decreases-loop-c : goal.decreases-loop-c
decreases-loop-c l = l.m - l.c
