-- `newick::tokens::fill_zeros` meets its contract. The invariant: the 0-sets so far are the tree's other names.
use mathlib.Core.Path.{◌≡◌}
use mathlib.Core.List.{◌++◌, map}
use Prim.Native.Nat.{◌-◌}
use lib.ListN.{length, take, drop}
use Rattle.taxa.specs.Sets.{◌∖◌}
use Rattle.newick.proofs.tokens.fill_zeros.Given as goal

abbrev pub invariant-loop-c : goal.invariant-loop-c
invariant-loop-c l =
    (length l.zeros ≡ 256) × (take l.c l.zeros ≡ take l.tree.columns l.initial.zeros ++ map (λ x. l.tree.here ∖ x) (take (l.c - l.tree.columns) (drop l.tree.columns l.ones)))
