-- `spelling::spell::part_of` meets its contract. The invariant: the part so far is that of the groups met so far, which are the last ones.
use mathlib.Core.Path.{◌≡◌}
use Prim.Native.Nat.{◌-◌}
use lib.ListN.{length, drop}
use Rattle.clades.specs.Draw.{part}
use Rattle.spelling.proofs.spell.part_of.Given as goal

abbrev pub invariant-loop-group : goal.invariant-loop-group
invariant-loop-group l = l.part ≡ part (drop (length l.groups - length l.yielded) l.groups) l.set l.taxon
