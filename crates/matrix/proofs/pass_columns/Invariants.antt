-- `matrix::pass_columns` meets its contract. The invariant: what is left to pass comes to what all comes to.
use mathlib.Core.Path.{◌≡◌}
use Prim.Native.Nat.{◌-◌}
use Rattle.matrix.specs.Check.{columns_passed}
use Rattle.matrix.proofs.pass_columns.Given as goal

abbrev pub invariant-loop : goal.invariant-loop
invariant-loop l = columns_passed l.file l.all l.m l.initial.cursor ≡ columns_passed l.file l.all (l.m - l.counter) l.cursor
