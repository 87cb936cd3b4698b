-- `answer::given::given_flips` meets its contract. The invariant: those passed lead here, and the floor is theirs.
use mathlib.Core.Path.{◌≡◌}
use Prim.Native.Nat.{◌+◌, ◌*◌}
use Rattle.answer.specs.Rules.{floor_of}
use Rattle.answer.specs.Tests.{as_given, walk, flips_test}
use Rattle.answer.proofs.given.given_flips.Given as goal
use Rattle.std.specs.Prelude.{Ok}

abbrev pub invariant-loop-j : goal.invariant-loop-j
invariant-loop-j l = (l.here.at ≡ l.initial.here.at + 22 * l.j) × (l.floor ≡ floor_of l.columns l.j) × (Ok l.here ≡ walk (flips_test as_given l.n l.m l.columns l.raised l.lowered) l.j l.initial.here)
