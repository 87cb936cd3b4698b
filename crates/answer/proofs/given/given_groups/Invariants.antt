-- `answer::given::given_groups` meets its contract. The invariant: those passed lead here.
use mathlib.Core.Path.{◌≡◌}
use Prim.Native.Nat.{◌+◌, ◌*◌}
use Rattle.answer.specs.Tests.{as_given, walk, group_test}
use Rattle.answer.proofs.given.given_groups.Given as goal
use Rattle.std.specs.Prelude.{Ok}

abbrev pub invariant-loop-i : goal.invariant-loop-i
invariant-loop-i l = (l.here.at ≡ 16 + 16 * l.i) × (Ok l.here ≡ walk (group_test as_given l.n l.taxa) l.i l.initial.here)
