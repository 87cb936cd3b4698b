-- `answer::reader::pass_flips` meets its contract. The invariant: those passed lead here, and the floor is theirs.
use mathlib.Core.Path.{◌≡◌}
use mathlib.Core.List.{List}
use Prim.Native.Nat.{ℕ, ◌+◌, ◌*◌}
use Rattle.record.specs.declared.Cursor.{Cursor}
use Rattle.answer.specs.Content.{columns_from, raised_from, lowered_from}
use Rattle.answer.specs.Rules.{floor_of}
use Rattle.answer.specs.Tests.{in_file, walk, flips_test}
use Rattle.answer.proofs.reader.pass_flips.Given as goal
use Rattle.std.specs.Prelude.{Ok}
use Rattle.record.specs.Records.{Passed}

abbrev pub one : List ℕ → ℕ → ℕ → ℕ → Cursor → ℕ → Cursor → Passed
one file n m flips from = flips_test (in_file file) n m (columns_from file from.at flips) (raised_from file from.at flips) (lowered_from file from.at flips)

abbrev pub invariant-loop : goal.invariant-loop
invariant-loop l = (l.here.at ≡ l.initial.here.at + 22 * l.counter) × (l.floor ≡ floor_of (columns_from l.file l.initial.here.at l.flips) l.counter) × (Ok l.here ≡ walk (one l.file l.n l.m l.flips l.initial.here) l.counter l.initial.here)
