-- `answer::reader::pass_groups` meets its contract. The invariant: those passed lead here, and stand in `taxa`.
use mathlib.Core.Path.{◌≡◌}
use Prim.Native.Nat.{◌+◌, ◌*◌}
use lib.ListN.{length}
use Rattle.record.specs.Bytes.{over}
use Rattle.answer.specs.Content.{taxa_in}
use Rattle.answer.specs.Tests.{in_file, walk, group_test}
use Rattle.answer.proofs.reader.pass_groups.Given as goal
use Rattle.std.specs.Prelude.{Ok}

abbrev pub invariant-loop-i : goal.invariant-loop-i
invariant-loop-i l = (length l.initial.taxa ≡ 63) × (l.here.at ≡ 16 + 16 * l.i) × (l.taxa ≡ over (taxa_in l.file l.i) 0 l.initial.taxa) × (Ok l.here ≡ walk (group_test (in_file l.file) l.n (taxa_in l.file l.groups)) l.i l.initial.here)
