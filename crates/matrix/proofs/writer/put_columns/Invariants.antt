-- `matrix::writer::put_columns` meets its contract. The invariant: the columns written so far stand at the front.
use mathlib.Core.Path.{◌≡◌}
use Prim.Native.Nat.{◌*◌}
use lib.ListN.{length}
use Rattle.record.specs.Bytes.{over}
use Rattle.matrix.specs.Matrix.{columns_bytes}
use Rattle.matrix.proofs.Writing.{first_columns}
use Rattle.matrix.proofs.writer.put_columns.Given as goal

abbrev pub invariant-loop-one_set : goal.invariant-loop-one_set
invariant-loop-one_set l =
    (l.at ≡ 22 * length l.yielded) × (length l.out ≡ length l.initial.out) × (l.out ≡ over (columns_bytes (first_columns l.ones l.zeros (length l.yielded))) 0 l.initial.out)
