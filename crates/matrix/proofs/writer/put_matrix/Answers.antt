-- `matrix::writer::put_matrix` meets its contract: each record is written where the one before it ends.
use native.Mathlib.Omega.{arith}
use lib.ListN.{length-append}
use Rattle.record.proofs.Over.{next}
use Rattle.matrix.proofs.Writing.{length_head, length_first, length_first_bytes, file_flat}
use Rattle.matrix.proofs.writer.put_matrix.Goals as goal

pub returns : goal.returns
returns c =
    let a = c.args in
    let m-is = length_first a.ones.now a.zeros.now a.m (omega arith) (omega arith) in
    let far = length_first_bytes a.ones.now a.zeros.now a.m (omega arith) (omega arith) in
    let both = next _ _ _ _ _ c.put_head.ensures c.put_columns.ensures (omega arith) (simp length_head) in
    rw (file_flat, m-is) (next _ _ _ _ _ both c.put_end.ensures (omega arith) (simp (length-append, length_head) (omega arith)))
