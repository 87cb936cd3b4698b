-- `answer::writer::put_answer` meets its contract: each record is written where the one before it ends.
use lib.ListN.{length-append}
use Rattle.record.proofs.Over.{next}
use Rattle.answer.proofs.Pieces.{length_head, length_groups, length_all_flips}
use Rattle.answer.proofs.Cuts.{file_cut}
use native.Mathlib.Omega.{arith}
use Rattle.answer.proofs.writer.put_answer.Goals as goal

pub put_end-requires : goal.put_end-requires
put_end-requires c = omega (arith, c.requires.groups_bound.1, c.put_head.auto, c.put_groups.auto, c.put_flips.auto)

pub returns : goal.returns
returns c =
    rw (file_cut _ _ _ _)
    (next _ _ _ _ _
    (next _ _ _ _ _
    (next _ _ _ _ _ c.put_head.ensures c.put_groups.ensures (omega arith) (simp (length-append, length_head, length_groups, length_all_flips) (omega arith)))
    c.put_flips.ensures (omega arith) (simp (length-append, length_head, length_groups, length_all_flips) (omega arith)))
    c.put_end.ensures (omega arith) (simp (length-append, length_head, length_groups, length_all_flips) (omega arith)))
