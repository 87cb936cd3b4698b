-- `answer::reader::fill` meets its contract. The invariant: the entries filled so far stand in front of each part.
use mathlib.Core.Path.{refl, ◌∙◌}
use Prim.Native.Nat.{◌+◌, ◌*◌}
use lib.ListN.{length-set}
use Rattle.record.specs.Bytes.{number_at}
use Rattle.record.proofs.Over.{nothing}
use Rattle.answer.specs.Content.{columns_from, raised_from, lowered_from, run}
use Rattle.answer.proofs.Runs.{store_next}
use native.Mathlib.Omega.{arith}
use Rattle.answer.proofs.reader.fill.Goals as goal

pub loop-j-init : goal.loop-j-init
unfolding columns_from raised_from lowered_from run
loop-j-init c = (refl, refl, refl, nothing 0 _, nothing 0 _, nothing 0 _)

pub loop-j-preserved : goal.loop-j-preserved
unfolding columns_from raised_from lowered_from
loop-j-preserved c =
    let l = c.loop-j in
    let s = c.args in
    let file = s.file.now in (
      simp length-set l.invariant.0,
      simp length-set l.invariant.1,
      simp length-set l.invariant.2,
      rw l.invariant.3 (store_next (λ j. number_at 2 file (s.first + 22 * j + 4)) l.j s.columns.now (c.from.ensures ∙ c.u16_at.ensures) (omega arith)),
      rw l.invariant.4 (store_next (λ j. number_at 8 file (s.first + 22 * j + 6)) l.j s.raised.now c.u64_at.ensures (omega arith)),
      rw l.invariant.5 (store_next (λ j. number_at 8 file (s.first + 22 * j + 14)) l.j s.lowered.now c.u64_at-in-loop-j.ensures (omega arith)),
    )
