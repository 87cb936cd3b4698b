-- `answer::reader::taxa_in` meets its contract. The invariant: those read so far stand in front.
use mathlib.Core.Path.{refl}
use Prim.Native.Nat.{◌+◌, ◌*◌}
use lib.ListN.{replicate}
use Rattle.record.specs.Bytes.{number_at}
use Rattle.record.proofs.Over.{nothing}
use Rattle.answer.specs.Content.{taxa_in, run}
use Rattle.answer.proofs.Runs.{store_next}
use native.Mathlib.Omega.{arith}
use Rattle.answer.proofs.reader.taxa_in.Goals as goal

pub loop-i-init : goal.loop-i-init
unfolding taxa_in run
loop-i-init c = (refl, nothing 0 _)

pub loop-i-preserved : goal.loop-i-preserved
unfolding taxa_in
loop-i-preserved c =
    let l = c.loop-i in
    (refl, rw l.invariant.1 (store_next (λ i. number_at 8 c.args.file.now (20 + 16 * i)) l.i (replicate 63 0) c.u64_at.ensures (omega arith)))
