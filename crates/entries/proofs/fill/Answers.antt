-- `entries::fill` meets its contract: the next entry stands behind those filled before it.
use Rattle.std.proofs.Common.{◌≡◌, ◌+◌, arith}
use Prim.Native.Nat.{suc}
use lib.ListN.{length-set}
use Rattle.entries.specs.declared.Flip.{Flip}
use Rattle.entries.specs.Entries.{zipped}
use Rattle.entries.proofs.Rows.{blank, set_next, long_zipped, zipped_at}
use Rattle.entries.proofs.fill.Goals as goal

pub loop-k-preserved : goal.loop-k-preserved
loop-k-preserved c =
    let a = c.args in
    let l = c.loop-k in
    let it = zipped_at l.k a.columns.now a.raised.now a.lowered.now (omega arith) (omega arith) (omega arith) in
    let more : suc l.k ≡ l.k + 1 = omega arith in
    let long = long_zipped a.count a.columns.now a.raised.now a.lowered.now (omega arith) (omega arith) (omega arith) in (
      simp length-set l.invariant.0,
      rw (l.invariant.1, it) (rw more at (set_next {X = Flip} l.k (zipped a.columns.now a.raised.now a.lowered.now) a.list.now blank (omega (arith, long)) (omega arith))),
    )
