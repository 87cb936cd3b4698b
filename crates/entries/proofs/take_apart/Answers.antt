-- `entries::take_apart` meets its contract: the next entry's parts stand behind those taken before it.
use Rattle.std.proofs.Common.{◌≡◌, ◌+◌, arith}
use Prim.Native.Nat.{suc}
use lib.ListN.{length-set}
use Rattle.entries.specs.declared.Flip.{Flip}
use Rattle.entries.proofs.Rows.{set_copied}
use Rattle.entries.proofs.take_apart.Goals as goal

pub loop-k-preserved : goal.loop-k-preserved
loop-k-preserved c =
    let a = c.args in
    let l = c.loop-k in
    let more : suc l.k ≡ l.k + 1 = omega arith in (
      simp length-set l.invariant.0,
      simp length-set l.invariant.1,
      simp length-set l.invariant.2,
      rw (l.invariant.3, c.from.ensures) (rw more at (set_copied (λ (f : Flip). f.column) l.k a.list.now a.columns.now (omega arith) (omega arith))),
      rw l.invariant.4 (rw more at (set_copied (λ (f : Flip). f.raised) l.k a.list.now a.raised.now (omega arith) (omega arith))),
      rw l.invariant.5 (rw more at (set_copied (λ (f : Flip). f.lowered) l.k a.list.now a.lowered.now (omega arith) (omega arith))),
    )
