-- `reach::offer` meets its contract: four stores at j, or none.
use native.Mathlib.Omega.{arith}
use Rattle.search.specs.inner.Reaching.{joins}
use Rattle.search.proofs.Reaching.{joined, long}
use Rattle.search.proofs.reach.offer.Goals as goal

pub returns : goal.returns
returns c =
    let a = c.args in
    let p = c.requires in
    joins
    (omega arith)
    (rw (c.union.ensures, c.single.ensures))
    (rw (c.union.ensures, c.single.ensures) (joined a.tree.now a.j a.i a.c a.stamp a.k (omega arith) p.0 a.met))
    (long a.tree.now a.j a.i a.c a.stamp a.k (omega arith) p.0)
