-- `ties::ties_of` meets its contract. The invariant: what the columns passed tie, each at most 65,535.
use native.Mathlib.Omega.{arith}
use mathlib.Core.Path.{refl}
use Rattle.search.proofs.Bonds.{few_next, few_none, same_then, ties_start, weighed_start, ties_next, weighed_next}
use Rattle.search.proofs.ties.ties_of.Goals as goal

pub loop-c-init : goal.loop-c-init
loop-c-init c =
    let a = c.args in
    let (same, none) = c.untied.ensures in
    let own = c.unused.ensures in (
      omega arith,
      ties_start a.weights.now a.joined.now a.group (omega arith) same.long none,
      weighed_start none own a.weights.now a.joined.now a.group (omega arith),
      record { long = same.long; same = λ e b. refl },
      few_none none own,
    )

pub loop-c-preserved : goal.loop-c-preserved
loop-c-preserved c =
    let v = c.loop-c.invariant in
    let e = rw c.common.ensures at c.tie_column.ensures in (
      omega arith,
      ties_next (omega arith) e v.1,
      weighed_next (omega arith) e v.2,
      same_then v.3 e.tied.limits,
      few_next v.4 e (omega (arith, c.type_inv.weights c.loop-c.c)),
    )
