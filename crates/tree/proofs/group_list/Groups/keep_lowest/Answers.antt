-- `Groups::keep_lowest` meets its contract. The invariant: what stands is what stood, and what is kept of the groups passed.
use native.Mathlib.Omega.{arith}
use mathlib.Core.Path.{sym, ◌∙◌}
use mathlib.Core.List.{append-nil, append_assoc}
use Rattle.method.specs.Tree.{kept}
use Rattle.tree.specs.Lists.{first_groups}
use Rattle.tree.specs.inner.Lists.{starts_at}
use Rattle.tree.proofs.Lists.{kept_next, kept_size, kept_room}
use Rattle.tree.proofs.group_list.Groups.keep_lowest.Goals as goal
use Rattle.tree.proofs.group_list.Groups.keep_lowest.Goals.{then-starts_at, else-starts_at}

pub loop-g-init : goal.loop-g-init
unfolding first_groups kept
loop-g-init c = (omega arith, omega arith, sym (append-nil _))

pub put-requires : goal.put-requires
put-requires c =
    let l = c.loop-g in
    let a = c.args in
    let room = kept_room (starts_at a.i) a.walked.now.taxa a.walked.now.costs {j = l.g} {k = a.walked.now.count} (omega arith) (sym c.starts_at.ensures ∙ c.if-starts_at.true) in
    omega arith

pub loop-g-preserved : goal.loop-g-preserved
loop-g-preserved c =
    let l = c.loop-g in
    let walked = c.args.walked.now in
    let starts = c.starts_at.ensures in
    let more = rw (← starts) at (kept_size (starts_at c.args.i) walked.taxa walked.costs l.g) in
    elim c.if-starts_at.branch [
      | then-starts_at w ↦ let here = rw w.if-starts_at.true at more in
          rw w.self-is (omega arith, omega (arith, w.put.ensures.size, here), rw (kept_next, ← starts, w.if-starts_at.true, ← append_assoc, ← l.invariant.2) w.put.ensures.list)
      | else-starts_at w ↦ let here = rw w.if-starts_at.false at more in
          rw w.self-is (omega arith, omega (arith, here), rw (kept_next, ← starts, w.if-starts_at.false, append-nil) l.invariant.2)
    ]
