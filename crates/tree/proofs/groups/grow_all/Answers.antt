-- `tree::groups::grow_all` meets its contract: the walk from all taxa, with lists of its own for the search and the parts.
use native.Mathlib.Omega.{arith}
use Rattle.taxa.specs.Sets.{all}
use Rattle.taxa.proofs.Counts.{count_le}
use Rattle.tree.proofs.groups.grow_all.Goals as goal

pub grow-requires : goal.grow-requires
grow-requires c =
    let p = c.requires in
    rw c.all-everyone.ensures (record {
      ready = (
        p.ready,
        omega (arith, count_le 64 (all c.args.matrix.now.n)),
      );
      room = p.room;
    })
