-- `score::node_for` meets its contract: the leaf that counts, then the groups.
use native.Mathlib.Omega.{arith}
use mathlib.Core.Path.{refl, ◌∙◌}
use Rattle.std.proofs.lemmas.Iterator.{YieldsList-from_map, YieldsList-from_range, YieldsList-from_slice}
use Rattle.std.proofs.lemmas.Iterator.Consumers.{YieldsList-at, YieldsList-from_copied}
use Rattle.std.proofs.lemmas.List.FromFn.{get_or-map-range_with_len, length-map-range_with_len}
use Rattle.score.specs.Score.{node_for, leaf}
use Rattle.score.proofs.Nearest.{nearest_same, gone_through}
use Rattle.score.proofs.node_for.Goals as goal

pub returns : goal.returns
unfolding node_for
returns c =
    let it = c.args in
    let leaves = YieldsList-from_map _ leaf (YieldsList-from_range 0 it.n it.n c.map.ensures.source (omega arith)) c.map.ensures.closure (λ x r q k. (refl, k.met)) in
    let groups = YieldsList-from_copied (YieldsList-at c.copied.ensures.source (YieldsList-from_slice it.groups.now c.iter.ensures.rest)) in
    let best_leaf = gone_through _ _ _ c.nearest_in-leaf.ensures leaves in
    let leaf_is = (rw (length-map-range_with_len leaf 0 it.n, c.single.ensures) at best_leaf)
    ∙ nearest_same _ _ _ leaf it.n _ (λ i l. get_or-map-range_with_len leaf 0 it.n i i 0 l (omega arith)) in
    rw (← leaf_is) (gone_through _ _ _ c.nearest_in.ensures groups)
