-- `columns::flip_columns` meets its contract. The invariant: the first c columns are flipped, and the others as they were.
use native.Mathlib.Omega.{arith}
use Rattle.search.specs.Search.{cols_of}
use Rattle.split.proofs.Filling.{fill_none}
use Rattle.split.proofs.Flipping.{flip_next, all_flipped, still_parallel}
use Rattle.split.proofs.columns.flip_columns.Goals as goal

pub loop-c-init : goal.loop-c-init
loop-c-init c = (omega arith, record { ones = fill_none _; zeros = fill_none _ })

pub loop-c-preserved : goal.loop-c-preserved
unfolding cols_of
loop-c-preserved c =
    let v = c.loop-c in
    let pre = c.requires in
    (omega arith, flip_next _ _ _ _ _ _ pre v.invariant.1 (omega arith) c.flip-new.ensures)

pub returns : goal.returns
returns c =
    let v = c.loop-c in
    let pre = c.requires in
    (all_flipped _ _ _ _ _ _ pre v.invariant.1 (omega arith), still_parallel _ _ _ _ _ _ pre v.invariant.1)
