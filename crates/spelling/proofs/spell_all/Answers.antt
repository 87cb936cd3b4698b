-- `spelling::spell_all` meets its contract: the text of all taxa, and the semicolon right after it.
use mathlib.Core.Path.{sym}
use native.Mathlib.Omega.{arith}
use lib.Seq.{length-take-le}
use Rattle.spelling.proofs.Whole.{body_room, all_able, all_put}
use Rattle.spelling.proofs.spell_all.Goals as goal

pub spell-end-requires : goal.spell-end-requires
spell-end-requires c = rw (c.all.ensures, c.from.ensures) (all_able c.args.value c.args.list.now c.requires)

pub returns : goal.returns
returns c = all_put c.args.value c.args.list.now c.requires (rw (c.all.ensures, c.from.ensures) at c.spell-end.ensures)

pub slice_bounds-spell-end : goal.slice_bounds-spell-end
slice_bounds-spell-end c = sym (length-take-le _ _ c.requires.placed)

pub bounds-room-end : goal.bounds-room-end
bounds-room-end c =
    let put = rw (c.all.ensures, c.from.ensures) at c.spell-end.ensures in
    omega (arith, put.ends, body_room c.args.value c.args.list.now c.requires, c.spell-end.auto.text)

pub overflow_add-result : goal.overflow_add-result
overflow_add-result c =
    let put = rw (c.all.ensures, c.from.ensures) at c.spell-end.ensures in
    omega (arith, put.ends, body_room c.args.value c.args.list.now c.requires)
