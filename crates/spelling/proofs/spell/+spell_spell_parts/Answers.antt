-- The proof of the cycle of calls {spell, spell_parts}: of a set, of the bracket of its parts, and of each of these.
use mathlib.Core.Path.{◌≡◌, ap, ◌∙◌}
use Prim.Native.Nat.{◌^◌, ◌≤◌, ◌<◌}
use native.Mathlib.Omega.{arith}
use lib.ListN.{length}
use Rattle.taxa.specs.Sets.{count}
use Rattle.taxa.proofs.Members.{⊆-refl}
use Rattle.clades.specs.Draw.{part}
use Rattle.spelling.specs.inner.Spell.{parts_text}
use Rattle.spelling.proofs.Texts.{group_text, parts_none}
use Rattle.spelling.proofs.Steps.{name_able, name_put, parts_able, parts_put, part_falls, left_falls, part_able, part_room, part_put}
use Rattle.spelling.proofs.Putting.{left_start, left_end}
use Rattle.spelling.proofs.spell.+spell_spell_parts.Goals as goal

-- ---- spell: a taxon alone

pub spell-spell_name-requires : goal.spell-spell_name-requires
spell-spell_name-requires t c =
    let a = c.args in
    let fits : a.set < 2 ^ 64 = omega (arith, c.ranges.set) in
    let one : count 64 a.set ≤ 1 = omega (arith, c.size.ensures) in
    rw c.lowest.ensures.0 (name_able a.groups.now a.list.now fits one c.requires)

pub spell-returns-then-size-lt2 : goal.spell-returns-then-size-lt2
spell-returns-then-size-lt2 t c =
    let a = c.args in
    let fits : a.set < 2 ^ 64 = omega (arith, c.ranges.set) in
    let one : count 64 a.set ≤ 1 = omega (arith, c.size.ensures) in
    name_put a.groups.now a.list.now fits one (rw c.lowest.ensures.0 at c.spell_name.ensures)

-- ---- spell: a bracket

-- It has room.
pub spell-bounds-text-at : goal.spell-bounds-text-at
spell-bounds-text-at t c =
    let a = c.args in
    let fits : a.set < 2 ^ 64 = omega (arith, c.ranges.set) in
    let more : 1 < count 64 a.set = omega (arith, c.size.ensures) in
    omega (arith, c.requires.room, ap length (group_text a.groups.now a.list.now a.set fits more))

pub spell-spell_parts-requires : goal.spell-spell_parts-requires
spell-spell_parts-requires t c =
    let a = c.args in
    let fits : a.set < 2 ^ 64 = omega (arith, c.ranges.set) in
    let more : 1 < count 64 a.set = omega (arith, c.size.ensures) in
    (omega (arith, c.decreases), (parts_able a.groups.now a.list.now fits more c.requires, more))

pub spell-returns : goal.spell-returns
spell-returns t c =
    let a = c.args in
    let fits : a.set < 2 ^ 64 = omega (arith, c.ranges.set) in
    let more : 1 < count 64 a.set = omega (arith, c.size.ensures) in
    let opens : a.at < length a.text.now = omega (arith, c.requires.room, ap length (group_text a.groups.now a.list.now a.set fits more)) in
    parts_put a.groups.now a.list.now fits more opens c.spell_parts.ensures

-- ---- spell_parts: each part in its turn

pub spell_parts-loop-left-init : goal.spell_parts-loop-left-init
spell_parts-loop-left-init t c = (⊆-refl _, left_start _ _ _)

-- It is smaller than the set, and has room.
pub spell_parts-spell-end-requires : goal.spell_parts-spell-end-requires
spell_parts-spell-end-requires t c =
    let a = c.args in
    let l = c.loop-left in
    let fits : a.set < 2 ^ 64 = omega (arith, c.ranges.set) in
    let some : 0 < l.left = omega (arith, c.loop-left-test.true) in
    let found = c.part_of-part.ensures ∙ ap (part a.groups.now a.set) c.lowest.ensures.0 in
    let falls = part_falls a.groups.now a.list.now fits c.requires.1 c.requires.0 l.invariant.0 some _ found in
    let able = part_able a.groups.now a.list.now fits c.requires.1 c.requires.0 l.invariant.0 some _ found l.invariant.1 in
    (omega (arith, c.decreases, falls), able)

-- So has the byte after it.
pub spell_parts-bounds-text-end : goal.spell_parts-bounds-text-end
spell_parts-bounds-text-end t c =
    let a = c.args in
    let l = c.loop-left in
    let fits : a.set < 2 ^ 64 = omega (arith, c.ranges.set) in
    let some : 0 < l.left = omega (arith, c.loop-left-test.true) in
    let found = c.part_of-part.ensures ∙ ap (part a.groups.now a.set) c.lowest.ensures.0 in
    let room = part_room a.groups.now a.list.now fits c.requires.1 c.requires.0 l.invariant.0 some _ found l.invariant.1 in
    omega (arith, c.spell-end.ensures.ends, room, c.spell-end.auto.text)

pub spell_parts-overflow_add-end : goal.spell_parts-overflow_add-end
spell_parts-overflow_add-end t c =
    let a = c.args in
    let l = c.loop-left in
    let fits : a.set < 2 ^ 64 = omega (arith, c.ranges.set) in
    let some : 0 < l.left = omega (arith, c.loop-left-test.true) in
    let found = c.part_of-part.ensures ∙ ap (part a.groups.now a.set) c.lowest.ensures.0 in
    let room = part_room a.groups.now a.list.now fits c.requires.1 c.requires.0 l.invariant.0 some _ found l.invariant.1 in
    omega (arith, c.spell-end.ensures.ends, room)

pub spell_parts-loop-left-smaller : goal.spell_parts-loop-left-smaller
spell_parts-loop-left-smaller t c =
    let a = c.args in
    let l = c.loop-left in
    let fits : a.set < 2 ^ 64 = omega (arith, c.ranges.set) in
    let some : 0 < l.left = omega (arith, c.loop-left-test.true) in
    let found = c.part_of-part.ensures ∙ ap (part a.groups.now a.set) c.lowest.ensures.0 in
    rw c.difference-left.ensures (left_falls a.groups.now a.list.now fits c.requires.1 c.requires.0 l.invariant.0 some _ found)

pub spell_parts-loop-left-preserved : goal.spell_parts-loop-left-preserved
spell_parts-loop-left-preserved t c =
    let a = c.args in
    let l = c.loop-left in
    let fits : a.set < 2 ^ 64 = omega (arith, c.ranges.set) in
    let some : 0 < l.left = omega (arith, c.loop-left-test.true) in
    let found = c.part_of-part.ensures ∙ ap (part a.groups.now a.set) c.lowest.ensures.0 in
    rw (c.closing.ensures, c.difference-left.ensures)
    (part_put a.groups.now a.list.now fits c.requires.1 c.requires.0 l.invariant.0 some _ found l.invariant.1 c.spell-end.ensures)

pub spell_parts-returns : goal.spell_parts-returns
spell_parts-returns t c =
    let l = c.loop-left in
    let none : l.left ≡ 0 = omega (arith, c.loop-left-test.false) in
    let a = c.args in
    let all = ap (parts_text a.groups.now a.list.now a.set) none ∙ parts_none a.groups.now a.list.now a.set in
    left_end c.requires.0.room l.invariant.1 all
