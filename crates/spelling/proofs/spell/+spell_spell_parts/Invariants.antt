-- The proof of the cycle of calls {spell, spell_parts}: a set has more taxa than each of its parts, so 2k + 1 falls for a set of k, and 2k for its parts.
-- The invariant of the parts: what is left to put comes to what all comes to.
use Prim.Native.Nat.{◌+◌, ◌*◌}
use Rattle.taxa.specs.Sets.{◌⊆◌, count}
use Rattle.spelling.specs.inner.Spell.{parts_text}
use Rattle.spelling.proofs.Putting.{Left}
use Rattle.spelling.proofs.spell.+spell_spell_parts.Given as goal

abbrev pub decreases-spell : goal.decreases-spell
decreases-spell l = 2 * count 64 l.set + 1

abbrev pub decreases-spell_parts : goal.decreases-spell_parts
decreases-spell_parts l = 2 * count 64 l.set

abbrev pub invariant-spell_parts-loop-left : goal.invariant-spell_parts-loop-left
invariant-spell_parts-loop-left l =
    l.left ⊆ l.set × Left (parts_text l.groups l.list l.set l.set) l.at l.fn.text (parts_text l.groups l.list l.set l.left) l.end l.text

abbrev pub decreases-spell_parts-loop-left : goal.decreases-spell_parts-loop-left
decreases-spell_parts-loop-left l = count 64 l.left
