-- `spelling::spell::wider` meets its contract: its two arms are those of the definition.
use borrow.Author.Tests.{eq-eqb, ne_eqb}
use Rattle.clades.specs.Draw.{wider}
use Rattle.spelling.proofs.spell.wider.Goals as goal
use Rattle.spelling.proofs.spell.wider.Goals.{else-subset-via-then-subset+then-subset-2+else-group-set, else-subset-via-then-subset+else-subset-2, else-subset-via-else-subset}

pub returns-then-group-set : goal.returns-then-group-set
unfolding wider
returns-then-group-set c =
    rw (← c.subset.ensures, c.if-subset.true, ← c.subset-then-subset.ensures, c.if-subset-2.true, ne_eqb c.args.group c.args.set c.if-group-set.true)

pub returns-else-subset : goal.returns-else-subset
unfolding wider
returns-else-subset c =
    elim c.else-subset.branch [
      | else-subset-via-then-subset+then-subset-2+else-group-set w ↦
          rw (← c.subset.ensures, w.if-subset.true, ← w.subset-then-subset.ensures, w.if-subset-2.true, eq-eqb c.args.group c.args.set w.if-group-set.false)
      | else-subset-via-then-subset+else-subset-2 w ↦ rw (← c.subset.ensures, w.if-subset.true, ← w.subset-then-subset.ensures, w.if-subset-2.false)
      | else-subset-via-else-subset w ↦ rw (← c.subset.ensures, w.if-subset.false)
    ]
