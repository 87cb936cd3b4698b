-- `newick::Reading::take_known` meets its contract.
use mathlib.Core.Path.{sym, ◌∙◌}
use Rattle.newick.proofs.Naming.{name_18, name_known}
use Rattle.newick.proofs.Reading.take_known.Goals as goal

pub returns-then-subset : goal.returns-then-subset
returns-then-subset c = λ text k h e n.
    rw c.at.ensures
    (name_18 h e _ n.run n.some n.short _ n.numbered n.known
    (rw (← c.single.ensures) (sym c.subset.ensures ∙ c.if-subset.true)))

pub returns-else-subset : goal.returns-else-subset
returns-else-subset c = λ text k h e n.
    rw c.behind_name.ensures (
      name_known h e _ n.run n.some n.short _ n.numbered n.known
          (rw (← c.single.ensures) (sym c.subset.ensures ∙ c.if-subset.false)),
      n.some,
      n.run.within,
    )
