-- `newick::Reading::take_end` meets its contract.
use borrow.Author.Rules.{rules}
use Rattle.newick.proofs.Ends.{end_after_subtree, end_without_tree, end_inside, end_taken}
use Rattle.newick.proofs.Reading.take_end.Goals as goal
use Rattle.newick.proofs.Reading.take_end.Goals.{else-not-self-via-then-not-self+then-self+else-self-eq0, else-not-self-via-then-not-self+else-self, else-not-self-via-else-not-self}

pub returns-then-self-eq0 : goal.returns-then-self-eq0
returns-then-self-eq0 c = λ text k h e. let (ts, f) = end_taken h e (search rules) (search rules) (search rules) in (h, ts, f)

pub returns-else-not-self : goal.returns-else-not-self
returns-else-not-self c = λ text k h e.
    rw c.at.ensures (elim c.else-not-self.branch [
      | else-not-self-via-then-not-self+then-self+else-self-eq0 w ↦ end_inside h e w.if-self-eq0.false
      | else-not-self-via-then-not-self+else-self w ↦ end_without_tree h e w.if-self.false
      | else-not-self-via-else-not-self w ↦ end_after_subtree h e (search rules)
    ])
