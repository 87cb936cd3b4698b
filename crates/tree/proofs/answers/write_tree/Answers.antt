-- `tree::answers::write_tree` meets its contract: the value holds its tree, and no flips.
use mathlib.Core.Path.{refl}
use Rattle.tree.proofs.Writing.{tree_only, answers_as}
use Rattle.tree.proofs.answers.write_tree.Goals as goal

pub returns : goal.returns
returns c =
    answers_as c.write.ensures (tree_only c.args.tree c.requires) refl c.as_built.ensures
