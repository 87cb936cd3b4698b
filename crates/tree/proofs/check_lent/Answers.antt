-- `tree::check_lent` meets its contract.
use native.Mathlib.Omega.{arith}
use mathlib.Core.Path.{sym, ap, ◌∙◌}
use Rattle.std.specs.Prelude.{Err}
use Rattle.tree.proofs.Rows.{short_space, short_room, none_short}
use Rattle.tree.proofs.check_lent.Goals as goal

pub returns-then-space-needed : goal.returns-then-space-needed
returns-then-space-needed c = ap Err c.at.ensures ∙ sym (short_space _ _ _ _ (omega arith))

pub returns-then-room-wanted : goal.returns-then-room-wanted
returns-then-room-wanted c = ap Err c.at-then-room-wanted.ensures ∙ sym (short_room _ _ _ _ (omega arith) (omega arith))

pub returns : goal.returns
returns c = sym (none_short _ _ _ _ (omega arith) (omega arith))
