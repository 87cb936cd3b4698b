-- `tree::order::put_flips` meets its contract: three stores make one flipped column more.
use native.Mathlib.Omega.{arith}
use mathlib.Core.Path.{refl, sym}
use mathlib.Core.List.{append-nil}
use Rattle.tree.proofs.Lists.{put_flips, same_all, same_past}
use Rattle.tree.proofs.order.put_flips.Goals as goal

pub returns-then-unflipped : goal.returns-then-unflipped
returns-then-unflipped c = rw (← c.unflipped.ensures, c.if-unflipped.true) (record { size = omega arith; list = sym (append-nil _); rest = (same_all _ _, same_all _ _) })

pub returns : goal.returns
returns c = rw (← c.unflipped.ensures, c.if-unflipped.false) (record { size = refl; list = put_flips _ _ _ _ _ _ _ c.requires; rest = (same_past _ _ _, same_past _ _ _) })
