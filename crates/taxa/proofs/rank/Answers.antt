-- `taxa::rank` meets its contract: the set is masked below i, and counted.
use native.Mathlib.Omega.{arith}
use mathlib.Core.Path.{◌∙◌, ap}
use Prim.Native.Nat.{ℕ}
use Rattle.taxa.specs.Sets.{◌∩◌, count}
use Rattle.taxa.proofs.Ranks.{count_below}
use Rattle.taxa.proofs.rank.Goals as goal

pub returns : goal.returns
returns c =
    let a = c.args in
    c.size.ensures
    ∙ ap (count 64) (c.common.ensures ∙ ap (λ (y : ℕ). a.x ∩ y) c.all.ensures)
    ∙ count_below a.x (omega (arith, c.requires))
