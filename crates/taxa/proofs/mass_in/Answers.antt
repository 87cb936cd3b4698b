-- `taxa::mass_in` meets its contract: the planes weigh those that stand for several, and the others are counted.
use borrow.Author.Rules.{rules}
use mathlib.Core.Path.{sym, ap, ◌∙◌}
use Prim.Native.Nat.{ℕ}
use lib.ListN.{get_or}
use Rattle.taxa.specs.Sets.{count, plane_sum}
use Rattle.taxa.proofs.Counts.{count_le}
use Rattle.taxa.proofs.Planes.{mass_ones, mass_several, mass_small}
use Rattle.taxa.proofs.mass_in.Goals as goal

pub returns-then-several-eq0 : goal.returns-then-several-eq0
returns-then-several-eq0 c =
    let start = c.args in
    search
    (rules, mass_small start.planes.now start.x, mass_ones start.planes.now start.x (sym c.common-several.ensures ∙ c.if-several-eq0.true))

pub overflow_add-result : goal.overflow_add-result
overflow_add-result c = search (rules, count_le 64 c.difference.result)

pub returns : goal.returns
returns c =
    let start = c.args in
    let plane : ℕ → ℕ = λ j. get_or start.planes.now j 0 in
    search (
      rules,
      mass_small start.planes.now start.x,
      mass_several start.planes.now start.x,
      ap (plane_sum 64 plane) c.common-several.ensures,
      ap (count 64) c.difference.ensures,
    )
