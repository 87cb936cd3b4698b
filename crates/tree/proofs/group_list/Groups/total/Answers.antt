-- `Groups::total` meets its contract. The invariant: the total is that of the groups passed.
use native.Mathlib.Omega.{arith}
use mathlib.Core.Path.{◌≡◌, refl, sym, ◌∙◌}
use Prim.Native.Nat.{ℕ, ◌+◌}
use lib.ListN.{get_or}
use Rattle.taxa.specs.Sum.{sum}
use Rattle.taxa.proofs.Sums.{sum_next, sum_mono}
use Rattle.tree.proofs.Lists.{total_of}
use Rattle.tree.proofs.group_list.Groups.total.Goals as goal

pub loop-i-init : goal.loop-i-init
unfolding sum
loop-i-init c = (omega arith, refl)

pub overflow_add-total : goal.overflow_add-total
overflow_add-total c =
    let l = c.loop-i in
    let s = c.args.self.now in
    let g : ℕ → ℕ = λ i. get_or s.costs i 0 in
    omega (arith, c.requires, total_of s.taxa s.costs s.count, sum_next l.i g, sum_mono g {j = l.i + 1} {k = s.count} (omega arith))

pub loop-i-preserved : goal.loop-i-preserved
loop-i-preserved c = (omega arith, rw (sum_next, ← c.loop-i.invariant.1))

pub returns : goal.returns
returns c =
    let s = c.args.self.now in
    let all : c.loop-i.i ≡ s.count = omega arith in
    (rw (← all) c.loop-i.invariant.1) ∙ sym (total_of s.taxa s.costs s.count)
