-- `flipcut::pack::put_groups` meets its contract: after i turns the first i groups and costs are in place.
use mathlib.Core.Path.{◌≡◌, refl, ◌∙◌, ap}
use mathlib.Core.List.{List}
use Prim.Native.Nat.{ℕ, suc, ◌+◌}
use native.Mathlib.Omega.{arith}
use lib.ListN.{get_or, set}
use Rattle.flipcut.specs.Packed.{with_groups}
use Rattle.flipcut.proofs.pack.put_groups.Goals as goal

none : (taxa costs result : List ℕ) → result ≡ with_groups 0 taxa costs result
unfolding with_groups
none taxa costs result = refl

one_more : (i : ℕ) (taxa costs result : List ℕ) {now : List ℕ} → now ≡ with_groups i taxa costs result
    → set (set now (5 + i) (get_or taxa i 0)) (68 + i) (get_or costs i 0) ≡ with_groups (i + 1) taxa costs result
unfolding with_groups
one_more i taxa costs result e =
    let next : suc i ≡ i + 1 = omega arith in
    rw e refl ∙ ap (λ (k : ℕ). with_groups k taxa costs result) next

pub loop-i-init : goal.loop-i-init
loop-i-init c = (omega arith, none _ _ _)

pub loop-i-preserved : goal.loop-i-preserved
loop-i-preserved c = let loop = c.loop-i in (omega arith, one_more loop.i _ _ _ loop.invariant.1)

pub returns : goal.returns
returns c = let loop = c.loop-i in let all : loop.i ≡ 63 = omega (arith, loop.invariant.0) in rw (← all) loop.invariant.1
