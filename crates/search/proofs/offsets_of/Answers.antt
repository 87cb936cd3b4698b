-- `search::offsets_of` meets its contract. The invariant: the offsets of the columns below c stand, and the sum is that of c.
use native.Mathlib.Omega.{arith}
use mathlib.Core.Path.{◌≡◌, refl}
use Prim.Native.Nat.{◌+◌, ◌≤◌}
use Rattle.taxa.specs.Sum.{sum}
use Rattle.taxa.specs.Sets.{sizes}
use Rattle.taxa.proofs.Ranks.{sizes_next, sizes_few}
use Rattle.search.specs.Search.{nth}
use Rattle.search.proofs.Tables.{table_start, table_next}
use Rattle.search.proofs.offsets_of.Goals as goal

-- The sum with the next column's: at most 64 for each column.
next : (c : goal.After-size) →
    let l = c.loop-c in
    let row = nth c.args.joined.now in
    l.sum + c.size.result ≡ sizes (l.c + 1) row
next c = let row = nth c.args.joined.now in omega (arith, c.size.ensures, sizes_next row c.loop-c.c, c.loop-c.invariant.1)

few : (c : goal.After-size) → c.loop-c.sum + c.size.result ≤ 16384
few c = omega (arith, next c, sizes_few (nth c.args.joined.now) (c.loop-c.c + 1), c.loop-c-test.true, c.requires)

pub loop-c-init : goal.loop-c-init
unfolding sizes sum
loop-c-init c = (omega arith, refl, table_start (λ e. sizes e (nth c.args.joined.now)) (omega arith))

pub loop-c-preserved : goal.loop-c-preserved
loop-c-preserved c =
    let l = c.loop-c in
    (omega arith, next c, table_next l.invariant.2 (omega (arith, c.requires)) l.invariant.1)

pub overflow_cast-sum : goal.overflow_cast-sum
overflow_cast-sum c = omega (arith, few c)

pub overflow_add-sum : goal.overflow_add-sum
overflow_add-sum c = omega (arith, few c)
