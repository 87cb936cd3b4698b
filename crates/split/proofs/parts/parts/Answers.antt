-- `parts::parts` meets its contract. The invariant: what is listed and the parts of what is left are all parts.
use native.Mathlib.Omega.{arith}
use mathlib.Core.Path.{◌≡◌}
use Prim.Native.Nat.{ℕ, ◌<◌, ◌^◌}
use lib.Arith.{le-zero}
use lib.ListN.{length}
use mathlib.Core.List.{List}
use Rattle.taxa.specs.Sets.{Positive, low}
use Rattle.method.specs.Split.{part}
use Rattle.search.specs.Search.{cols_of}
use Rattle.split.proofs.Collecting.{collect_none, has_room, fewer, collect_one, all_collected}
use Rattle.split.proofs.parts.parts.Goals as goal

pub each_part-init : goal.each_part-init
each_part-init c = collect_none _ _ _ _

pub part-it-requires : goal.part-it-requires
part-it-requires c = (c.requires.0, c.each_part.invariant.within.sub c.lowest.ensures.2)

pub offset_bounds-list-number : goal.offset_bounds-list-number
offset_bounds-list-number c =
    let fits : c.args.group < 2 ^ 64 = omega (arith, c.ranges.group) in
    let room = has_room _ _ _ _ fits c.each_part.invariant c.requires.1 c.each_part-test.true in
    omega (arith, room)

pub bounds-list-number : goal.bounds-list-number
bounds-list-number c =
    let fits : c.args.group < 2 ^ 64 = omega (arith, c.ranges.group) in
    has_room _ _ _ _ fits c.each_part.invariant c.requires.1 c.each_part-test.true

pub overflow_add-number : goal.overflow_add-number
overflow_add-number c =
    let fits : c.args.group < 2 ^ 64 = omega (arith, c.ranges.group) in
    let room = has_room _ _ _ _ fits c.each_part.invariant c.requires.1 c.each_part-test.true in
    omega (arith, room)

-- What was found is the part of the lowest taxon left.
pub each_part-smaller : goal.each_part-smaller
each_part-smaller c =
    let fits : c.args.group < 2 ^ 64 = omega (arith, c.ranges.group) in
    let found : (μ : ℕ → ℕ) → Positive μ → (ws : List ℕ) → c.part-it.result ≡ part 64 μ (length c.args.ones.now) (cols_of ws c.args.ones.now c.args.zeros.now) c.args.group (low 64 c.each_part.left) =
    λ μ pos ws. rw (← c.lowest.ensures.0) (c.part-it.ensures μ pos ws) in
    rw c.difference-left.ensures (fewer _ _ _ _ fits c.each_part.invariant c.requires.1 c.each_part-test.true found)

pub each_part-preserved : goal.each_part-preserved
each_part-preserved c =
    let fits : c.args.group < 2 ^ 64 = omega (arith, c.ranges.group) in
    let found : (μ : ℕ → ℕ) → Positive μ → (ws : List ℕ) → c.part-it.result ≡ part 64 μ (length c.args.ones.now) (cols_of ws c.args.ones.now c.args.zeros.now) c.args.group (low 64 c.each_part.left) =
    λ μ pos ws. rw (← c.lowest.ensures.0) (c.part-it.ensures μ pos ws) in
    rw c.difference-left.ensures (collect_one _ _ _ _ fits c.each_part.invariant c.requires.1 c.each_part-test.true found)

pub returns : goal.returns
returns c =
    let fits : c.args.group < 2 ^ 64 = omega (arith, c.ranges.group) in
    all_collected _ _ _ _ fits c.each_part.invariant c.requires.1 (le-zero c.each_part-test.false)
