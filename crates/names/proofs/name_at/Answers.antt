-- `names::name_at` meets its contract. The invariant: the records that are left to pass lead to the record of the name.
use mathlib.Core.Path.{◌≡◌, ◌∙◌}
use mathlib.Core.List.{List, []}
use native.Mathlib.Omega.{arith}
use Prim.Native.Nat.{ℕ, ◌+◌, ◌<◌, ◌≤◌, ◌-◌}
use lib.ListN.{length, get_or}
use Rattle.names.specs.Names.{name_at}
use Rattle.names.specs.Check.{names_in}
use Rattle.names.specs.inner.Places.{after, place_from}
use Rattle.names.proofs.Walking.{place_one, place_grows, place_none}
use Rattle.names.proofs.Taken.{There, taken_name, named_taken}
use Rattle.names.proofs.name_at.Goals as goal

-- The name stands in its record.
named : (file : List ℕ) (index : ℕ) → index < length (names_in file) → There file (place_from file index 0) (get_or (names_in file) index [])
named file index h = taken_name file (named_taken file h) index h

-- Past the loop that is where the code has come to.
arrived : (file : List ℕ) (index left at : ℕ) → index < length (names_in file) → place_from file index 0 ≡ place_from file left at → left ≤ 0
    → There file at (get_or (names_in file) index [])
arrived file index left at h e none = rw (e ∙ place_none file left at none) at (named file index h)

pub loop-preserved : goal.loop-preserved
loop-preserved c =
    let left = c.args.index - c.loop.counter in
    let fewer : left - 1 ≡ c.args.index - (c.loop.counter + 1) = omega arith in
    rw (c.after-at.ensures, ← fewer) (c.loop.invariant ∙ place_one c.args.file.now left c.loop.at (omega arith))

pub returns : goal.returns
unfolding name_at
returns c =
    let there = arrived c.args.file.now c.args.index (c.args.index - c.loop.counter) c.loop.at c.requires c.loop.invariant (omega arith) in
    record { is = rw c.u16_at.ensures there.is; within = omega arith; some = omega arith; short = omega arith }

-- Inside the loop there is another record before that one.
pub after-at-requires : goal.after-at-requires
after-at-requires c =
    let file = c.args.file.now in
    let at = c.loop.at in
    let left = c.args.index - c.loop.counter in
    let there = named file c.args.index c.requires in
    omega (arith, c.loop.invariant, place_one file left at (omega arith), place_grows file (left - 1) (after file at))

pub overflow_add-result : goal.overflow_add-result
overflow_add-result c =
    omega (arith, arrived c.args.file.now c.args.index (c.args.index - c.loop.counter) c.loop.at c.requires c.loop.invariant (omega arith))

pub u16_at-requires : goal.u16_at-requires
u16_at-requires c =
    omega (arith, arrived c.args.file.now c.args.index (c.args.index - c.loop.counter) c.loop.at c.requires c.loop.invariant (omega arith))
