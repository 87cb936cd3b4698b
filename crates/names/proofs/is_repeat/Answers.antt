-- `names::is_repeat` meets its contract. The invariant: the names that are left to meet come to what all come to, and lead to the place.
use borrow.Author.Rules.{rules}
use mathlib.Core.Path.{◌≡◌, sym, ◌∙◌}
use native.Mathlib.Omega.{arith}
use Prim.Native.Nat.{◌+◌, ◌-◌}
use Rattle.names.specs.inner.Places.{after, Whole}
use Rattle.names.proofs.Walking.{in_first, in_others, in_none, place_one, place_grows}
use Rattle.names.proofs.is_repeat.Goals as goal

-- Inside the loop there is another record, before the place.
record-left : (c : goal.In-loop) → Whole c.args.file.now c.loop.at
record-left c =
    let file = c.args.file.now in
    let at = c.loop.at in
    let left = c.args.count - c.loop.counter in
    omega (arith, c.loop.invariant.0, place_one file left at (omega arith), place_grows file (left - 1) (after file at))

pub returns-then-same_name : goal.returns-then-same_name
returns-then-same_name c =
    let left = c.args.count - c.loop.counter in
    sym (c.loop.invariant.1 ∙ in_first _ _ left c.loop.at (omega arith) (sym c.same_name.ensures ∙ c.if-same_name.true))

pub loop-preserved : goal.loop-preserved
loop-preserved c =
    let left = c.args.count - c.loop.counter in
    let fewer : left - 1 ≡ c.args.count - (c.loop.counter + 1) = omega arith in
    let differ = sym c.same_name.ensures ∙ c.if-same_name.false in (
      rw (c.after-at.ensures, ← fewer) (c.loop.invariant.0 ∙ place_one _ left c.loop.at (omega arith)),
      rw (c.after-at.ensures, ← fewer) (c.loop.invariant.1 ∙ in_others _ _ left c.loop.at (omega arith) differ),
    )

pub returns : goal.returns
returns c = rw (c.loop.invariant.1, in_none _ _ (c.args.count - c.loop.counter) c.loop.at (omega arith))

pub same_name-requires : goal.same_name-requires
same_name-requires c = (search rules, record-left c)

pub after-at-requires : goal.after-at-requires
after-at-requires c =
    let file = c.args.file.now in
    let at = c.loop.at in
    let left = c.args.count - c.loop.counter in
    omega (arith, c.loop.invariant.0, place_one file left at (omega arith), place_grows file (left - 1) (after file at))
