-- `names::check` meets its contract. The invariant: the loop has reached its place after as many names as it counts.
use mathlib.Core.Path.{◌≡◌, sym, ap, ◌∙◌}
use mathlib.Core.List.{List}
use native.Mathlib.Omega.{arith}
use Prim.Native.Nat.{ℕ}
use Rattle.std.specs.Prelude.{Result}
use Rattle.record.specs.declared.refusal.Refusal.{Refusal}
use Rattle.record.proofs.Passing.{handed_on}
use Rattle.names.specs.Check.{checked, returned, Checks}
use Rattle.names.proofs.Walking.{place_grows}
use Rattle.names.proofs.Passing.{passing}
use Rattle.names.proofs.Checking.{begun, gone_on, name_stops, end_stops, all_passed}
use Rattle.names.proofs.check.Goals as goal

-- The case and its numbers.
checks : (file : List ℕ) {r : Result ℕ Refusal} → r ≡ checked file → Checks file r
checks file e = record { answers = e; numbers = ap returned e }

pub returns-in_err-cursor : goal.returns-in_err-cursor
returns-in_err-cursor c =
    let stops = name_stops c.loop-cursor.invariant (sym c.finds.ensures ∙ c.loop-cursor-test.true) (sym c.in_err-cursor.was ∙ c.pass_name.ensures) in
    checks _ (handed_on _ _ c.from_residual.ensures.1 ∙ stops)

pub overflow_add-count : goal.overflow_add-count
overflow_add-count c = omega (arith, c.loop-cursor.invariant, place_grows c.args.file.now c.loop-cursor.count 0)

pub loop-cursor-smaller : goal.loop-cursor-smaller
loop-cursor-smaller c = omega (arith, (passing _ _ _ (sym c.in_ok-cursor.was ∙ c.pass_name.ensures)).stands)

pub loop-cursor-preserved : goal.loop-cursor-preserved
loop-cursor-preserved c =
    gone_on c.loop-cursor.invariant (sym c.finds.ensures ∙ c.loop-cursor-test.true) (sym c.in_ok-cursor.was ∙ c.pass_name.ensures)

pub returns-in_err-pass_end : goal.returns-in_err-pass_end
returns-in_err-pass_end c =
    let stops = end_stops c.loop-cursor.invariant (sym c.finds.ensures ∙ c.loop-cursor-test.false) (sym c.in_err-pass_end.was ∙ c.pass_end.ensures) in
    checks _ (handed_on _ _ c.from_residual-in_err-pass_end.ensures.1 ∙ stops)

pub returns : goal.returns
returns c =
    checks _ (all_passed c.loop-cursor.invariant (sym c.finds.ensures ∙ c.loop-cursor-test.false) (sym c.in_ok-pass_end.was ∙ c.pass_end.ensures))

pub loop-cursor-init : goal.loop-cursor-init
loop-cursor-init c = begun _ _ c.start-cursor.ensures

pub pass_name-requires : goal.pass_name-requires
pass_name-requires c = c.loop-cursor.invariant.follows
