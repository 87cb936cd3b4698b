-- `answer::reader::pass_flips` meets its contract. The invariant: those passed lead here, and the floor is theirs.
use borrow.Author.Rules.{rules}
use mathlib.Core.Path.{refl, sym, ap, ◌∙◌}
use Prim.Native.Nat.{ℕ, ◌+◌}
use Rattle.record.proofs.Passing.{handed_on}
use Rattle.answer.specs.Rules.{floor_of}
use Rattle.answer.proofs.Rows.{floor_next}
use Rattle.answer.proofs.Walks.{walk_none, walk_more, walk_stops, entry_met, flips_there, column_there}
use native.Mathlib.Omega.{arith}
use Rattle.answer.proofs.reader.pass_flips.Goals as goal

pub loop-init : goal.loop-init
unfolding floor_of
loop-init c = (search rules, refl, walk_none _ _)

pub returns-in_err-next : goal.returns-in_err-next
returns-in_err-next c =
    let s = c.args in
    let l = c.loop in
    let test = c.pass_entry.ensures ∙ flips_there s.file.now s.n s.m s.flips s.from l.here l.counter (omega arith) l.invariant.0 l.invariant.1 in
    handed_on _ _ c.from_residual.ensures.1 ∙ walk_stops _ _ _ l.counter (omega arith) l.invariant.2 (sym c.in_err-next.was ∙ test)

pub overflow_add-here : goal.overflow_add-here
overflow_add-here c = omega (arith, (entry_met _ _ _ _ _ _ _ c.loop.here (sym c.in_ok-next.was ∙ c.pass_entry.ensures)).1)

pub u16_at-requires : goal.u16_at-requires
u16_at-requires c = omega (arith, (entry_met _ _ _ _ _ _ _ c.loop.here (sym c.in_ok-next.was ∙ c.pass_entry.ensures)).1)

pub loop-preserved : goal.loop-preserved
loop-preserved c =
    let s = c.args in
    let l = c.loop in
    let passed = sym c.in_ok-next.was ∙ c.pass_entry.ensures in (
      omega (arith, (entry_met _ _ _ _ _ _ _ l.here passed).1),
      ap (λ (k : ℕ). k + 1) (c.from-floor.ensures ∙ c.u16_at.ensures ∙ column_there s.file.now s.flips s.from l.here l.counter (omega arith) l.invariant.0) ∙ floor_next _ l.counter,
      passed ∙ flips_there s.file.now s.n s.m s.flips s.from l.here l.counter (omega arith) l.invariant.0 l.invariant.1 ∙ walk_more _ _ l.counter l.invariant.2,
    )
