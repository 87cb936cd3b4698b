-- `answer::read` meets its contract: the file's tests and the room decide, and only then is the list filled.
use mathlib.Core.Path.{sym, ◌∙◌}
use Rattle.record.proofs.Passing.{handed_on}
use Rattle.answer.proofs.Outcomes.{file_refused, no_room, taken, laid}
use native.Mathlib.Omega.{arith}
use Rattle.answer.proofs.read.Goals as goal

pub returns-in_err-pass_file : goal.returns-in_err-pass_file
returns-in_err-pass_file c = rw (handed_on _ _ c.from_residual.ensures.1) (file_refused _ _ _ _ (sym c.in_err-pass_file.was ∙ c.pass_file.ensures))

pub u16_at-flips-requires : goal.u16_at-flips-requires
u16_at-flips-requires c = omega (arith, laid _ (sym c.in_ok-pass_file.was ∙ c.pass_file.ensures))

pub returns-then-room-flips : goal.returns-then-room-flips
returns-then-room-flips c = rw c.at.ensures (no_room _ _ _ _ (sym c.in_ok-pass_file.was ∙ c.pass_file.ensures) (omega (arith, c.min.ensures, c.min-room.ensures, c.u16_at-flips.ensures, c.if-room-flips.true)))

pub u16_at-groups-requires : goal.u16_at-groups-requires
u16_at-groups-requires c = omega (arith, laid _ (sym c.in_ok-pass_file.was ∙ c.pass_file.ensures))

pub fill-requires-clause-flips_in_bounds : goal.fill-requires-clause-flips_in_bounds
fill-requires-clause-flips_in_bounds c = omega (arith, (laid _ (sym c.in_ok-pass_file.was ∙ c.pass_file.ensures)).end_at, c.u16_at-groups.ensures, c.u16_at-flips.ensures)

pub answer_in-requires : goal.answer_in-requires
answer_in-requires c =
    let l = laid _ (sym c.in_ok-pass_file.was ∙ c.pass_file.ensures) in
    (omega (arith, l.head_kept.few, l.head_kept.fewer), l.flips_at)

pub returns : goal.returns
returns c =
    let filled = rw (c.u16_at-groups.ensures, c.u16_at-flips.ensures) at c.fill.ensures in
    taken _ _ _ _ (sym c.in_ok-pass_file.was ∙ c.pass_file.ensures) (omega (arith, c.min.ensures, c.min-room.ensures, c.u16_at-flips.ensures, c.if-room-flips.false)) c.answer_in.ensures filled.columns_after filled.raised_after filled.lowered_after
