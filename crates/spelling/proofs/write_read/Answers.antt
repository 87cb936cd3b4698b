-- `spelling::write_read` meets its contract: each return is a row of `after_both`.
use mathlib.Core.Path.{◌≡◌, sym, ap, ◌∙◌}
use mathlib.Core.List.{List}
use Prim.Native.Nat.{ℕ}
use native.Mathlib.Omega.{arith}
use lib.ListN.{length, take, replicate, length-take, length-replicate}
use Rattle.record.specs.Bytes.{File}
use Rattle.answer.proofs.Outcomes.{laid}
use Rattle.answer.proofs.Runs.{front_is}
use Rattle.spelling.specs.inner.Spell.{text_for, groups_of, Put}
use Rattle.spelling.proofs.Writing.{other_count, no_room, wrote, tellable}
use Rattle.spelling.proofs.write_read.Goals as goal

module _ {s old new : List ℕ} {end : ℕ} (p : Put s 0 old new end) where
  -- What was put is the text,
  front : take end new ≡ s
  front = ap (take end) p.is ∙ front_is s old end (omega (arith, p.ends))

  -- as long as it was said to be.
  long : length (take end new) ≡ end
  long = let size : end ≡ length s = omega (arith, p.ends) in ap length front ∙ sym size

pub answer_in-value-requires : goal.answer_in-value-requires
answer_in-value-requires c = let l = laid _ c.requires.passes in (omega (arith, l.head_kept.few, l.head_kept.fewer), l.flips_at)

pub returns-then-count-value : goal.returns-then-count-value
returns-then-count-value c = rw c.at.ensures (other_count _ _ _ c.answer_in-value.ensures _ c.if-count-value.true)

-- ---- the text was made

pub spell_all-size-requires : goal.spell_all-size-requires
spell_all-size-requires c =
    let bytes : File c.args.answer.now = record { byte = λ i. omega (arith, c.type_inv.answer i) } in
    let enough = length-replicate {A = ℕ} 2238 0 in
    tellable _ _ _ c.answer_in-value.ensures c.if-count-value.false bytes c.requires {room = replicate 2238 0} (omega (arith, enough))

pub returns-then-out-size : goal.returns-then-out-size
returns-then-out-size c =
    let value = c.answer_in-value.result in
    let size : c.spell_all-size.result ≡ length (text_for (groups_of value) c.args.list.now value.n) = omega (arith, c.spell_all-size.ensures.ends) in
    rw c.at-then-out-size.ensures (no_room _ _ _ c.answer_in-value.ensures c.if-count-value.false _ size (omega (arith, c.if-out-size.true)))

pub slice_bounds-room-end : goal.slice_bounds-room-end
slice_bounds-room-end c = omega (arith, long c.spell_all-size.ensures, length-take c.spell_all-size.result c.spell_all-size.new.room)

pub slice_bounds-put_bytes-end : goal.slice_bounds-put_bytes-end
slice_bounds-put_bytes-end c = sym (long c.spell_all-size.ensures)

pub put_bytes-requires : goal.put_bytes-requires
put_bytes-requires c = omega (arith, long c.spell_all-size.ensures, c.if-out-size.false)

pub returns : goal.returns
returns c =
    let value = c.answer_in-value.result in
    let size : c.spell_all-size.result ≡ length (text_for (groups_of value) c.args.list.now value.n) = omega (arith, c.spell_all-size.ensures.ends) in
    let bytes = rw (front c.spell_all-size.ensures) at c.put_bytes.ensures in
    wrote _ _ _ c.answer_in-value.ensures c.if-count-value.false _ size (omega (arith, c.if-out-size.false)) bytes
