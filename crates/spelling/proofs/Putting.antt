-- Texts put into lent room one after the other: what is left to put comes to what all comes to.
use mathlib.Core.Path.{◌≡◌, refl, sym, ap, ◌∙◌}
use mathlib.Core.List.{List, [], ◌∷◌, ◌++◌, append_assoc}
use Prim.Native.Nat.{ℕ, ◌+◌, ◌≤◌, ◌<◌}
use native.Mathlib.Omega.{arith}
use lib.ListN.{length, set, length-append, length-set}
use Rattle.record.specs.Bytes.{over}
use Rattle.record.proofs.Over.{nothing, length_over, one, onto}
use Rattle.spelling.specs.inner.Spell.{Put}

-- The whole is to stand at a place of `old`, and the rest at the end of what was put.
pub record Left (whole : List ℕ) (at : ℕ) (old rest : List ℕ) (end : ℕ) (new : List ℕ) : Type 0 where
  pub long : length new ≡ length old
  pub same : over rest end new ≡ over whole at old
  pub ends : end + length rest ≡ at + length whole

pub left_start : (s : List ℕ) (at : ℕ) (old : List ℕ) → Left s at old s at old
left_start s at old = record { long = refl; same = refl; ends = refl }

-- A byte right after a text.
pub then_byte : (s : List ℕ) (v at end : ℕ) {old new : List ℕ} → Put s at old new end → end < length old → set new end v ≡ over (s ++ v ∷ []) at old
then_byte s v at end {old} {new} p l =
    let e = p.ends in
    let room = length_over s at old (omega arith) in
    rw p.is (one v end (over s at old) (omega arith) ∙ onto s (v ∷ []) at end old (omega arith) (sym e))

-- A byte right before one.
pub after_byte : (v : ℕ) (s : List ℕ) (at : ℕ) (old : List ℕ) {new : List ℕ} {end : ℕ}
    → Put s (at + 1) (set old at v) new end → at < length old → Put (v ∷ s) at old new end
after_byte v s at old p l =
    record { is = p.is ∙ ap (over s (at + 1)) (one v at old l) ∙ onto (v ∷ []) s at (at + 1) old (omega arith) refl; ends = omega (arith, p.ends) }

module _ {whole : List ℕ} {at : ℕ} {old : List ℕ} (fits : at + length whole ≤ length old) where
  -- The next text and the byte after it have room.
  pub left_room : (s : List ℕ) (v : ℕ) (more : List ℕ) {rest : List ℕ} {end : ℕ} {new : List ℕ}
      → Left whole at old rest end new → rest ≡ s ++ v ∷ more → end + length s < length new
  left_room s v more x e = omega (arith, ap length e, length-append s (v ∷ more), x.ends, x.long)

  pub left_next : (s : List ℕ) (v : ℕ) (more : List ℕ) {rest : List ℕ} {end : ℕ} {new : List ℕ} → Left whole at old rest end new → rest ≡ s ++ v ∷ more
      → {last : ℕ} {now : List ℕ} → Put s end new now last → Left whole at old more (last + 1) (set now last v)
  left_next s v more {rest} {end} {new} x e {last} {now} p =
      let l = left_room s v more x e in
      let n = length-append s (v ∷ more) in
      let k = length-append s (v ∷ []) in
      record {
        long = length-set now last v ∙ ap length p.is ∙ length_over s end new (omega arith) ∙ x.long;
        same = ap (over more (last + 1)) (then_byte s v end last p (omega (arith, p.ends)))
            ∙ onto (s ++ v ∷ []) more end (last + 1) new (omega arith) (omega (arith, p.ends))
            ∙ ap (λ r. over r end new) (append_assoc s (v ∷ []) more ∙ sym e) ∙ x.same;
        ends = omega (arith, p.ends, x.ends, ap length e);
      }

  pub left_end : {rest : List ℕ} {end : ℕ} {new : List ℕ} → Left whole at old rest end new → rest ≡ [] → Put whole at old new end
  left_end {rest} {end} {new} x e = record {
    is = nothing end new ∙ ap (λ r. over r end new) (sym e) ∙ x.same;
    ends = omega (arith, x.ends, ap length e);
  }
