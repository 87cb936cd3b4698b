-- `record::writer::put_bytes` meets its contract. The invariant: the first bytes are put, and each goes right after them.
use borrow.Author.Rules.{rules}
use mathlib.Core.Path.{◌≡◌, refl, ap, ◌∙◌}
use mathlib.Core.List.{List, [], ◌∷◌}
use Prim.Native.Nat.{ℕ, ◌+◌, ◌≤◌, ◌<◌}
use native.Mathlib.Numerals.{add-one}
use native.Mathlib.Omega.{arith}
use lib.ListN.{length, get_or, take, set}
use lib.Seq.{length-take-le, take-suc, take_all}
use Rattle.record.specs.Bytes.{over}
use Rattle.record.proofs.Over.{nothing, length_over, one, onto}
use Rattle.record.proofs.writer.put_bytes.Goals as goal

byte_next : (bytes xs : List ℕ) (i : ℕ) → i < length bytes → length bytes ≤ length xs → set (over (take i bytes) 0 xs) i (get_or bytes i 0) ≡ over (take (i + 1) bytes) 0 xs
byte_next bytes xs i l m =
    let r = take i bytes in
    let v = get_or bytes i 0 in
    let k = length-take-le i bytes (omega arith) in
    let room = length_over r 0 xs (omega arith) in
    one v i (over r 0 xs) (omega arith) ∙ onto r (v ∷ []) 0 i xs (omega arith) (omega arith) ∙ rw (add-one i, take-suc bytes i 0 l)

pub loop-i-init : goal.loop-i-init
loop-i-init c = (search rules, refl, nothing 0 _)

pub loop-i-preserved : goal.loop-i-preserved
loop-i-preserved c =
    let l = c.loop-i in
    let a = c.args in
    (search rules, search rules, ap (λ (o : List ℕ). set o l.i (get_or a.bytes.now l.i 0)) l.invariant.2 ∙ byte_next a.bytes.now a.out.now l.i (omega arith) (omega arith))

pub returns : goal.returns
returns c =
    let l = c.loop-i in
    let a = c.args in
    l.invariant.2 ∙ ap (λ (r : List ℕ). over r 0 a.out.now) (take_all l.i a.bytes.now (omega arith))
