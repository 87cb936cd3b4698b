-- `matrix::writer::put_columns` meets its contract. The invariant: the columns written so far stand at the front.
use borrow.Author.Rules.{rules}
use native.Mathlib.Omega.{arith}
use mathlib.Core.Path.{◌≡◌, refl}
use mathlib.Core.List.{List, ◌++◌}
use Prim.Native.Nat.{ℕ, ◌+◌, ◌<◌}
use lib.ListN.{length, get_or}
use Rattle.std.proofs.lemmas.List.{length_push}
use Rattle.std.proofs.lemmas.Slice.Zip.{zip_turn}
use Rattle.record.proofs.Over.{nothing, next}
use Rattle.matrix.specs.Matrix.{column_bytes, columns_bytes, weighing_one}
use Rattle.matrix.proofs.Writing.{weight_one, first_columns, length_first_bytes, first_next}
use Rattle.matrix.proofs.writer.put_columns.Goals as goal

pub loop-one_set-init : goal.loop-one_set-init
unfolding columns_bytes weighing_one
loop-one_set-init c = (refl, refl, nothing 0 _)

-- The column that stands after the first `met` ones.
column_after : (ones zeros : List ℕ) (met one_set zero_set : ℕ) → met < length ones → met < length zeros → one_set ≡ get_or ones met 0 → zero_set ≡ get_or zeros met 0
    → columns_bytes (first_columns ones zeros (met + 1)) ≡ columns_bytes (first_columns ones zeros met) ++ column_bytes (weight_one one_set zero_set)
column_after ones zeros met one_set zero_set l h o z = rw (o, z) (first_next ones zeros met l h)

pub loop-one_set-preserved : goal.loop-one_set-preserved
loop-one_set-preserved c =
    let l = c.loop-one_set in
    let a = c.args in
    let met = length l.yielded in
    let (more, more', one_set, zero_set) = zip_turn a.ones.now a.zeros.now l.yielded _ _ c.next.new.self _ (cc) (cc) l.yielded_by (c.in-Some.field-0-0, c.in-Some.field-0-1) c.in-Some.is c.next.ensures.steps in
    let far = length_first_bytes a.ones.now a.zeros.now met (omega arith) (omega arith) in
    let written = next _ _ _ _ _ l.invariant.2 c.put_column.ensures (omega arith) (omega arith) in
    rw length_push (omega arith, search rules, rw (column_after a.ones.now a.zeros.now met _ _ more more' (one_set 0) (zero_set 0)) written)
