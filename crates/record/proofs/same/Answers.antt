-- `record::same` meets its contract: lengths that differ tell, then the first eight bytes, and then what `==` of slices tells of the rest.
use mathlib.Core.Path.{sym, ◌∙◌}
use native.Mathlib.Omega.{arith}
use Rattle.std.proofs.lemmas.List.{take_rest}
use Rattle.record.specs.Bytes.{File}
use Rattle.record.proofs.Equal.{equal_pairs, equal_words, words_differ, other_size}
use Rattle.record.proofs.same.Goals as goal

pub returns-then-one-other : goal.returns-then-one-other
returns-then-one-other c = sym (other_size _ _ (omega arith))

pub returns-then-u64_at : goal.returns-then-u64_at
returns-then-u64_at c = sym (words_differ _ _ (λ e. c.if-u64_at.true (c.u64_at.ensures ∙ e ∙ sym c.u64_at-2.ensures)))

pub returns : goal.returns
returns c =
    let args = c.args in
    let one : File args.one.now = record { byte = λ i. omega (arith, c.type_inv.one i) } in
    let other : File args.other.now = record { byte = λ i. omega (arith, c.type_inv.other i) } in
    let rest = rw (take_rest args.one.now 8, take_rest args.other.now 8) at c.eq.ensures in
    rest ∙ equal_pairs _ _ ∙ sym (equal_words _ _ one other (omega arith) (omega arith) (sym c.u64_at.ensures ∙ c.if-u64_at.false ∙ c.u64_at-2.ensures))
