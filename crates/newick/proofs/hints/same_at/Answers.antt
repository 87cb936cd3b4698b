-- `newick::hints::same_at` meets its contract.
use borrow.Author.Rules.{rules}
use borrow.Author.Tests.{eqb-true}
use native.Mathlib.Omega.{arith}
use mathlib.Core.Path.{◌≡◌, sym, ◌∙◌}
use Rattle.record.specs.Bytes.{File}
use Rattle.newick.proofs.Comparing.{short_same, long_same}
use Rattle.newick.proofs.hints.same_at.Goals as goal

pub returns-then-size-lt-WORD : goal.returns-then-size-lt-WORD
returns-then-size-lt-WORD c e =
    let bytes : File c.args.text.now =
    record { byte = λ i. omega (arith, c.type_inv.text i) } in
    short_same (bytes) _ _ _ c.requires.0 c.requires.1 (search rules) (sym c.short_word.ensures ∙ eqb-true _ _ e ∙ c.short_word-then-size-lt-WORD.ensures)

pub returns-else-size-lt-WORD : goal.returns-else-size-lt-WORD
returns-else-size-lt-WORD c e =
    let bytes : File c.args.text.now =
    record { byte = λ i. omega (arith, c.type_inv.text i) } in
    let same : c.words_at.result ≡ c.words_at-else-size-lt-WORD.result = search rules in
    long_same (bytes) _ _ _ c.requires.0 c.requires.1 (search rules)
    (sym c.words_at.ensures ∙ same ∙ c.words_at-else-size-lt-WORD.ensures)
