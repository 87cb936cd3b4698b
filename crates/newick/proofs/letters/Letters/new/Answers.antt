-- `newick::letters::Letters::new` meets its contract. The invariant: the table tells each byte so far.
use native.Mathlib.Omega.{arith}
use mathlib.Core.Path.{◌≡◌, ◌∙◌}
use mathlib.Core.Bool.{false}
use lib.ListN.{get_or, set, length-set}
use lib.Seq.{get_or-set_same, get_or-set_other}
use Rattle.grammar.specs.Bytes.{is_letter}
use Rattle.newick.proofs.Names.{one_further}
use Rattle.newick.proofs.letters.Letters.new.Goals as goal

pub loop-b-preserved : goal.loop-b-preserved
loop-b-preserved c =
    let l = c.loop-b in (
      length-set l.letter-items l.b _ ∙ l.invariant.0,
      one_further (λ j. get_or (set l.letter-items l.b c.is_letter.result) j false ≡ is_letter j)
          (λ j b. get_or-set_other l.letter-items l.b j _ false (λ e. absurd (omega arith)) ∙ l.invariant.1 j b)
          (get_or-set_same l.letter-items l.b _ false (omega arith) ∙ c.is_letter.ensures),
    )
