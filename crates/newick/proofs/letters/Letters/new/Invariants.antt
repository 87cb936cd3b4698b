-- `newick::letters::Letters::new` meets its contract. The invariant: the table tells each byte so far.
use mathlib.Core.Path.{◌≡◌}
use mathlib.Core.Bool.{false}
use Prim.Native.Nat.{ℕ, ◌<◌}
use lib.ListN.{length, get_or}
use Rattle.grammar.specs.Bytes.{is_letter}
use Rattle.newick.proofs.letters.Letters.new.Given as goal

abbrev pub invariant-loop-b : goal.invariant-loop-b
invariant-loop-b l = (length l.letter-items ≡ 256) × ((j : ℕ) → j < l.b → get_or l.letter-items j false ≡ is_letter j)
