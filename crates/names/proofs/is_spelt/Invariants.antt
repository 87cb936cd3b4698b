-- `names::is_spelt` meets its contract. The invariant: what is left to test comes to what all comes to.
use mathlib.Core.Path.{◌≡◌}
use lib.ListN.{drop}
use Rattle.names.specs.Check.{spelt}
use Rattle.names.proofs.is_spelt.Given as goal

abbrev pub invariant-loop-byte : goal.invariant-loop-byte
invariant-loop-byte l = spelt l.name ≡ spelt (drop l.byte-index l.name)
