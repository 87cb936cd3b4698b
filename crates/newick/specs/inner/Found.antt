-- What the reader has found at the end of a text that is accepted.
use Rattle.std.specs.Prelude.{◌≡◌, List, map, ℕ, ◌≤◌, length, take}
use Rattle.grammar.specs.Trees.{Trees}
use Rattle.grammar.specs.Verdict as verdict
use Rattle.grammar.specs.Clerk.{Tally, outcome}
use Rattle.ledger.specs.Sets.{ones_of, zeros_of}
use Rattle.newick.specs.declared.Book.{Book}
use Rattle.newick.specs.declared.Reading.{Reading}
use Rattle.newick.specs.inner.Names.{Placed, names_in}

-- The names and the columns in its lists, as sets of taxa: those of the text.
pub record Found (text : List ℕ) (k : Book) (r : Reading) : Type 0 where
  pub trees : Trees
  pub tally : Tally
  pub accepted : outcome text ≡ verdict.accepted trees tally
  pub placed : Placed text k.starts k.sizes r.taxa
  pub names : names_in text k.starts k.sizes r.taxa ≡ tally.taxa
  pub ones_room : length k.ones ≡ 256
  pub zeros_room : length k.zeros ≡ 256
  pub columns_fit : r.columns ≤ 256
  pub ones_found : take r.columns k.ones ≡ map (ones_of tally.taxa) tally.columns
  pub zeros_found : take r.columns k.zeros ≡ map (zeros_of tally.taxa) tally.columns
