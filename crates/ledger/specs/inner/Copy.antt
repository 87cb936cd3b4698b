-- The ledger of a clerk's tally: its lists of names as sets of its taxa.
use mathlib.Core.List.{List, map, tail}
use Rattle.std.specs.Prelude.{length, take}
use Rattle.grammar.specs.Columns.{Bytes}
use Rattle.grammar.specs.Clerk as clerk
use Rattle.grammar.specs.Clerk.{Tally}
use Rattle.grammar.specs.Verdict.{Verdict, accepted, refused}
use Rattle.ledger.specs.Sets.{set_of, ones_of, zeros_of}
use Rattle.ledger.specs.inner.Ledger.{Opened, Ledger}

-- An open bracket, with the names here.
abbrev pub bracket_of : List Bytes → List Bytes → clerk.Opened → Opened
bracket_of taxa here o = record { index = o.index; before = set_of taxa (take o.names here) }

abbrev pub ledger_of : Tally → Ledger
ledger_of x = record {
  taxa = x.taxa;
  ones = map (ones_of x.taxa) x.columns;
  zeros = map (zeros_of x.taxa) x.columns;
  here = set_of x.taxa x.here;
  brackets = map (bracket_of x.taxa x.here) x.brackets;
  opened = length x.clades;
  clades = map (set_of x.taxa) (tail x.clades);
}

-- The same outcome, with the ledger.
abbrev pub copied : Verdict Tally → Verdict Ledger
copied (accepted ts x) = accepted ts (ledger_of x)
copied (refused r p) = refused r p
