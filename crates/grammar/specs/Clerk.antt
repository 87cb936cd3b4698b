-- The clerk of the limits and the columns: what is kept while reading.
use Rattle.std.specs.Prelude.{cond, ℕ, ◌+◌, ltb, length, set, drop}
use mathlib.Core.List.{List, [], ◌∷◌, ◌++◌, map, tail}
use Rattle.grammar.specs.Bytes.{left, right, comma, semicolon}
use Rattle.grammar.specs.Trees.{Token, word, sign}
use Rattle.grammar.specs.Columns.{Bytes, Column}
use Rattle.grammar.specs.Limits.{is_in, seen}
use Rattle.grammar.specs.Reader.{start}
use Rattle.grammar.specs.Faults.{Refusal, faults}
use Rattle.grammar.specs.Verdict.{Check, noted, Verdict, verdict}

-- An open bracket: its place among the tree's brackets, and how many names of the tree stand before it.
pub record Opened : Type 0 where
  pub index : ℕ
  pub names : ℕ

-- What the clerk keeps.
pub record Tally : Type 0 where
  -- Of the file: the taxa, and the columns of the trees that are finished.
  pub taxa : List Bytes
  pub columns : List Column
  -- Of the tree: its names, the open brackets, the last first, and the clade of each bracket, by opening, where it is closed.
  pub here : List Bytes
  pub brackets : List Opened
  pub clades : List (List Bytes)

-- Before the first token.
abbrev pub nothing : Tally
nothing = record { taxa = []; columns = []; here = []; brackets = []; clades = [] }

-- A name: it is a taxon, an old one or a new one, and one of the tree's names.
abbrev pub name : Tally → Bytes → Tally
name x n = record { taxa = seen x.taxa (n ∷ []); columns = x.columns; here = x.here ++ n ∷ []; brackets = x.brackets; clades = x.clades }

-- A bracket opens: its clade is not known yet.
abbrev pub opened : Tally → Tally
opened x = record {
  taxa = x.taxa;
  columns = x.columns;
  here = x.here;
  brackets = record { index = length x.clades; names = length x.here } ∷ x.brackets;
  clades = x.clades ++ [] ∷ [];
}

-- The last open bracket closes: its clade are the names that came since it opened.
abbrev pub closed : Tally → List Opened → Tally
closed x [] = x
closed x (o ∷ os) = record {
  taxa = x.taxa;
  columns = x.columns;
  here = x.here;
  brackets = os;
  clades = set x.clades o.index (drop o.names x.here);
}

-- A tree is finished: its clades are columns, but for the root's, which opened first.
abbrev pub finished : Tally → Tally
finished x = record {
  taxa = x.taxa;
  columns = x.columns ++ map (λ c. record { ones = c; tree = x.here }) (tail x.clades);
  here = [];
  brackets = [];
  clades = [];
}

-- What a token breaks: "17 name too long", "18 name twice in one tree", "19 more than 64 names or 256 columns", "20 brackets nested above 64".
-- (With a bracket, the columns are as many as those of the finished trees and the tree's brackets before it, since the root has none.)
unfoldable pub wrongs : Tally → Token → List ℕ
wrongs x (word n) =
    cond (ltb 32 (length n)) (17 ∷ [])
    (cond (is_in n x.here) (18 ∷ [])
    (cond (ltb 64 (length (seen x.taxa (n ∷ [])))) (19 ∷ []) []))
wrongs x (sign left) = cond (ltb 256 (length x.columns + length x.clades)) (19 ∷ []) [] ++ cond (ltb 63 (length x.brackets)) (20 ∷ []) []
wrongs x (sign right) = []
wrongs x (sign comma) = []
wrongs x (sign semicolon) = []

-- What is kept of each token.
unfoldable pub keep : Tally → Token → Tally
keep x (word n) = name x n
keep x (sign left) = opened x
keep x (sign right) = closed x x.brackets
keep x (sign comma) = x
keep x (sign semicolon) = finished x

-- He refuses a token by the first number that it breaks.
abbrev pub note : Tally → Token → Check Tally
note x w = noted (wrongs x w) (keep x w)

-- What reading a file comes to.
abbrev pub outcome : List ℕ → Verdict Tally
outcome s = verdict note 0 start nothing s

-- All that is wrong with it.
abbrev pub faults_of : List ℕ → List Refusal
faults_of s = faults wrongs keep 0 start nothing s
