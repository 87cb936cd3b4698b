-- The clerk's book as a program keeps it: names are taxa, lists of names are sets of taxa.
use Rattle.std.specs.Prelude.{Bool, cond, List, [], ◌∷◌, ◌++◌, map, ℕ, suc, ◌+◌, ◌-◌, ◌^◌, ltb, eqb, length, set}
use Rattle.taxa.specs.Sets.{◌∪◌, ◌∖◌, within}
use Rattle.grammar.specs.Bytes.{left, right, comma, semicolon}
use Rattle.grammar.specs.Trees.{Token, word, sign}
use Rattle.grammar.specs.Columns.{Bytes}
use Rattle.grammar.specs.Limits.{number}
use Rattle.grammar.specs.Reader.{start}
use Rattle.grammar.specs.Verdict.{Check, noted, Verdict, verdict}

-- An open bracket: its place among the tree's brackets, and the tree's names before it.
pub record Opened : Type 0 where
  pub index : ℕ
  pub before : ℕ

pub record Ledger : Type 0 where
  -- Of the file: the taxa, and the 1-sets and the 0-sets of the columns of the trees that are finished.
  pub taxa : List Bytes
  pub ones : List ℕ
  pub zeros : List ℕ
  -- Of the tree: its names, the open brackets, the last first, how many brackets have opened, and the clades of these but the first, by opening,
  -- 0 while they are open.
  pub here : ℕ
  pub brackets : List Opened
  pub opened : ℕ
  pub clades : List ℕ

abbrev pub unwritten : Ledger
unwritten = record { taxa = []; ones = []; zeros = []; here = 0; brackets = []; opened = 0; clades = [] }

-- The name is that of a taxon.
abbrev pub known : Ledger → Bytes → Bool
known l n = ltb (number l.taxa n) (length l.taxa)

-- A name (a new one gets the next number).
abbrev pub entering : Ledger → Bytes → Ledger
entering l n = record {
  taxa = cond (known l n) l.taxa (l.taxa ++ n ∷ []);
  ones = l.ones;
  zeros = l.zeros;
  here = l.here ∪ 2 ^ number l.taxa n;
  brackets = l.brackets;
  opened = l.opened;
  clades = l.clades;
}

-- A bracket opens. The root, which opens first, has no clade here.
abbrev pub opening : Ledger → Ledger
opening l = record {
  taxa = l.taxa;
  ones = l.ones;
  zeros = l.zeros;
  here = l.here;
  brackets = record { index = l.opened; before = l.here } ∷ l.brackets;
  opened = suc l.opened;
  clades = cond (eqb l.opened 0) l.clades (l.clades ++ 0 ∷ []);
}

-- The last open bracket closes: its clade are the names that came since it opened.
abbrev pub closing : Ledger → List Opened → Ledger
closing l [] = l
closing l (o ∷ os) = record {
  taxa = l.taxa;
  ones = l.ones;
  zeros = l.zeros;
  here = l.here;
  brackets = os;
  opened = l.opened;
  clades = cond (eqb o.index 0) l.clades (set l.clades (o.index - 1) (l.here ∖ o.before));
}

-- The tree ends, and its clades are columns.
abbrev pub finishing : Ledger → Ledger
finishing l = record {
  taxa = l.taxa;
  ones = l.ones ++ l.clades;
  zeros = l.zeros ++ map (λ c. l.here ∖ c) l.clades;
  here = 0;
  brackets = [];
  opened = 0;
  clades = [];
}

-- What a token breaks: "17 name too long", "18 name twice in one tree", "19 more than 64 names or 256 columns", "20 brackets nested above 64".
unfoldable pub wrongs : Ledger → Token → List ℕ
wrongs l (word n) =
    cond (ltb 32 (length n)) (17 ∷ [])
    (cond (known l n) (cond (within (2 ^ number l.taxa n) l.here) (18 ∷ []) [])
    (cond (ltb 63 (length l.taxa)) (19 ∷ []) []))
wrongs l (sign left) = cond (ltb 256 (length l.ones + l.opened)) (19 ∷ []) [] ++ cond (ltb 63 (length l.brackets)) (20 ∷ []) []
wrongs l (sign right) = []
wrongs l (sign comma) = []
wrongs l (sign semicolon) = []

unfoldable pub keep : Ledger → Token → Ledger
keep l (word n) = entering l n
keep l (sign left) = opening l
keep l (sign right) = closing l l.brackets
keep l (sign comma) = l
keep l (sign semicolon) = finishing l

-- A token is refused by the first number that it breaks.
abbrev pub note : Ledger → Token → Check Ledger
note l w = noted (wrongs l w) (keep l w)

-- What reading a file comes to.
abbrev pub outcome : List ℕ → Verdict Ledger
outcome s = verdict note 0 start unwritten s
