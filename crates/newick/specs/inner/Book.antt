-- What the reader keeps in its lists, as the ledger that they hold, and where it stands.
use Rattle.std.specs.Prelude.{◌≡◌, Bool, true, false, ◌||◌, List, [], ◌∷◌, ℕ, zero, suc, ◌+◌, ◌-◌, ◌^◌, ◌≤◌, ◌<◌, eqb, length, get_or, set, take, drop, Result, Ok, Err}
use Rattle.taxa.specs.Sets.{◌∪◌}
use Rattle.record.specs.declared.refusal.Refusal.{Refusal}
use Rattle.record.specs.Refusals.{refusal_number}
use Rattle.grammar.specs.Bytes.{is_letter, byte, right, comma, semicolon}
use Rattle.grammar.specs.Trees.{Trees}
use Rattle.grammar.specs.Limits.{number}
use Rattle.grammar.specs.Verdict.{accepted, refused}
use Rattle.grammar.specs.inner.Shape.{Phase, beginning, ended}
use Rattle.grammar.specs.inner.Standing.{Run, piece, Standing}
use Rattle.ledger.specs.inner.Ledger.{Ledger, Opened, unwritten, note, outcome}
use Rattle.newick.specs.declared.Book.{Book}
use Rattle.newick.specs.declared.Reading.{Reading}
use Rattle.newick.specs.inner.Names.{Placed, names_in}

-- The first d open brackets, the last first.
unfoldable pub brackets_in : List ℕ → List ℕ → ℕ → List Opened
brackets_in index before zero = []
brackets_in index before (suc d) = record { index = get_or index d 0; before = get_or before d 0 } ∷ brackets_in index before d

-- For each of these, the last first: whether a subtree in it is finished, with a comma behind it.
unfoldable pub filled_in : List Bool → ℕ → List Bool
filled_in filled zero = []
filled_in filled (suc d) = get_or filled d false ∷ filled_in filled d

-- The ledger that the lists hold. The clades of the tree that is read stand after the columns of those that are finished.
abbrev pub ledger_in : List ℕ → Book → Reading → Ledger
ledger_in text k r = record {
  taxa = names_in text k.starts k.sizes r.taxa;
  ones = take r.columns k.ones;
  zeros = take r.columns k.zeros;
  here = r.here;
  brackets = brackets_in k.index k.before r.depth;
  opened = r.opened;
  clades = take (r.opened - 1) (drop r.columns k.ones);
}

-- Room for 64 open brackets and 256 columns, the tree's clades among them; and each open bracket is one that has opened.
pub record Bracketed (k : Book) (r : Reading) : Type 0 where
  pub ones_room : length k.ones ≡ 256
  pub index_room : length k.index ≡ 64
  pub before_room : length k.before ≡ 64
  pub filled_room : length k.filled ≡ 64
  pub nested : r.depth ≤ 64
  pub columns_fit : r.columns ≤ 256
  pub clades_fit : r.columns + r.opened ≤ 257
  pub has_opened : (j : ℕ) → j < r.depth → get_or k.index j 0 < r.opened

-- A subtree has ended, or must begin.
abbrev pub phase_of : Bool → Phase
phase_of true = ended
phase_of false = beginning

-- Between tokens: what is kept is the ledger of what was read, and what is left comes to what the whole text does.
pub record Holds (text : List ℕ) (k : Book) (r : Reading) : Type 0 where
  pub placed : Placed text k.starts k.sizes r.taxa
  pub bracketed : Bracketed k r
  pub zeros_room : length k.zeros ≡ 256
  pub stands : Standing note unwritten text r.at (phase_of r.ended) r.finished (filled_in k.filled r.depth) (ledger_in text k r)

-- The same reading at another place.
abbrev pub standing : Reading → ℕ → Reading
standing r place = record r { at = place }

-- Behind a name, taxon i, that ends at a place; there are so many taxa then.
abbrev pub with_name : Reading → ℕ → ℕ → ℕ → Reading
with_name r end taxa i = record r { at = end; ended = true; taxa = taxa; here = r.here ∪ 2 ^ i }

-- The 1-sets with the clade of a bracket of the tree, by opening; the first, the root's, has no place.
unfoldable pub clade_put : List ℕ → ℕ → ℕ → ℕ → List ℕ
clade_put ones columns zero clade = ones
clade_put ones columns (suc i) clade = set ones (columns + i) clade

-- A sign at a place of the text, and the next place.
pub record SignAt (text : List ℕ) (at sign next : ℕ) : Type 0 where
  pub inside : at < length text
  pub is : get_or text at 0 ≡ sign
  pub after : at + 1 ≡ next

-- Whether a byte is a sign that may stand behind a subtree.
abbrev pub may_follow : ℕ → Bool
may_follow b = eqb b (byte right) || eqb b (byte comma) || eqb b (byte semicolon)

-- A name of the file, taxon i, from where the reader stands to a place.
pub record NameTo (text : List ℕ) (k : Book) (r : Reading) (end i : ℕ) : Type 0 where
  pub run : Run is_letter text r.at end
  pub some : r.at < end
  pub short : end - r.at ≤ 32
  pub known : i < r.taxa
  pub numbered : i ≡ number (names_in text k.starts k.sizes r.taxa) (piece text r.at (end - r.at))

-- A token read: the reader stands further on, or the text is refused.
abbrev pub Leads : List ℕ → Book → ℕ → Result Reading Refusal → Type 0
Leads text k from (Ok r) = Holds text k r × (from < r.at) × (r.at ≤ length text)
Leads text k from (Err why) = outcome text ≡ refused (refusal_number why.reason) why.place

-- Room for 64 names, 256 columns and 64 open brackets.
pub record Roomy (k : Book) : Type 0 where
  pub starts_room : length k.starts ≡ 64
  pub sizes_room : length k.sizes ≡ 64
  pub ones_room : length k.ones ≡ 256
  pub zeros_room : length k.zeros ≡ 256
  pub index_room : length k.index ≡ 64
  pub before_room : length k.before ≡ 64
  pub filled_room : length k.filled ≡ 64

-- The text read to its end: it is accepted with the ledger that the lists hold, or refused.
abbrev pub Ends : List ℕ → Book → Result Reading Refusal → Type 0
Ends text k (Ok r) = Holds text k r × (ts : Trees) × (outcome text ≡ accepted ts (ledger_in text k r))
Ends text k (Err why) = outcome text ≡ refused (refusal_number why.reason) why.place
