-- What every operation answers fits the bits that it is packed into, for any file; places in a text or a name list do where it has fewer than 2 to the 55 bytes
-- (`names_near`, `trees_near`, `text_near`).
use mathlib.Core.Path.{◌≡◌, refl}
use mathlib.Core.List.{List}
use Prim.Native.Nat.{ℕ, ◌^◌, ◌≤◌, ◌<◌}
use native.Mathlib.Omega.{arith}
use lib.ListN.{length}
use Rattle.record.specs.Bytes.{File}
use Rattle.record.proofs.Refusals.{few_numbers}
use Rattle.matrix.specs.Check.{checked}
use Rattle.matrix.proofs.Places.{refusal_small}
use Rattle.matrix.proofs.Taken.{taken_legal, taken_taxa, taken_columns}
use Rattle.answer.specs.declared.Answer.{Answer}
use Rattle.answer.specs.Content.{Content}
use Rattle.answer.specs.Reading.{reading}
use Rattle.answer.specs.Writing.{writing}
use Rattle.answer.proofs.Places.{reading_small, writing_small, writing_size}
use Rattle.split.specs.Operation.{divided}
use Rattle.split.proofs.Places.{split_refused_small}
use Rattle.tree.specs.Build.{built}
use Rattle.tree.specs.Tree.{tree_given}
use Rattle.tree.specs.Flips.{flips_given}
use Rattle.tree.proofs.Places as tree
use Rattle.tree.proofs.Places.{build_small, tree_small, flips_small}
use Rattle.score.specs.Operation.{scored}
use Rattle.score.proofs.Places as scoring
use Rattle.score.proofs.Places.{score_small}
use Rattle.names.specs.Check as names
use Rattle.names.proofs.Places.{refusal_there, taken_few}
use Rattle.grammar.proofs.Faults.{refused_known}
use Rattle.newick.specs.Read as newick
use Rattle.newick.proofs.Taken.{Comes, comes}
use Rattle.newick.proofs.Taken as read
use Rattle.newick.proofs.Promises.{room_needed}
use Rattle.spelling.specs.Write.{spelled, write_numbers}
use Rattle.spelling.specs.Write as spelling
use Rattle.spelling.proofs.Places.{Small, spelled_small}
use Rattle.flipcut.specs.Packed.{told}
use Rattle.flipcut.specs.inner.Fitting.{RefusalFits, CheckFits, BuildFits, SplitFits, ReadFits, WriteFits, ScoreFits, TreesFit, TextFits}
use Rattle.std.specs.Prelude.{Result, Ok, Err}
use Rattle.record.specs.declared.refusal.Refusal.{Refusal}
use Rattle.matrix.specs.declared.Shape.{Shape}
use Rattle.search.specs.declared.Split.{Split}
use Rattle.tree.specs.declared.Built.{Built}
use Rattle.score.specs.declared.Sums.{Sums}
use Rattle.newick.specs.declared.Derived.{Derived}

pub check_fits : {file : List ℕ} → File file → CheckFits (checked file)
check_fits {file} f = go (checked file) refl
  where
    go : (a : Result Shape Refusal) → a ≡ checked file → CheckFits a
    go (Ok it) e = let fits = taken_legal f e in (omega (arith, fits.taxa_fit, taken_taxa f e), omega (arith, fits.columns_fit, taken_columns f e))
    go (Err why) e = let (near, some, small, other) = refusal_small file e in (omega arith, omega arith)

-- What the build answers is small, and so is what its halves do.
small_fits : {last : ℕ} {file : List ℕ} (a : Result Built Refusal) → last ≤ 26 → File file → tree.Small last file a → BuildFits a
small_fits (Ok it) l f small = let (short, low) = small f in (omega arith, omega arith)
small_fits (Err why) l f (near, few) = (omega arith, omega arith)

module _ {file : List ℕ} (f : File file) where
  pub build_fits : (space room : ℕ) → BuildFits (built file space room)
  build_fits space room = small_fits (built file space room) (omega arith) f (build_small file space room)

  pub tree_fits : (space room : ℕ) → BuildFits (tree_given file space room)
  tree_fits space room = small_fits (tree_given file space room) (omega arith) f (tree_small file space room)

  pub flips_fit : (tree : List ℕ) (space room : ℕ) → BuildFits (flips_given file tree space room)
  flips_fit tree space room = small_fits (flips_given file tree space room) (omega arith) f (flips_small file tree space room)

pub split_fits : (file : List ℕ) (S room : ℕ) → SplitFits (divided file S room)
split_fits file S room = go (divided file S room) refl
  where
    go : (a : Result Split Refusal) → a ≡ divided file S room → SplitFits a
    go (Ok it) e = tt
    go (Err why) e = let (near, few) = split_refused_small file S room e in (omega arith, omega arith)

pub read_fits : (file : List ℕ) (room : ℕ) → ReadFits (reading file room)
read_fits file room = go (reading file room) refl
  where
    go : (a : Result Answer Refusal) → a ≡ reading file room → ReadFits a
    go (Ok answer) e = tt
    go (Err why) e = let (near, few) = reading_small file room e in (omega arith, omega arith)

pub write_fits : (c : Content) (listed room : ℕ) → WriteFits (writing c listed room)
write_fits c listed room = go (writing c listed room) refl
  where
    go : (a : Result ℕ Refusal) → a ≡ writing c listed room → WriteFits a
    go (Ok size) e = let short = writing_size c listed room e in omega arith
    go (Err why) e = let (near, few) = writing_small c listed room e in (omega arith, omega arith)

pub score_fits : {matrix : List ℕ} → File matrix → (answer : List ℕ) → ScoreFits (scored matrix answer)
score_fits {matrix} f answer = go (scored matrix answer) (score_small f answer)
  where
    go : (a : Result Sums Refusal) → scoring.Small a → ScoreFits a
    go (Ok it) small = small
    go (Err why) (near, few) = (omega arith, omega arith)

-- ---- name lists

-- No sum is made of what their check answers, so no function of the code asks that it fits.
abbrev pub NamesFit : Result ℕ Refusal → Type 0
NamesFit (Ok count) = count < 2 ^ 63
NamesFit (Err why) = RefusalFits (told why)

module _ (file : List ℕ) (small : length file < 2 ^ 55) where
  pub names_fit : File file → NamesFit (names.checked file)
  names_fit f = go (names.checked file) refl
    where
      go : (a : Result ℕ Refusal) → a ≡ names.checked file → NamesFit a
      go (Ok count) e = let few = taken_few f e in omega arith
      go (Err why) e = let (near, some, few) = refusal_there file e in (omega arith, omega arith)

  pub names_near : (names.check_numbers file).place < 2 ^ 55
  names_near = go (names.checked file) refl
    where
      go : (a : Result ℕ Refusal) → a ≡ names.checked file → (names.returned a).place < 2 ^ 55
      go (Ok count) e = omega arith
      go (Err why) e = let (near, some, few) = refusal_there file e in omega arith

-- ---- Newick text
module _ (text : List ℕ) (room space : ℕ) where
  pub trees_fit : TreesFit (newick.read text room space)
  trees_fit = go (comes text room space)
    where
      go : {r : Result Derived Refusal} → Comes text room space r → TreesFit r
      go (read.taken ts s fit) = let (sum, matrix, rest, list) = room_needed s in (omega arith, omega arith)
      go (read.short ts s lacks) = (omega arith, omega arith)
      go (read.faulty number place f) = let (some, few) = few_numbers (newick.reason_of number) in (omega arith, omega arith)

  pub trees_near : length text < 2 ^ 55 → (newick.read_numbers text room space).place < 2 ^ 55
  trees_near small = go (comes text room space)
    where
      go : {r : Result Derived Refusal} → Comes text room space r → (newick.returned r).place < 2 ^ 55
      go (read.taken ts s fit) = omega arith
      go (read.short ts s lacks) = omega arith
      go (read.faulty number place f) = let (least, most, inside) = refused_known text f in omega arith

module _ {answer : List ℕ} (f : File answer) (list : List ℕ) (room : ℕ) where
  pub text_fits : TextFits (spelled answer list room)
  text_fits = go (spelled answer list room) (spelled_small f list room)
    where
      go : (a : Result ℕ Refusal) → Small list a → TextFits a
      go (Ok size) small = omega arith
      go (Err why) (near, some, few) = (omega arith, omega arith)

  pub text_near : length list < 2 ^ 55 → (write_numbers answer list room).place < 2 ^ 55
  text_near short = go (spelled answer list room) (spelled_small f list room)
    where
      go : (a : Result ℕ Refusal) → Small list a → (spelling.returned a).place < 2 ^ 55
      go (Ok size) small = omega arith
      go (Err why) (near, some, few) = omega arith
