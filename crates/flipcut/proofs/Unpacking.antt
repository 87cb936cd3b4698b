-- What C takes apart are the numbers that document 01 has the operation return: of the check (`check_unpacks`), the build (`build_unpacks`) and its halves
-- (`tree_unpacks`, `flips_unpack`), the split (`split_unpacks`), reading (`read_unpacks`), writing (`write_unpacks`), the score (`score_unpacks`), the check of
-- a name list (`names_unpacks`), reading source trees (`trees_unpacks`) and writing as Newick (`text_unpacks`); of these three where the text or the list is
-- below 2 to the 55 bytes.
use mathlib.Core.Path.{◌≡◌, ◌∙◌, ap}
use mathlib.Core.List.{List}
use Prim.Native.Nat.{ℕ, ◌^◌, ◌<◌}
use lib.IntN.{ℤ}
use lib.ListN.{length}
use Rattle.record.specs.Bytes.{File}
use Rattle.matrix.specs.Check.{checked, check_numbers}
use Rattle.answer.specs.declared.Answer.{Answer}
use Rattle.answer.specs.Content.{content_in}
use Rattle.answer.specs.Reading.{read_tests, reading, read_numbers}
use Rattle.answer.specs.Writing.{write_numbers}
use Rattle.entries.specs.declared.Flip.{Flip}
use Rattle.entries.specs.Entries.{entry_content}
use Rattle.split.specs.Operation.{split_numbers}
use Rattle.tree.specs.Build.{build_numbers}
use Rattle.tree.specs.Tree.{tree_numbers}
use Rattle.tree.specs.Flips.{flips_numbers}
use Rattle.score.specs.Operation.{scored, score_numbers}
use Rattle.names.specs.Check as names
use Rattle.newick.specs.Read as newick
use Rattle.spelling.specs.Write as spelling
use Rattle.flipcut.specs.inner.Fitting.{TreesFit, TextFits}
use Rattle.flipcut.specs.Packed.{packed, packed_score, BuildsPacked, GivesTreePacked, GivesFlipsPacked, SplitsPacked, ReadsPacked, WritesPacked}
use Rattle.flipcut.specs.Packed.{packed_names, ReadsNewickPacked, WritesNewickPacked}
use Rattle.flipcut.specs.Unpacked.{unpacked, unpacked_build, unpacked_read, unpacked_score, unpacked_split, unpacked_write}
use Rattle.flipcut.specs.Unpacked.{number_in, unpacked_names, unpacked_text, unpacked_trees}
use Rattle.flipcut.proofs.Fitting.{check_fits, build_fits, tree_fits, flips_fit, split_fits, read_fits, write_fits, score_fits}
use Rattle.flipcut.proofs.Fitting.{names_fit, names_near, trees_fit, trees_near, text_fits, text_near}
use Rattle.flipcut.proofs.Values.{read_long}
use Rattle.flipcut.proofs.Bits.{check_returns, build_returns, split_returns, read_returns, write_returns, score_returns}
use Rattle.flipcut.proofs.Bits.{names_returns, trees_returns, trees_number, text_returns, text_number}

pub check_unpacks : {file : List ℕ} → File file → unpacked (packed (checked file)) ≡ check_numbers file
check_unpacks {file} f = check_returns (checked file) (check_fits f)

pub build_unpacks : {file : List ℕ} → File file → {ws ws' : List ℤ} {out out' : List ℕ} {v : ℕ} → BuildsPacked file ws out v ws' out'
    → unpacked_build v ≡ build_numbers file (length ws) (length out)
build_unpacks f p = ap unpacked_build p.packs ∙ (build_returns p.answer (rw p.promised.answers (build_fits f _ _)) ∙ p.promised.numbers)

pub tree_unpacks : {file : List ℕ} → File file → {ws ws' : List ℤ} {out out' : List ℕ} {v : ℕ} → GivesTreePacked file ws out v ws' out'
    → unpacked_build v ≡ tree_numbers file (length ws) (length out)
tree_unpacks f p = ap unpacked_build p.packs ∙ (build_returns p.answer (rw p.promised.answers (tree_fits f _ _)) ∙ p.promised.numbers)

pub flips_unpack : {file tree : List ℕ} → File file → {ws ws' : List ℤ} {out out' : List ℕ} {v : ℕ} → GivesFlipsPacked file tree ws out v ws' out'
    → unpacked_build v ≡ flips_numbers file tree (length ws) (length out)
flips_unpack f p = ap unpacked_build p.packs ∙ (build_returns p.answer (rw p.promised.answers (flips_fit f _ _ _)) ∙ p.promised.numbers)

pub split_unpacks : {file : List ℕ} {S : ℕ} {ws ws' : List ℤ} {result result' : List ℕ} {v : ℕ} → length result ≡ 3
    → SplitsPacked file S ws result v ws' result' → unpacked_split v result' ≡ split_numbers file S (length ws)
split_unpacks {file} {S} {result = before} three p =
    let (splits, after) = p.promised in
    rw (p.packs, after) (split_returns p.answer (rw splits.answers (split_fits file S _)) before three) ∙ splits.numbers

pub read_unpacks : {file : List ℕ} {list list' : List Flip} {result result' : List ℕ} {v : ℕ} → length result ≡ 131
    → ReadsPacked file list result v list' result' → unpacked_read v result' ≡ read_numbers file (length list)
unfolding reading
read_unpacks {file} {list} {result = before} long p =
    let (reads, after) = p.promised in
    let room = length list in
    rw (p.packs, after, reads.answers) (read_returns (content_in file) (read_tests file room) before long (read_long file room) (read_fits file room))

pub write_unpacks : (answer : Answer) (list : List Flip) {out out' : List ℕ} {v : ℕ} → WritesPacked answer list out v out'
    → unpacked_write v ≡ write_numbers (entry_content answer list) (length list) (length out)
write_unpacks answer list p = ap unpacked_write p.packs ∙ (write_returns p.answer (rw p.promised.answers (write_fits _ _ _)) ∙ p.promised.numbers)

pub score_unpacks : {matrix : List ℕ} (answer : List ℕ) → File matrix → unpacked_score (packed_score (scored matrix answer)) ≡ score_numbers matrix answer
score_unpacks {matrix} answer f = score_returns (scored matrix answer) (score_fits f answer)

-- ---- texts and name lists below 2 to the 55 bytes

pub names_unpacks : {file : List ℕ} → File file → length file < 2 ^ 55 → unpacked_names (packed_names (names.checked file)) ≡ names.check_numbers file
names_unpacks {file} f small = names_returns (names.checked file) (names_fit file small f) (names_near file small)

module _ {text matrix list matrix' list' : List ℕ} {v : ℕ} (p : ReadsNewickPacked text matrix list v matrix' list') where
  trees : TreesFit p.answer
  trees = rw p.promised.answers (trees_fit text (length matrix) (length list))

  pub trees_unpacks : length text < 2 ^ 55 → unpacked_trees v ≡ newick.read_numbers text (length matrix) (length list)
  trees_unpacks small =
      let near : (newick.returned p.answer).place < 2 ^ 55 = rw p.promised.numbers (trees_near text (length matrix) (length list) small) in
      ap unpacked_trees p.packs ∙ trees_returns p.answer trees near ∙ p.promised.numbers

  -- The number, however long the text is.
  pub trees_number_unpacks : number_in v ≡ (newick.read_numbers text (length matrix) (length list)).number
  trees_number_unpacks = ap number_in p.packs ∙ trees_number p.answer trees ∙ ap (λ (x : newick.Returned). x.number) p.promised.numbers

module _ {answer list out out' : List ℕ} {v : ℕ} (f : File answer) (p : WritesNewickPacked answer list out v out') where
  text : TextFits p.answer
  text = rw p.promised.answers (text_fits f list (length out))

  pub text_unpacks : length list < 2 ^ 55 → unpacked_text v ≡ spelling.write_numbers answer list (length out)
  text_unpacks small =
      let near : (spelling.returned p.answer).place < 2 ^ 55 = rw p.promised.numbers (text_near f list (length out) small) in
      ap unpacked_text p.packs ∙ text_returns p.answer text near ∙ p.promised.numbers

  -- The number, however long the list is.
  pub text_number_unpacks : number_in v ≡ (spelling.write_numbers answer list (length out)).number
  text_number_unpacks = ap number_in p.packs ∙ text_number p.answer text ∙ ap (λ (x : spelling.Returned). x.number) p.promised.numbers
