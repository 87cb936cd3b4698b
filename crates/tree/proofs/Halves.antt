-- The build is its halves, one after the other: the flips of the tree's own file are what the build answers (`flips_of_tree`), and so is the tree followed
-- by them (`build_is_both`). 26 is answered exactly where nothing else refuses and the file is another (`other_file`, `own_file`).
use mathlib.Core.Path.{◌≡◌, refl, ap, ◌∙◌}
use mathlib.Core.Bool.{Bool, true, false, cond}
use mathlib.Core.List.{List}
use mathlib.Core.Logic.{◌≢◌}
use Prim.Native.Nat.{ℕ, ◌≤◌}
use native.Mathlib.Omega.{arith}
use lib.Dec.{ltb}
use borrow.Author.Tests.{eq-eqb, le-ltb}
use Rattle.record.specs.Bytes.{File, equal}
use Rattle.record.specs.Refusals.{refused}
use Rattle.record.specs.declared.Cursor.{Cursor}
use Rattle.record.proofs.Equal.{equal_refl, differs}
use Rattle.matrix.specs.Check.{checked}
use Rattle.answer.specs.Content.{Content, content_in, length_of}
use Rattle.answer.specs.Lawful.{Lawful}
use Rattle.answer.specs.Reading.{file_tests}
use Rattle.answer.proofs.Encoding.{file_holds, file_taken}
use Rattle.method.specs.Tree.{one_entries}
use Rattle.split.specs.Columns.{matrix_in}
use Rattle.split.proofs.Soundness.{taken_sound, taken_known, taken_count, few_taxa}
use Rattle.tree.specs.Build.{tree_for, tree_room, room_for, written, taken_of, answered, built}
use Rattle.tree.specs.Tree.{tree_answered, tree_given}
use Rattle.tree.specs.Flips.{tree_file, agreed, flips_answered, flips_given, then_flips, one_after_the_other}
use Rattle.tree.proofs.Rules.{tree_lawful}
use Rattle.std.specs.Prelude.{Result, Ok, Err}
use Rattle.record.specs.declared.refusal.Refusal.{Refusal}
use Rattle.matrix.specs.Check.{shape}
use Rattle.record.specs.declared.refusal.Reason.TheVariants as reason
use Rattle.matrix.specs.declared.Shape.{Shape}

-- ---- two files that were read, with enough lent

module _ (file tree : List ℕ) {n m space room : ℕ} (taken : Ok (shape n m) ≡ checked file) {here : Cursor} (passes : Ok here ≡ file_tests tree)
    (same_n : (content_in tree).n ≡ n) (same_m : (content_in tree).m ≡ m) (long : one_entries (matrix_in file) ≤ space) (fits : room_for n m ≤ room) where
  pub compares : flips_given file tree space room ≡ cond (equal tree (tree_file file)) (taken_of file) (Err (refused reason.OtherTree 0))
  unfolding flips_given flips_answered agreed
  compares = rw (← taken, ← passes, eq-eqb _ _ same_n, eq-eqb _ _ same_m, le-ltb _ _ long, le-ltb _ _ fits)

  pub other_file : tree ≢ tree_file file → flips_given file tree space room ≡ Err (refused reason.OtherTree 0)
  other_file d = compares ∙ rw (differs tree (tree_file file) d)

  pub own_file : tree ≡ tree_file file → flips_given file tree space room ≡ taken_of file
  own_file e = compares ∙ rw (e, equal_refl (tree_file file))

-- ---- the tree's own file

module _ {file : List ℕ} {n m : ℕ} (f : File file) (taken : Ok (shape n m) ≡ checked file) where
  lawful : Lawful (tree_for (matrix_in file))
  lawful = tree_lawful (matrix_in file) (taken_sound f taken)

  -- Reading takes it, and its content is the tree.
  pub tree_passes : Ok (record { at = length_of (tree_for (matrix_in file)) }) ≡ file_tests (tree_file file)
  tree_passes = file_taken lawful

  pub tree_content : content_in (tree_file file) ≡ tree_for (matrix_in file)
  tree_content = file_holds lawful

  pub tree_n : (content_in (tree_file file)).n ≡ n
  unfolding tree_for
  tree_n = ap (λ (c : Content). c.n) tree_content ∙ taken_known f taken

  pub tree_m : (content_in (tree_file file)).m ≡ m
  unfolding tree_for
  tree_m = ap (λ (c : Content). c.m) tree_content ∙ taken_count f taken

  own : (space room : ℕ) → flips_answered (Ok (shape n m)) file (tree_file file) space room ≡ answered (Ok (shape n m)) file space room
  unfolding flips_answered agreed answered
  own space room = rw (← tree_passes, eq-eqb _ _ tree_n, eq-eqb _ _ tree_m, equal_refl (tree_file file))

-- The flips of the tree's own file are what the build answers, refusals too.
pub flips_of_tree : {file : List ℕ} → File file → (space room : ℕ) → flips_given file (tree_file file) space room ≡ built file space room
unfolding flips_given built flips_answered answered
flips_of_tree {file} f space room = go (checked file) refl
  where
    go : (k : Result Shape Refusal) → k ≡ checked file → flips_answered k file (tree_file file) space room ≡ answered k file space room
    go (Err why) e = refl
    go (Ok it) e = own f e space room

-- The build is one after the other.
pub build_is_both : {file : List ℕ} → File file → (space room : ℕ) → one_after_the_other file space room ≡ built file space room
unfolding one_after_the_other tree_given tree_answered built answered
build_is_both {file} f space room = go (checked file) refl
  where
    go : (k : Result Shape Refusal) → k ≡ checked file → then_flips file space room (tree_answered k file space (tree_room 64)) ≡ built file space room
    go (Err why) e = rw (← e)
    go (Ok it) e = rw (le-ltb (tree_room 64) (tree_room it.n) (omega (arith, few_taxa f e))) (tested (ltb space (one_entries (matrix_in file))) refl)
      where
        tested : (a : Bool) → ltb space (one_entries (matrix_in file)) ≡ a
            → then_flips file space room (cond a (Err (refused reason.Workspace 0)) (written (tree_for (matrix_in file)))) ≡ built file space room
        tested true h = rw (← e, h)
        tested false h = flips_of_tree f space room
