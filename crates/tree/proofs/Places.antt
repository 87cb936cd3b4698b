-- What the build and its halves answer is small: the length and the total or a refusal's place and number (`build_small`, `tree_small`,
-- `flips_small`).
use mathlib.Core.Path.{◌≡◌, refl}
use mathlib.Core.Bool.{◌&&◌}
use mathlib.Core.List.{List}
use Prim.Native.Nat.{ℕ, ◌^◌, ◌≤◌, ◌<◌}
use native.Mathlib.Omega.{arith}
use lib.Dec.{ltb, eqb, lit≤}
use Rattle.record.specs.Bytes.{File, equal}
use Rattle.record.proofs.Steps.{either_way}
use Rattle.record.proofs.Places.{By}
use Rattle.matrix.specs.Check.{checked}
use Rattle.matrix.proofs.Places.{refusal_small}
use Rattle.answer.specs.Content.{content_in}
use Rattle.answer.specs.Reading.{file_tests}
use Rattle.answer.proofs.Places.{largest, Few, answer_by}
use Rattle.method.specs.Tree.{one_entries, answer}
use Rattle.method.proofs.Promises as promises
use Rattle.split.specs.Columns.{matrix_in}
use Rattle.split.proofs.Soundness.{taken_sound}
use Rattle.tree.specs.Build.{tree_for, content_for, tree_room, room_for, written, taken_of, if_enough, answered, built}
use Rattle.tree.specs.Tree.{tree_answered, tree_given}
use Rattle.tree.specs.Flips.{tree_file, if_firsts, agreed, after_tree, flips_answered, flips_given}
use Rattle.tree.proofs.Rules.{answer_fits, tree_fits}
use Rattle.std.specs.Prelude.{Result, Ok, Err}
use Rattle.record.specs.declared.refusal.Refusal.{Refusal}
use Rattle.record.specs.Records.{Passed}
use Rattle.matrix.specs.Check.{shape}
use Rattle.record.specs.Refusals.{refusal_number}
use Rattle.matrix.specs.declared.Shape.{Shape}
use Rattle.tree.specs.declared.Built.{Built}

-- A refusal, of whatever file, by a number up to `last`; a length and a total, of a file of bytes.
abbrev pub Small : ℕ → List ℕ → Result Built Refusal → Type 0
Small last file (Ok it) = File file → (it.size ≤ largest) × (it.total < 2 ^ 31)
Small last file (Err why) = (why.place ≤ largest) × ((refusal_number why.reason) ≤ last)

-- What is lent adds the numbers 9 and 10.
enough_small : (last : ℕ) (file : List ℕ) (space wanted room : ℕ) (r : Result Built Refusal) → 10 ≤ last → Small last file r
    → Small last file (if_enough file space wanted room r)
enough_small last file space wanted room r l h =
    either_way (Small last file) (ltb space (one_entries (matrix_in file))) (lit≤ tt, omega arith)
    (either_way (Small last file) (ltb room wanted) (lit≤ tt, omega arith) h)

whole_small : (last : ℕ) (file : List ℕ) {n m : ℕ} → Ok (shape n m) ≡ checked file → Small last file (taken_of file)
unfolding content_for answer
whole_small last file e f =
    let M = matrix_in file in
    let ok = taken_sound f e in
    (omega (arith, answer_fits M ok, ok.few, ok.columns_few), omega (arith, promises.total_small M ok))

-- ---- the build

pub build_small : (file : List ℕ) (space room : ℕ) → Small 21 file (built file space room)
unfolding built answered
build_small file space room = go (checked file) refl
  where
    go : (k : Result Shape Refusal) → k ≡ checked file → Small 21 file (answered k file space room)
    go (Err why) e = let (near, some, few, other) = refusal_small file e in (omega arith, few)
    go (Ok it) e = enough_small 21 file space (room_for it.n it.m) room (taken_of file) (lit≤ tt) (whole_small 21 file e)

-- ---- the tree

pub tree_small : (file : List ℕ) (space room : ℕ) → Small 21 file (tree_given file space room)
unfolding tree_given tree_answered tree_for answer
tree_small file space room = go (checked file) refl
  where
    go : (k : Result Shape Refusal) → k ≡ checked file → Small 21 file (tree_answered k file space room)
    go (Err why) e = let (near, some, few, other) = refusal_small file e in (omega arith, few)
    go (Ok it) e = enough_small 21 file space (tree_room it.n) room (written (tree_for (matrix_in file))) (lit≤ tt) (λ f.
        let M = matrix_in file in
        let ok = taken_sound f e in
        (omega (arith, tree_fits M ok, ok.few), omega (arith, promises.total_small M ok)))

-- ---- the flips

pub flips_small : (file tree : List ℕ) (space room : ℕ) → Small 26 file (flips_given file tree space room)
unfolding flips_given flips_answered agreed
flips_small file tree space room = go (checked file) refl
  where
    read : {n m : ℕ} → Ok (shape n m) ≡ checked file → (p : Passed) → By Few largest p → Small 26 file (after_tree file tree n m space room p)
    read e (Err why) (near, few) = (near, omega (arith, few.1))
    read {n} {m} e (Ok here) b =
        either_way (Small 26 file) (eqb (content_in tree).n n && eqb (content_in tree).m m)
        (enough_small 26 file space (room_for n m) room (if_firsts file tree (taken_of file)) (lit≤ tt)
        (either_way (Small 26 file) (equal tree (tree_file file)) (whole_small 26 file e) (lit≤ tt, lit≤ tt)))
        (lit≤ tt, lit≤ tt)

    go : (k : Result Shape Refusal) → k ≡ checked file → Small 26 file (flips_answered k file tree space room)
    go (Err why) e = let (near, some, few, other) = refusal_small file e in (omega arith, omega arith)
    go (Ok it) e = read e (file_tests tree) (answer_by tree)
