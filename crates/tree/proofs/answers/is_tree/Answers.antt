-- `tree::answers::is_tree` meets its contract: what is written into its own room is the tree's file, and nothing refuses that.
use native.Mathlib.Omega.{arith}
use mathlib.Core.Path.{◌≡◌, refl, sym, ap, ◌∙◌}
use Prim.Native.Nat.{ℕ}
use lib.ListN.{take}
use lib.Seq.{length-take-le}
use Rattle.record.specs.Bytes.{equal}
use Rattle.answer.specs.Content.{file_of, length_of}
use Rattle.answer.proofs.Runs.{front_is}
use Rattle.answer.proofs.Pieces.{length_file}
use Rattle.tree.specs.Build.{written}
use Rattle.tree.specs.inner.Grow.{tree_of}
use Rattle.tree.proofs.Building.{answers_all}
use Rattle.tree.proofs.answers.is_tree.Goals as goal

pub returns-in-Ok : goal.returns-in-Ok
returns-in-Ok c =
    let t = tree_of c.args.tree in
    let wrote = answers_all c.write_tree.ensures refl c.requires.1 in
    let size_is : c.in-Ok.built.size ≡ length_of t = let e = sym c.in-Ok.is ∙ wrote.0 in cc in
    c.same.ensures ∙ ap (equal c.args.file.now) (ap (take c.in-Ok.built.size) wrote.1 ∙ front_is (file_of t) _ _ (length_file t ∙ sym size_is))

pub returns-in-Err : goal.returns-in-Err
returns-in-Err c =
    let wrote : c.write_tree.result ≡ written (tree_of c.args.tree) = (answers_all c.write_tree.ensures refl c.requires.1).0 in
    let e = sym c.in-Err.is ∙ wrote in
    absurd (let z : ◌≡◌ {A = ℕ} 0 1 = cc in omega arith)

pub write_tree-requires : goal.write_tree-requires
write_tree-requires c = c.requires.0

pub slice_bounds-own-end : goal.slice_bounds-own-end
slice_bounds-own-end c =
    let wrote = answers_all c.write_tree.ensures refl c.requires.1 in
    let size_is : c.in-Ok.built.size ≡ length_of (tree_of c.args.tree) = let e = sym c.in-Ok.is ∙ wrote.0 in cc in
    omega (arith, size_is, c.requires.2)

pub slice_bounds-same-end : goal.slice_bounds-same-end
slice_bounds-same-end c =
    let wrote = answers_all c.write_tree.ensures refl c.requires.1 in
    let size_is : c.in-Ok.built.size ≡ length_of (tree_of c.args.tree) = let e = sym c.in-Ok.is ∙ wrote.0 in cc in
    sym (length-take-le _ _ (omega (arith, size_is, c.requires.2)))
