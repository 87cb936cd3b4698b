-- `tree::tree_taken` meets its contract: each return is a row of its table.
use native.Mathlib.Omega.{arith}
use mathlib.Core.Path.{refl}
use lib.ListN.{length}
use Rattle.record.proofs.Passing.{handed_on}
use Rattle.record.specs.Bytes.{File}
use Rattle.split.proofs.Soundness.{few_columns, can_load}
use Rattle.tree.specs.inner.Grow.{Growable}
use Rattle.tree.proofs.Building.{tree_written, answers_all, some_taxa}
use Rattle.tree.proofs.Rows.{lent_enough, lent_lacks, tree_lacks, tree_row, tree_output_left, workspace_left}
use Rattle.tree.proofs.tree_taken.Goals as goal

pub one_entries-needed-requires : goal.one_entries-needed-requires
one_entries-needed-requires c =
    let f : File c.args.file.now = record { byte = λ i. omega (arith, c.type_inv.file i) } in
    let fits = can_load f c.requires refl in
    (fits.0, fits.1, few_columns f c.requires)

pub tree_room-requires : goal.tree_room-requires
tree_room-requires c = let f : File c.args.file.now = record { byte = λ i. omega (arith, c.type_inv.file i) } in some_taxa f c.requires

pub returns-in_err-check_lent : goal.returns-in_err-check_lent
returns-in_err-check_lent c =
    let refused = handed_on _ _ c.from_residual.ensures.1 in
    let lacks = lent_lacks _ _ c.one_entries-needed.ensures c.tree_room.ensures c.in_err-check_lent.ensures in
    rw refused (tree_lacks _ _ _ _ _ lacks, tree_output_left _ _ _, workspace_left _ _ _)

pub grow_tree-tree-requires : goal.grow_tree-tree-requires
grow_tree-tree-requires c =
    let a = c.args in
    let lent = lent_enough _ _ c.one_entries-needed.ensures c.tree_room.ensures c.in_ok-check_lent.ensures in
    (record { taken = c.requires; places = lent.0 }, c.one_entries-needed.ensures)

pub returns : goal.returns
returns c =
    let a = c.args in
    let f : File a.file.now = record { byte = λ i. omega (arith, c.type_inv.file i) } in
    let (long, fits) = lent_enough _ _ c.one_entries-needed.ensures c.tree_room.ensures c.in_ok-check_lent.ensures in
    let growable : Growable a.file.now a.n a.m (length a.workspace.now) = record { taken = c.requires; places = long } in
    let grown = c.grow_tree-tree.ensures in
    tree_row _ _ _ _ _ _ _ long grown.1 fits (answers_all c.write_tree.ensures grown.0.tree (tree_written f growable _ fits))

pub write_tree-requires : goal.write_tree-requires
write_tree-requires c = c.grow_tree-tree.ensures.0.none
