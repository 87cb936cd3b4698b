-- `tree::flips_taken` meets its contract: each return is a row of its table.
use native.Mathlib.Omega.{arith}
use mathlib.Core.Path.{◌≡◌, refl, sym, ap, ◌∙◌}
use lib.ListN.{length}
use Rattle.record.proofs.Passing.{handed_on}
use Rattle.record.specs.Bytes.{File, equal}
use Rattle.answer.specs.Content.{Content, file_of}
use Rattle.split.proofs.Soundness.{few_columns, can_load}
use Rattle.tree.specs.Flips.{tree_file}
use Rattle.tree.specs.inner.Grow.{Growable}
use Rattle.tree.proofs.Building.{fits_any, whole_written, whole_is, answers_all, some_taxa}
use Rattle.tree.proofs.Rows.{lent_enough, lent_lacks}
use Rattle.tree.proofs.FlipsRows.{disagree_row, lack_row, differs_row, whole_row}
use Rattle.tree.proofs.flips_taken.Goals as goal

-- ---- what the calls ask for

pub agrees-requires : goal.agrees-requires
agrees-requires c = c.requires.1

pub one_entries-needed-requires : goal.one_entries-needed-requires
one_entries-needed-requires c =
    let f : File c.args.file.now = record { byte = λ i. omega (arith, c.type_inv.file i) } in
    let fits = can_load f c.requires.0 refl in
    (fits.0, fits.1, few_columns f c.requires.0)

pub answer_room-wanted-requires : goal.answer_room-wanted-requires
answer_room-wanted-requires c = let f : File c.args.file.now = record { byte = λ i. omega (arith, c.type_inv.file i) } in some_taxa f c.requires.0

pub grow_tree-own-requires : goal.grow_tree-own-requires
grow_tree-own-requires c =
    let a = c.args in
    let lent = lent_enough _ _ c.one_entries-needed.ensures c.answer_room-wanted.ensures c.in_ok-check_lent.ensures in
    (record { taken = c.requires.0; places = lent.0 }, c.one_entries-needed.ensures)

pub is_tree-requires : goal.is_tree-requires
is_tree-requires c =
    let a = c.args in
    let f : File a.file.now = record { byte = λ i. omega (arith, c.type_inv.file i) } in
    let lent = lent_enough _ _ c.one_entries-needed.ensures c.answer_room-wanted.ensures c.in_ok-check_lent.ensures in
    let growable : Growable a.file.now a.n a.m (length a.workspace.now) = record { taken = c.requires.0; places = lent.0 } in
    let g = c.grow_tree-own.ensures.0 in
    let (written, fits) = fits_any f growable g in
    (g.none, written, fits)

pub write_whole-requires : goal.write_whole-requires
write_whole-requires c = c.grow_tree-own.ensures.0.flipped

-- ---- the returns

pub returns-then-not-agrees : goal.returns-then-not-agrees
returns-then-not-agrees c = rw c.at.ensures (disagree_row _ _ _ _ _ _ _ _ (sym c.agrees.ensures ∙ c.if-not-agrees.true))

pub returns-in_err-check_lent : goal.returns-in_err-check_lent
returns-in_err-check_lent c =
    let agree = sym c.agrees.ensures ∙ c.if-not-agrees.false in
    let lacks = lent_lacks _ _ c.one_entries-needed.ensures c.answer_room-wanted.ensures c.in_err-check_lent.ensures in
    rw (handed_on _ _ c.from_residual.ensures.1) (lack_row _ _ _ _ _ _ _ _ agree lacks)

pub returns-then-not-is_tree : goal.returns-then-not-is_tree
returns-then-not-is_tree c =
    let a = c.args in
    let agree = sym c.agrees.ensures ∙ c.if-not-agrees.false in
    let firsts : equal a.tree.now (tree_file a.file.now) ≡ c.is_tree.result =
    sym (c.is_tree.ensures ∙ ap (λ (x : Content). equal a.tree.now (file_of x)) c.grow_tree-own.ensures.0.tree) in
    let (long, fits) = lent_enough _ _ c.one_entries-needed.ensures c.answer_room-wanted.ensures c.in_ok-check_lent.ensures in
    rw c.at-then-not-is_tree.ensures
    (differs_row _ _ _ _ _ _ _ _ agree long fits c.grow_tree-own.ensures.1 (firsts ∙ c.if-not-is_tree.true))

pub returns : goal.returns
returns c =
    let a = c.args in
    let f : File a.file.now = record { byte = λ i. omega (arith, c.type_inv.file i) } in
    let agree = sym c.agrees.ensures ∙ c.if-not-agrees.false in
    let firsts : equal a.tree.now (tree_file a.file.now) ≡ c.is_tree.result =
    sym (c.is_tree.ensures ∙ ap (λ (x : Content). equal a.tree.now (file_of x)) c.grow_tree-own.ensures.0.tree) in
    let (long, fits) = lent_enough _ _ c.one_entries-needed.ensures c.answer_room-wanted.ensures c.in_ok-check_lent.ensures in
    let growable : Growable a.file.now a.n a.m (length a.workspace.now) = record { taken = c.requires.0; places = long } in
    whole_row _ _ _ _ _ _ _ _ agree long fits c.grow_tree-own.ensures.1 (firsts ∙ c.if-not-is_tree.false)
    (answers_all c.write_whole.ensures (whole_is c.grow_tree-own.ensures.0) (whole_written f growable _ fits))
