-- `split::split_matrix` meets its contract: each return is a row of the operation's table.
use native.Mathlib.Omega.{arith}
use mathlib.Core.Path.{◌≡◌, refl, sym, ap, ◌∙◌}
use lib.ListN.{length}
use Rattle.taxa.specs.Sets.{within, all}
use Rattle.taxa.proofs.Members.{within_⊆}
use Rattle.record.specs.Bytes.{File}
use Rattle.std.specs.Prelude.{Err}
use Rattle.split.specs.inner.Handing.{Splittable}
use Rattle.split.proofs.Soundness.{few_taxa, few_columns, can_load}
use Rattle.split.proofs.Answering.{one_taxon, unknown_taxon, no_room, all_tested, cleared_after, left_alone}
use Rattle.split.proofs.split_matrix.Goals as goal

pub returns-then-size-lt2 : goal.returns-then-size-lt2
returns-then-size-lt2 c = (ap Err c.at.ensures ∙ one_taxon _ _ _ _ _ (omega arith), left_alone _ _ _)

pub overflow_cast-n : goal.overflow_cast-n
overflow_cast-n c =
    let bytes : File c.args.file.now = record { byte = λ i. omega (arith, c.type_inv.file i) } in
    omega (arith, few_taxa bytes c.requires)

pub all-requires : goal.all-requires
all-requires c =
    let bytes : File c.args.file.now = record { byte = λ i. omega (arith, c.type_inv.file i) } in
    few_taxa bytes c.requires

pub returns-then-not-subset : goal.returns-then-not-subset
returns-then-not-subset c =
    let tested : within c.args.group (all c.args.n) ≡ c.subset.result = rw (← c.all.ensures) (sym c.subset.ensures) in
    (ap Err c.at-then-not-subset.ensures ∙ unknown_taxon _ _ _ _ _ (tested ∙ c.if-not-subset.true), left_alone _ _ _)

pub one_entries-needed-requires : goal.one_entries-needed-requires
one_entries-needed-requires c =
    let bytes : File c.args.file.now = record { byte = λ i. omega (arith, c.type_inv.file i) } in
    let fits = can_load bytes c.requires refl in
    (fits.0, fits.1, few_columns bytes c.requires)

pub returns-then-workspace-needed : goal.returns-then-workspace-needed
returns-then-workspace-needed c =
    let tested : within c.args.group (all c.args.n) ≡ c.subset.result = rw (← c.all.ensures) (sym c.subset.ensures) in
    (ap Err c.at-then-workspace-needed.ensures ∙ no_room _ _ _ _ _ (omega arith) (tested ∙ c.if-not-subset.false) (omega (arith, c.if-workspace-needed.true, c.one_entries-needed.ensures)), left_alone _ _ _)

-- Here nothing is refused.
pub split_loaded-requires : goal.split_loaded-requires
split_loaded-requires c =
    let bytes : File c.args.file.now = record { byte = λ i. omega (arith, c.type_inv.file i) } in
    let tested : within c.args.group (all c.args.n) ≡ c.subset.result = rw (← c.all.ensures) (sym c.subset.ensures) in
    let splittable : Splittable c.args.file.now c.args.group c.args.n c.args.m (length c.args.workspace.now) =
    record {
      taken = c.requires;
      two = omega arith;
      known = (within_⊆ _ _).0 (tested ∙ c.if-not-subset.false);
      long = omega (arith, c.if-workspace-needed.false, c.one_entries-needed.ensures);
    } in
    (splittable, c.one_entries-needed.ensures)

pub returns : goal.returns
returns c =
    let tested : within c.args.group (all c.args.n) ≡ c.subset.result = rw (← c.all.ensures) (sym c.subset.ensures) in
    let splittable : Splittable c.args.file.now c.args.group c.args.n c.args.m (length c.args.workspace.now) =
    record {
      taken = c.requires;
      two = omega arith;
      known = (within_⊆ _ _).0 (tested ∙ c.if-not-subset.false);
      long = omega (arith, c.if-workspace-needed.false, c.one_entries-needed.ensures);
    } in
    let e = c.split_loaded.ensures in
    (e.0 ∙ all_tested _ _ _ _ _ splittable, e.1 ∙ cleared_after _ _ _ c.one_entries-needed.ensures e.0)
