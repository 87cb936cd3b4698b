-- `tree::groups::grow_tree` meets its contract: the matrix loaded, the workspace cleared, the walk from all taxa, its groups put in order.
use native.Mathlib.Omega.{arith}
use mathlib.Core.Path.{refl, ◌∙◌}
use Rattle.record.specs.Bytes.{File}
use Rattle.split.proofs.Soundness.{loads}
use Rattle.tree.proofs.Building.{lent_ready, lent_fits, to_order, has_grown}
use Rattle.tree.proofs.groups.grow_tree.Goals as goal

-- ---- what the calls ask for

pub load-requires : goal.load-requires
load-requires c = loads (record { byte = λ i. omega (arith, c.type_inv.file i) }) c.requires.0.taken

pub grow_all-requires : goal.grow_all-requires
grow_all-requires c =
    let f : File c.args.file.now = record { byte = λ i. omega (arith, c.type_inv.file i) } in
    let (b, counted) = c.requires in
    let held = c.load.ensures in
    record {
      ready = lent_ready f b held _ counted c.clear.ensures refl;
      room = omega (arith, c.new-walked.ensures, lent_fits f b held);
    }

-- ---- what comes back

pub in_file_order-requires : goal.in_file_order-requires
in_file_order-requires c =
    let f : File c.args.file.now = record { byte = λ i. omega (arith, c.type_inv.file i) } in
    let held = c.load.ensures in
    let grown = rw (c.new-walked.ensures, held.taxa_are) at c.grow_all.ensures.0 in
    to_order f c.requires.0 held _ _ _ _ _ _ _ grown

pub returns : goal.returns
returns c =
    let f : File c.args.file.now = record { byte = λ i. omega (arith, c.type_inv.file i) } in
    let held = c.load.ensures in
    let grown = rw (c.new-walked.ensures, held.taxa_are) at c.grow_all.ensures.0 in (
      has_grown f c.requires.0 held _ _ _ _ _ _ _ grown c.in_file_order.ensures,
      grown.workspace ∙ rw (← c.requires.1) c.clear.ensures,
    )
