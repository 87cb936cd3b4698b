-- `columns::flip` meets its contract: each return is a row of the method's table.
use native.Mathlib.Omega.{arith}
use mathlib.Core.Path.{◌≡◌, ◌∙◌}
use Rattle.taxa.specs.Sets.{◌∩◌, ◌∖◌, mass, multiplicity_in}
use Rattle.split.proofs.Flipping.{raised, lowered_side, lowered_rest}
use Rattle.split.proofs.columns.flip.Goals as goal

pub returns-then-z-min : goal.returns-then-z-min
returns-then-z-min c =
    -- The ones in the rest of the group.
    let b_is : c.mass_common-b.result ≡ mass 64 (multiplicity_in c.args.planes.now) (c.args.it.ones ∩ (c.args.group ∖ c.args.side)) =
    rw (← c.difference-rest.ensures) c.mass_common-b.ensures in
    c.raise.ensures ∙ raised 64 _ _ _ _ (omega arith)

pub returns-then-a-b : goal.returns-then-a-b
returns-then-a-b c =
    let b_is : c.mass_common-b.result ≡ mass 64 (multiplicity_in c.args.planes.now) (c.args.it.ones ∩ (c.args.group ∖ c.args.side)) =
    rw (← c.difference-rest.ensures) c.mass_common-b.ensures in
    c.lower.ensures ∙ lowered_side 64 _ _ _ _ (omega arith) (omega arith)

pub returns : goal.returns
returns c =
    let b_is : c.mass_common-b.result ≡ mass 64 (multiplicity_in c.args.planes.now) (c.args.it.ones ∩ (c.args.group ∖ c.args.side)) =
    rw (← c.difference-rest.ensures) c.mass_common-b.ensures in
    rw c.difference-rest.ensures at c.lower-2.ensures ∙ lowered_rest 64 _ _ _ _ (omega arith) (omega arith)
