-- `split::split_loaded` meets its contract: the file's matrix is loaded, and the method's split of it is the file's.
use native.Mathlib.Omega.{arith}
use Rattle.record.specs.Bytes.{File}
use Rattle.split.proofs.Answering.{given, found, arcs_fit, still_cleared}
use Rattle.split.proofs.Soundness.{loads}
use Rattle.split.proofs.split_loaded.Goals as goal

pub load-requires : goal.load-requires
load-requires c = loads (record { byte = λ i. omega (arith, c.type_inv.file i) }) c.requires.0.taken

-- The search of the group uses no more numbers than were cleared.
pub divide-requires : goal.divide-requires
divide-requires c =
    let pre = c.requires in
    let bytes : File c.args.file.now = record { byte = λ i. omega (arith, c.type_inv.file i) } in
    let few_arcs = arcs_fit bytes pre.0 c.load.ensures pre.1 in
    (given bytes pre.0 c.load.ensures, omega (arith, few_arcs, pre.0.long, pre.1))

pub returns : goal.returns
returns c =
    let pre = c.requires in
    let bytes : File c.args.file.now = record { byte = λ i. omega (arith, c.type_inv.file i) } in
    let few_arcs = arcs_fit bytes pre.0 c.load.ensures pre.1 in
    (found bytes pre.0 c.load.ensures c.divide.ensures.0, still_cleared _ few_arcs (omega (arith, pre.0.long, pre.1)) c.clear.ensures c.divide.ensures.1)
