-- `entries::read_parts` meets its contract: crate answer reads into the first of the three parts, as many as the list has entries, at most 256.
use mathlib.Core.Path.{sym}
use native.Mathlib.Omega.{arith}
use lib.Seq.{length-take-le}
use Rattle.entries.proofs.Reading.{in_parts}
use Rattle.entries.proofs.read_parts.Goals as goal

pub slice_bounds-read-end-2 : goal.slice_bounds-read-end-2
slice_bounds-read-end-2 c = sym (length-take-le _ _ (omega (arith, c.requires.0, c.requires.1, c.requires.2, c.min-room.ensures)))

pub slice_bounds-read-end-4 : goal.slice_bounds-read-end-4
slice_bounds-read-end-4 c = sym (length-take-le _ _ (omega (arith, c.requires.0, c.requires.1, c.requires.2, c.min-room.ensures)))

pub slice_bounds-read-end-6 : goal.slice_bounds-read-end-6
slice_bounds-read-end-6 c = sym (length-take-le _ _ (omega (arith, c.requires.0, c.requires.1, c.requires.2, c.min-room.ensures)))

pub returns : goal.returns
returns c =
    rw c.min-room.ensures (in_parts c.args.file.now c.args.entries c.args.columns.now c.args.raised.now c.args.lowered.now c.requires.0 c.requires.1 c.requires.2
    (rw c.min-room.ensures at c.read.ensures))
