-- `supertree::spot_behind` counts no more lines and columns than it has passed bytes, so neither count ends early.
use Rattle.std.proofs.Common.{◌+◌, ◌≤◌}
use Rattle.supertree.proofs.spot_behind.Given as goal

abbrev pub invariant-loop-byte : goal.invariant-loop-byte
invariant-loop-byte l = (l.spot.line ≤ l.byte-index + 1) × (l.spot.column ≤ l.byte-index + 1)
