-- The length by a law: a list of a million bytes is too long to be counted.
use Rattle.std.proofs.Common.{ℕ}
use lib.ListN.{length-replicate}
use Rattle.supertree.proofs.text_room.Goals as goal

pub returns : goal.returns
returns c = length-replicate {0} {A = ℕ} 1048577 0
