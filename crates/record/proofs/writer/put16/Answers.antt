-- `record::writer::put16` meets its contract: two stores.
use native.Mathlib.Omega.{arith}
use native.Mathlib.Nat.{mod-eq_of_lt}
use Prim.Native.Nat.{◌%◌, ◌/◌}
use lib.Seq.{sets-eq}
use mathlib.Core.List.{[], ◌∷◌}
use Rattle.record.specs.Bytes.{bytes_of, over}
use Rattle.record.proofs.writer.put16.Goals as goal

pub returns : goal.returns
unfolding bytes_of over
returns c =
    rw (mod-eq_of_lt {n = c.args.v / 256} {m = 256} (omega arith))
    (sets-eq (c.args.v % 256 ∷ c.args.v / 256 ∷ []) c.args.out.now 0 (omega arith))
