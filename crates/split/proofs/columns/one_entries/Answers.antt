-- `columns::one_entries` meets its contract. The invariant: the sizes of the 1-sets passed, added up.
use native.Mathlib.Omega.{arith}
use mathlib.Core.Path.{◌≡◌, refl}
use Rattle.taxa.specs.Sum.{sum}
use Rattle.taxa.specs.Sets.{sizes}
use Rattle.taxa.proofs.Counts.{count_le}
use Rattle.taxa.proofs.Ranks.{sizes_few}
use Rattle.method.specs.Tree.{one_entries}
use Rattle.split.proofs.Loading.{file_ones, ones_next}
use Rattle.split.proofs.columns.one_entries.Goals as goal

pub loop-c-init : goal.loop-c-init
unfolding sizes sum
loop-c-init c = (omega arith, refl)

-- A file has 256 columns at most, and each has 64 ones at most.
pub overflow_add-count : goal.overflow_add-count
overflow_add-count c =
    let v = c.loop-c in
    let a = c.args in
    omega (arith, v.invariant.1, sizes_few (file_ones a.file.now) v.c, c.size.ensures, count_le 64 c.column_in.result.ones)

pub loop-c-preserved : goal.loop-c-preserved
loop-c-preserved c =
    let v = c.loop-c in
    (omega arith, omega (arith, v.invariant.1, c.size.ensures, ones_next c.args.file.now {c = v.c} (omega (arith, c.requires.0)) c.column_in.ensures))

pub returns : goal.returns
unfolding one_entries
returns c =
    let e : c.loop-c.c ≡ c.args.m = omega arith in
    rw (e, c.requires.0) at c.loop-c.invariant.1
