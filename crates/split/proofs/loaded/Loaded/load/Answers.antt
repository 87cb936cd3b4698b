-- `Loaded::load` meets its contract. The invariant: the first c entries of each list are those of the file's columns.
use native.Mathlib.Omega.{arith}
use mathlib.Core.Path.{refl, ◌∙◌}
use Rattle.split.proofs.Filling.{fill_none}
use Rattle.split.proofs.Loading.{load_next, all_loaded}
use Rattle.split.proofs.Soundness.{read_multiplicities}
use Rattle.split.proofs.Standing.{sized, parallel}
use Rattle.split.proofs.loaded.Loaded.load.Goals as goal

pub load_planes-requires : goal.load_planes-requires
load_planes-requires c = c.requires.2

pub loop-c-init : goal.loop-c-init
loop-c-init c = (omega arith, refl, refl, c.load_planes.ensures.0, c.load_planes.ensures.1, record { weights = fill_none _; ones = fill_none _; zeros = fill_none _ })

pub invariant_of-self : goal.invariant_of-self
invariant_of-self c = record { few_taxa = c.requires.3; few_columns = c.requires.4 }

pub column_in-it-requires : goal.column_in-it-requires
column_in-it-requires c = omega (arith, c.requires.1, c.loop-c-test.true)

pub loop-c-preserved : goal.loop-c-preserved
loop-c-preserved c =
    let (below, n, m, planes, tabled, loading) = c.loop-c.invariant in
    let (count, inside, multiplied, few_taxa, few) = c.requires in
    (omega arith, n, m, planes, tabled, load_next _ loading (omega arith) (omega arith) (omega arith) (omega arith) c.column_in-it.ensures)

pub returns : goal.returns
returns c =
    let (below, n, m, planes, tabled, loading) = c.loop-c.invariant in
    let (count, inside, multiplied, few_taxa, few) = c.requires in
    record {
      taxa_are = n;
      columns_are = m;
      sized = sized c.loop-c.self _ (omega arith) ∙ m;
      parallel = parallel c.loop-c.self _ _ (omega arith) (omega arith) (omega arith);
      is = all_loaded _ loading (m ∙ count) (omega arith) (omega arith) (omega arith) (omega arith);
      stand_for = read_multiplicities _ _ planes;
      tabled = tabled;
    }
