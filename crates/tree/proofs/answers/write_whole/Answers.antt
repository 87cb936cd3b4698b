-- `tree::answers::write_whole` meets its contract: the value handed to the writing of answers holds the tree and the flips listed.
use native.Mathlib.Omega.{arith}
use mathlib.Core.Path.{◌≡◌}
use Rattle.method.specs.Tree.{column}
use Rattle.answer.specs.Reading.{listed}
use Rattle.split.specs.Columns.{matrix_in}
use Rattle.tree.specs.inner.Lists.{FlipRoom, unweighed}
use Rattle.tree.proofs.Lists.{list_few}
use Rattle.tree.proofs.Writing.{whole_held, answers_as}
use Rattle.tree.proofs.answers.write_whole.Goals as goal

pub list_flips-flips-requires : goal.list_flips-flips-requires
list_flips-flips-requires c =
    let p = c.requires in (
      p.columns,
      p.whole,
      record {
        columns_room = p.few_columns;
        raised_room = omega (arith, p.few_columns);
        lowered_room = omega
            (arith, p.few_columns);
      },
    )

-- The lists lent for the flips are as long as there can be columns.
pub returns : goal.returns
returns c =
    let a = c.args in
    let flips = c.list_flips-flips in
    let p = c.requires in
    let few = list_few (column (matrix_in a.file.now).columns) (unweighed a.matrix.now.ones a.matrix.now.zeros) a.tree.m in
    let lists_long : listed flips.new.columns flips.new.ones flips.new.zeros ≡ 256 =
    omega (arith, flips.auto.columns, flips.auto.ones, flips.auto.zeros) in
    let room : FlipRoom flips.result flips.new.columns flips.new.ones flips.new.zeros = record {
      columns_room = omega (arith, p.few_columns, flips.ensures.size, flips.auto.columns);
      raised_room = omega (arith, p.few_columns, flips.ensures.size, flips.auto.ones);
      lowered_room = omega (arith, p.few_columns, flips.ensures.size, flips.auto.zeros);
    } in
    answers_as c.write.ensures (whole_held a.tree room flips.ensures.size flips.ensures.list) lists_long c.as_built.ensures

pub overflow_cast-whole : goal.overflow_cast-whole
overflow_cast-whole c =
    let a = c.args in
    omega (arith, c.list_flips-flips.ensures.size, list_few (column (matrix_in a.file.now).columns) (unweighed a.matrix.now.ones a.matrix.now.zeros) a.tree.m, c.requires.few_columns)
