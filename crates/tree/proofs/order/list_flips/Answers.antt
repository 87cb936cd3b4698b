-- `tree::order::list_flips` meets its contract. The invariant: what stands are the flips of the columns passed, and the columns ahead are as they were.
use borrow.Author.Rules.{rules}
use native.Mathlib.Omega.{arith}
use mathlib.Core.Path.{◌≡◌, refl, sym, ap, ◌∙◌}
use Rattle.taxa.specs.Sets.{◌∩◌}
use Rattle.method.specs.Split.{Column}
use Rattle.method.specs.Tree.{column, flip_list}
use Rattle.split.specs.Columns.{column_of, matrix_in}
use Rattle.split.proofs.Loading.{file_column}
use Rattle.tree.specs.Lists.{first_flips}
use Rattle.tree.specs.inner.Lists.{unweighed}
use Rattle.tree.proofs.Lists.{list_next, list_size, list_few, same_all, same_on}
use Rattle.tree.proofs.order.list_flips.Goals as goal

pub loop-c-init : goal.loop-c-init
unfolding flip_list first_flips
loop-c-init c = (search rules, refl, refl, refl, refl, refl, same_all _ _, same_all _ _)

pub put_flips-end-requires : goal.put_flips-end-requires
put_flips-end-requires c =
    let l = c.loop-c in
    let a = c.args in
    let few = list_few (column (matrix_in a.file.now).columns) (unweighed a.ones.now a.zeros.now) l.c in
    record { columns_room = omega arith; raised_room = omega arith; lowered_room = omega arith }

-- What is raised and lowered are the flips of the column: it is the file's, and what became of it stands where it stood.
pub loop-c-preserved : goal.loop-c-preserved
loop-c-preserved c =
    let l = c.loop-c in
    let a = c.args in
    let old = column (matrix_in a.file.now).columns in
    let new = unweighed a.ones.now a.zeros.now in
    let it : old l.c ≡ column_of c.column_in-before.result = file_column a.file.now (omega (arith, c.requires.0)) ∙ ap column_of (sym c.column_in-before.ensures) in
    let up : c.common-up.result ≡ (old l.c).zeros ∩ (new l.c).ones =
    c.common-up.ensures ∙ rw (ap (λ (d : Column). d.zeros) it, l.invariant.6.same l.c (omega arith)) in
    let down : c.common-down.result ≡ (old l.c).ones ∩ (new l.c).zeros =
    c.common-down.ensures ∙ rw (ap (λ (d : Column). d.ones) it, l.invariant.7.same l.c (omega arith)) in
    let few = list_few old new l.c in
    let more = rw (← up, ← down) at (list_size old new l.c) in (
      search rules,
      omega (arith, c.put_flips-end.ensures.size),
      search rules,
      search rules,
      search rules,
      rw (list_next old new l.c, ← up, ← down, ← l.invariant.5) c.put_flips-end.ensures.list,
      same_on l.invariant.6 c.put_flips-end.ensures.rest.0 (omega arith) (omega arith),
      same_on l.invariant.7 c.put_flips-end.ensures.rest.1 (omega arith) (omega arith),
    )

pub returns : goal.returns
returns c =
    let l = c.loop-c in
    let all : l.c ≡ c.args.m = omega arith in
    rw (← all) (record { size = l.invariant.1; list = l.invariant.5 })
