-- `newick::Book::list_length` meets its contract. The invariant: of any text with names of these sizes, so long is the list of the names so far.
use borrow.Author.Rules.{rules}
use native.Mathlib.Omega.{arith}
use mathlib.Core.Path.{refl}
use Prim.Native.Nat.{◌<◌}
use lib.Seq.{get_or-take}
use Rattle.names.specs.Names.{list_length}
use Rattle.newick.specs.inner.Names.{names_in}
use Rattle.newick.proofs.Lists.{length_next}
use Rattle.newick.proofs.Book.list_length.Goals as goal

pub loop-size-init : goal.loop-size-init
unfolding names_in list_length
loop-size-init c = (search rules, λ text starts p. refl)

pub loop-size-preserved : goal.loop-size-preserved
loop-size-preserved c =
    let l = c.loop-size in
    let among : l.size-index < c.args.n = search rules in
    let short = c.requires.1 l.size-index among in
    (rw get_or-take (omega arith), λ text starts p. rw get_or-take (omega (arith, l.invariant.1 text starts p, length_next p l.size-index among)))
