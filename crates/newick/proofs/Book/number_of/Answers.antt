-- `newick::Book::number_of` meets its contract. The invariant: the names so far are others.
use borrow.Author.Rules.{rules}
use native.Mathlib.Omega.{arith}
use mathlib.Core.Path.{◌≡◌, sym, ◌∙◌}
use Rattle.newick.proofs.Names.{found, not_found}
use Rattle.newick.proofs.Book.number_of.Goals as goal

pub returns-then-same_names : goal.returns-then-same_names
returns-then-same_names c =
    let l = c.loop-i in
    let a = c.args in
    found a.text.now a.self.now.starts a.self.now.sizes a.n _ l.i (search rules) l.invariant (sym c.same_names.ensures ∙ c.if-same_names.true)

pub returns : goal.returns
returns c =
    let a = c.args in
    let all : c.loop-i.i ≡ a.n = omega arith in
    not_found a.text.now a.self.now.starts a.self.now.sizes a.n _ (rw all at c.loop-i.invariant)
