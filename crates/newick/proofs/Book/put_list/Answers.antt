-- `newick::Book::put_list` meets its contract. The invariant: the records of the names so far stand at the front.
use borrow.Author.Rules.{rules}
use native.Mathlib.Omega.{arith}
use mathlib.Core.Path.{◌≡◌}
use lib.ListN.{length-take, length-drop}
use Rattle.record.proofs.Over.{nothing, next}
use Rattle.names.specs.Names.{names_bytes, list_length}
use Rattle.newick.specs.inner.Names.{names_in}
use Rattle.newick.proofs.Lists.{list_flat, length_records, names_next, length_next, room}
use Rattle.newick.proofs.Book.put_list.Goals as goal

pub loop-i-init : goal.loop-i-init
unfolding names_in names_bytes list_length
loop-i-init c =
    let a = c.args in
    (omega (arith, length_records (names_in a.text.now a.self.now.starts a.self.now.sizes a.n)), search rules, search rules, nothing 0 _)

pub put_name-requires : goal.put_name-requires
put_name-requires c =
    let l = c.loop-i in
    let p = c.requires in
    let below = room p.placed.0 l.i (search rules) in
    (p.placed.0.inside l.i (search rules), p.placed.1 l.i (search rules), simp (length-take, length-drop) (omega arith))

pub loop-i-preserved : goal.loop-i-preserved
loop-i-preserved c =
    let l = c.loop-i in
    let a = c.args in
    let below = room c.requires.placed.0 l.i (search rules) in
    let longer = length_next c.requires.placed.0 l.i (search rules) in
    let so_far = length_records (names_in a.text.now a.self.now.starts a.self.now.sizes l.i) in
    let written = next _ _ _ _ _ l.invariant.3 c.put_name.ensures (omega arith) (omega arith) in
    (omega arith, omega arith, search rules, rw (names_next a.text.now a.self.now.starts a.self.now.sizes l.i) written)

pub returns : goal.returns
returns c =
    let l = c.loop-i in
    let a = c.args in
    let all : l.i ≡ a.n = omega arith in
    let so_far = length_records (names_in a.text.now a.self.now.starts a.self.now.sizes l.i) in
    rw (← all, list_flat, ← c.of.ensures) (next _ _ _ _ _ l.invariant.3 c.put_opening.ensures (omega arith) (omega arith))
