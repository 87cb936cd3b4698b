-- `newick::Book::list_length` meets its contract. The invariant: of any text with names of these sizes, so long is the list of the names so far.
use mathlib.Core.Path.{◌≡◌}
use mathlib.Core.List.{List}
use Prim.Native.Nat.{ℕ, ◌+◌, ◌*◌, ◌≤◌}
use Rattle.names.specs.Names.{list_length}
use Rattle.newick.specs.inner.Names.{Placed, names_in}
use Rattle.newick.proofs.Book.list_length.Given as goal

abbrev pub invariant-loop-size : goal.invariant-loop-size
invariant-loop-size l =
    (l.length ≤ 4 + 36 * l.size-index) × ((text starts : List ℕ) → Placed text starts l.self.sizes l.n → l.length ≡ list_length (names_in text starts l.self.sizes l.size-index))
