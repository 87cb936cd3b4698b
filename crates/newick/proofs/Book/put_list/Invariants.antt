-- `newick::Book::put_list` meets its contract. The invariant: the records of the names so far stand at the front.
use mathlib.Core.Path.{◌≡◌}
use Prim.Native.Nat.{◌+◌, ◌≤◌}
use lib.ListN.{length}
use Rattle.record.specs.Bytes.{over}
use Rattle.names.specs.Names.{names_bytes, list_length}
use Rattle.newick.specs.inner.Names.{names_in}
use Rattle.newick.proofs.Book.put_list.Given as goal

abbrev pub invariant-loop-i : goal.invariant-loop-i
invariant-loop-i l =
    (l.at + 4 ≤ length l.initial.out) × (l.at + 4 ≡ list_length (names_in l.text l.self.starts l.self.sizes l.i)) × (length l.out ≡ length l.initial.out)
    × (l.out ≡ over (names_bytes (names_in l.text l.self.starts l.self.sizes l.i)) 0 l.initial.out)
