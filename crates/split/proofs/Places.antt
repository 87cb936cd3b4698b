-- A refusal of the split has a small place, as those of all operations have (an answer file has at most 6660 bytes), and a small number
-- (`split_refused_small`).
use mathlib.Core.Path.{◌≡◌, refl}
use mathlib.Core.List.{List}
use Prim.Native.Nat.{ℕ, ◌≤◌}
use native.Mathlib.Omega.{arith}
use lib.Dec.{ltb, lit≤}
use Rattle.record.specs.declared.refusal.Refusal.{Refusal}
use Rattle.record.proofs.Steps.{either_way}
use Rattle.matrix.specs.Check.{checked}
use Rattle.matrix.proofs.Places.{refusal_small}
use Rattle.method.specs.Tree.{one_entries}
use Rattle.split.specs.Columns.{matrix_in}
use Rattle.split.specs.Operation.{split_of, no_group, answered, divided}
use Rattle.std.specs.Prelude.{Result, Ok, Err}
use Rattle.record.specs.Refusals.{refusal_number}
use Rattle.matrix.specs.declared.Shape.{Shape}
use Rattle.search.specs.declared.Split.{Split}

abbrev Small : Result Split Refusal → Type 0
Small (Ok it) = Unit {0}
Small (Err why) = (why.place ≤ 6660) × ((refusal_number why.reason) ≤ 21)

small : (file : List ℕ) (S room : ℕ) → Small (divided file S room)
unfolding divided answered split_of
small file S room = go (checked file) refl
  where
    go : (k : Result Shape Refusal) → k ≡ checked file → Small (answered k file S room)
    go (Err why) e = let (near, some, few, other) = refusal_small file e in (omega arith, few)
    go (Ok it) e = either_way Small (no_group it.n S) (lit≤ tt, lit≤ tt) (either_way Small (ltb room (one_entries (matrix_in file))) (lit≤ tt, lit≤ tt) tt)

pub split_refused_small : (file : List ℕ) (S room : ℕ) {why : Refusal} → Err why ≡ divided file S room → (why.place ≤ 6660) × ((refusal_number why.reason) ≤ 21)
split_refused_small file S room e = rw (← e) at (small file S room)
