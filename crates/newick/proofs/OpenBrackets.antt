-- The lists of open brackets, the last first: one more (`brackets_more`, `filled_more`), and the last (`brackets_last`, `filled_last`).
use mathlib.Core.Path.{◌≡◌, refl, ap}
use mathlib.Core.Bool.{Bool, false}
use mathlib.Core.List.{List, [], ◌∷◌}
use Prim.Native.Nat.{ℕ, zero, suc, ◌+◌, ◌≤◌, ◌<◌}
use native.Mathlib.Numerals.{add-one}
use native.Mathlib.Omega.{arith}
use lib.ListN.{length, get_or, set}
use lib.Seq.{get_or-set_same, get_or-set_other}
use Rattle.newick.specs.inner.Book.{brackets_in, filled_in}

-- A store past the first d changes none of them.
pub brackets_kept : (index before : List ℕ) (i v w d : ℕ) → d ≤ i → brackets_in (set index i v) (set before i w) d ≡ brackets_in index before d
unfolding brackets_in
brackets_kept index before i v w zero l = refl
brackets_kept index before i v w (suc d) l =
    let e = get_or-set_other index i d v 0 (λ e. absurd (omega arith)) in
    let f = get_or-set_other before i d w 0 (λ e. absurd (omega arith)) in
    rw (e, f, brackets_kept index before i v w d (omega arith))

pub filled_kept : (filled : List Bool) (i : ℕ) (v : Bool) (d : ℕ) → d ≤ i → filled_in (set filled i v) d ≡ filled_in filled d
unfolding filled_in
filled_kept filled i v zero l = refl
filled_kept filled i v (suc d) l = rw (get_or-set_other filled i d v false (λ e. absurd (omega arith)), filled_kept filled i v d (omega arith))

pub length_brackets : (index before : List ℕ) (d : ℕ) → length (brackets_in index before d) ≡ d
unfolding brackets_in
length_brackets index before zero = refl
length_brackets index before (suc d) = ap suc (length_brackets index before d)

-- One more.
pub brackets_more : (index before : List ℕ) (v w d e : ℕ) → e ≡ d + 1 → d < length index → d < length before
    → brackets_in (set index d v) (set before d w) e ≡ record { index = v; before = w } ∷ brackets_in index before d
unfolding brackets_in
brackets_more index before v w d e q i j =
    rw (q, add-one, get_or-set_same index d v 0 i, get_or-set_same before d w 0 j, brackets_kept index before d v w d (omega arith))

pub filled_more : (filled : List Bool) (v : Bool) (d e : ℕ) → e ≡ d + 1 → d < length filled → filled_in (set filled d v) e ≡ v ∷ filled_in filled d
unfolding filled_in
filled_more filled v d e q l = rw (q, add-one, get_or-set_same filled d v false l, filled_kept filled d v d (omega arith))

-- The last.
pub brackets_last : (index before : List ℕ) (d e : ℕ) → d ≡ e + 1
    → brackets_in index before d ≡ record { index = get_or index e 0; before = get_or before e 0 } ∷ brackets_in index before e
unfolding brackets_in
brackets_last index before d e q = rw (q, add-one)

pub filled_last : (filled : List Bool) (d e : ℕ) → d ≡ e + 1 → filled_in filled d ≡ get_or filled e false ∷ filled_in filled e
unfolding filled_in
filled_last filled d e q = rw (q, add-one)

-- None.
pub none_filled : (filled : List Bool) (d : ℕ) → d ≡ 0 → filled_in filled d ≡ []
unfolding filled_in
none_filled filled d e = rw e
