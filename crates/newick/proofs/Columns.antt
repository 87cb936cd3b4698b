-- The columns and, after them, the clades of the tree that is read: a clade that is put there (`clades_more`, `clade_set`), and the 0-sets (`zero_more`).
use mathlib.Core.Path.{◌≡◌, refl, sym, ◌∙◌}
use mathlib.Core.Bool.{false, cond}
use mathlib.Core.List.{List, [], ◌∷◌, ◌++◌, map, map-append, append_assoc, append-nil}
use Prim.Native.Nat.{ℕ, zero, suc, ◌+◌, ◌-◌, ◌≤◌, ◌<◌}
use native.Mathlib.Numerals.{add-one}
use native.Mathlib.Omega.{arith}
use lib.Dec.{eqb}
use lib.ListN.{length, get_or, set, take, drop, length-set, length-drop}
use lib.Seq.{take-set-le, drop-set-add, take-set-lt, take-suc, take-suc-set, get_or-drop}
use borrow.Author.Tests.{ne_eqb}
use Rattle.taxa.specs.Sets.{◌∖◌}
use Rattle.newick.specs.inner.Book.{clade_put}

not_first : (i : ℕ) → eqb (suc i) 0 ≡ false
not_first i = ne_eqb (suc i) 0 (λ e. absurd (omega arith))

one_less : (i : ℕ) → suc i - 1 ≡ i
one_less i = omega arith

pub more_less : (i : ℕ) → i + 1 - 1 ≡ i
more_less i = omega arith

-- A clade put after the columns leaves them,
pub columns_kept : (ones : List ℕ) (columns i clade : ℕ) → take columns (clade_put ones columns i clade) ≡ take columns ones
unfolding clade_put
columns_kept ones columns zero clade = refl
columns_kept ones columns (suc i) clade = take-set-le columns ones (columns + i) clade (omega arith)

pub length_put : (ones : List ℕ) (columns i clade : ℕ) → length (clade_put ones columns i clade) ≡ length ones
unfolding clade_put
length_put ones columns zero clade = refl
length_put ones columns (suc i) clade = length-set ones (columns + i) clade

-- .. and is one clade more,
pub clades_more : (ones : List ℕ) (columns opened : ℕ) → columns + opened ≤ length ones
    → take opened (drop columns (clade_put ones columns opened 0))
    ≡ cond (eqb opened 0) (take (opened - 1) (drop columns ones)) (take (opened - 1) (drop columns ones) ++ 0 ∷ [])
unfolding clade_put
clades_more ones columns zero l = refl
clades_more ones columns (suc i) l =
    let room : i < length (drop columns ones) = omega (arith, length-drop columns ones) in
    rw (not_first i, one_less i, drop-set-add columns ones i 0) (take-suc-set (drop columns ones) i 0 room)

-- .. or takes its place among the clades.
pub clade_set : (ones : List ℕ) (columns opened i clade : ℕ) → i < opened
    → take (opened - 1) (drop columns (clade_put ones columns i clade))
    ≡ cond (eqb i 0) (take (opened - 1) (drop columns ones)) (set (take (opened - 1) (drop columns ones)) (i - 1) clade)
unfolding clade_put
clade_set ones columns opened zero clade l = refl
clade_set ones columns opened (suc i) clade l =
    rw (not_first i, one_less i, drop-set-add columns ones i clade) (take-set-lt (opened - 1) (drop columns ones) i clade (omega arith))

-- As the code puts it: the root's has no place.
pub put_root : (ones : List ℕ) (columns i clade : ℕ) → i ≡ 0 → ones ≡ clade_put ones columns i clade
unfolding clade_put
put_root ones columns i clade e = rw e

pub put_other : (ones : List ℕ) (columns i clade : ℕ) → (i ≡ 0 → ⊥) → set ones (columns + i - 1) clade ≡ clade_put ones columns i clade
unfolding clade_put
put_other ones columns zero clade n = absurd (n refl)
put_other ones columns (suc i) clade n = let at : columns + suc i - 1 ≡ columns + i = omega arith in rw at

-- The 0-sets of no columns, and of one more.
pub no_zeros : (ones zeros : List ℕ) (here first : ℕ) → take first zeros ≡ take first zeros ++ map (λ x. here ∖ x) (take (first - first) (drop first ones))
no_zeros ones zeros here first = let none : first - first ≡ 0 = omega arith in rw none (sym (append-nil (take first zeros)))

pub zero_more : (ones zeros kept : List ℕ) (here first c : ℕ) → first ≤ c → c < length ones → c < length zeros
    → take c zeros ≡ kept ++ map (λ x. here ∖ x) (take (c - first) (drop first ones))
    → take (c + 1) (set zeros c (here ∖ get_or ones c 0)) ≡ kept ++ map (λ x. here ∖ x) (take (c + 1 - first) (drop first ones))
zero_more ones zeros kept here first c l i j e =
    let size : c + 1 - first ≡ suc (c - first) = omega arith in
    let place : first + (c - first) ≡ c = omega arith in
    let next : take (suc (c - first)) (drop first ones) ≡ take (c - first) (drop first ones) ++ (get_or ones c 0 ∷ []) =
    take-suc (drop first ones) (c - first) 0 (omega (arith, length-drop first ones)) ∙ rw (get_or-drop first ones (c - first) 0, place)
    in
    rw (size, next, map-append (λ x. here ∖ x) (take (c - first) (drop first ones)) (get_or ones c 0 ∷ []), ← append_assoc, ← e, add-one c)
    (take-suc-set zeros c (here ∖ get_or ones c 0) j)
