-- Lists of names: taxa by first appearance, and names that differ.
use mathlib.Core.Path.{◌≡◌, refl}
use mathlib.Core.Bool.{Bool, true, false, cond}
use mathlib.Core.List.{List, [], ◌∷◌, ◌++◌, append_assoc, append-nil}
use Prim.Native.Nat.{suc, ◌+◌, ◌≤◌}
use native.Mathlib.Omega.{arith}
use lib.ListN.{length, length-append, set}
use Rattle.grammar.specs.Columns.{Bytes}
use Rattle.grammar.specs.Limits.{is_in, seen, Distinct, end, next}

pub seen_append : (ns ks ms : List Bytes) → seen ns (ks ++ ms) ≡ seen (seen ns ks) ms
unfolding seen
seen_append ns [] ms = refl
seen_append ns (a ∷ ks) ms = seen_append (cond (is_in a ns) ns (ns ++ a ∷ [])) ks ms

one_more : (ns : List Bytes) (m : Bytes) (c : Bool) → length ns ≤ length (cond c ns (ns ++ m ∷ []))
one_more ns m true = omega arith
one_more ns m false = omega (arith, length-append ns (m ∷ []))

pub seen_grows : (ns ms : List Bytes) → length ns ≤ length (seen ns ms)
unfolding seen
seen_grows ns [] = omega arith
seen_grows ns (m ∷ ms) = omega (arith, one_more ns m (is_in m ns), seen_grows (cond (is_in m ns) ns (ns ++ m ∷ [])) ms)

pub distinct_former : {ns : List Bytes} (ks ms : List Bytes) → Distinct ns (ks ++ ms) → Distinct ns ks
distinct_former [] ms d = end
distinct_former (k ∷ ks) ms (next e d) = next e (distinct_former ks ms d)

pub distinct_latter : (ns ks ms : List Bytes) → Distinct ns (ks ++ ms) → Distinct (ns ++ ks) ms
distinct_latter ns [] ms d = rw append-nil d
distinct_latter ns (k ∷ ks) ms (next e d) = rw (append_assoc ns (k ∷ []) ks) at (distinct_latter (ns ++ k ∷ []) ks ms d)

pub distinct_both : (ns ks ms : List Bytes) → Distinct ns ks → Distinct (ns ++ ks) ms → Distinct ns (ks ++ ms)
distinct_both ns [] ms c d = rw append-nil at d
distinct_both ns (k ∷ ks) ms (next e c) d = next e (distinct_both (ns ++ k ∷ []) ks ms c (rw (append_assoc ns (k ∷ []) ks) d))

pub set_at {ℓ} : {A : Type ℓ} (xs : List A) (y z : A) (ys : List A) → set (xs ++ y ∷ ys) (length xs) z ≡ xs ++ z ∷ ys
set_at [] y z ys = refl
set_at (x ∷ xs) y z ys = rw (set_at xs y z ys)

one_most : (ns : List Bytes) (m : Bytes) (c : Bool) → length (cond c ns (ns ++ m ∷ [])) ≤ suc (length ns)
one_most ns m true = omega arith
one_most ns m false = omega (arith, length-append ns (m ∷ []))

pub seen_most : (ns ms : List Bytes) → length (seen ns ms) ≤ length ns + length ms
unfolding seen
seen_most ns [] = omega arith
seen_most ns (m ∷ ms) = omega (arith, one_most ns m (is_in m ns), seen_most (cond (is_in m ns) ns (ns ++ m ∷ [])) ms)
