-- Rows of numbers and of flips: what the loops over a list of flips know of the lists that they fill.
--     set_next             the first k elements are replaced, and then element k: the first k + 1 are.        length_over, within_over      that many elements stay, and k is below
--     …_copied             the same where the elements are one number of each flip
--     long_zipped, zipped_at       of three rows as one
use mathlib.Core.Path.{◌≡◌, refl, sym, ◌∙◌, ap, subst}
use Prim.Native.Nat.{ℕ, zero, suc, ◌<◌, ◌≤◌, zero-le}
use native.Mathlib.Nat.{not-suc-le-zero, le_of_suc-le-suc, le_of_lt}
use native.Mathlib.Omega.{arith}
use mathlib.Core.List.{List, [], ◌∷◌, map}
use lib.ListN.{length, get_or, set, length-map, get_or-map}
use Rattle.entries.specs.declared.Flip.{Flip}
use Rattle.entries.specs.Entries.{zipped}
use Rattle.entries.specs.inner.Parts.{with_first}

-- what `get_or` gives past the end of a list of flips
abbrev pub blank : Flip
blank = record { column = 0; raised = 0; lowered = 0 }

pub set_next : {X : Type 0} (k : ℕ) (xs zs : List X) (d : X) → k < length xs → k < length zs → set (with_first k xs zs) k (get_or xs k d) ≡ with_first (suc k) xs zs
set_next k [] zs d l m = absurd (not-suc-le-zero l)
set_next k (x ∷ xs) [] d l m = absurd (not-suc-le-zero m)
set_next zero (x ∷ xs) (z ∷ zs) d l m = refl
set_next {X} (suc k) (x ∷ xs) (z ∷ zs) d l m = ap {B = List X} (λ r. x ∷ r) (set_next k xs zs d (le_of_suc-le-suc l) (le_of_suc-le-suc m))

pub length_over : {X : Type 0} (k : ℕ) (xs zs : List X) → k ≤ length xs → k ≤ length zs → length (with_first k xs zs) ≡ length zs
length_over zero xs zs l m = refl
length_over (suc k) [] zs l m = absurd (not-suc-le-zero l)
length_over (suc k) (x ∷ xs) [] l m = absurd (not-suc-le-zero m)
length_over (suc k) (x ∷ xs) (z ∷ zs) l m = ap suc (length_over k xs zs (le_of_suc-le-suc l) (le_of_suc-le-suc m))

pub within_over : {X : Type 0} (k : ℕ) (xs zs : List X) → k < length xs → k < length zs → k < length (with_first k xs zs)
within_over k xs zs l m = subst (λ (n : ℕ). k < n) (sym (length_over k xs zs (le_of_lt l) (le_of_lt m))) m

-- ---- one number of each flip
pub length_copied : (f : Flip → ℕ) (k : ℕ) (ys : List Flip) (cs : List ℕ) → k ≤ length ys → k ≤ length cs → length (with_first k (map f ys) cs) ≡ length cs
length_copied f k ys cs l m = length_over k (map f ys) cs (subst (λ (n : ℕ). k ≤ n) (sym (length-map ys f)) l) m

pub within_copied : (f : Flip → ℕ) (k : ℕ) (ys : List Flip) (cs : List ℕ) → k < length ys → k < length cs → k < length (with_first k (map f ys) cs)
within_copied f k ys cs l m = within_over k (map f ys) cs (subst (λ (n : ℕ). k < n) (sym (length-map ys f)) l) m

pub set_copied : (f : Flip → ℕ) (k : ℕ) (ys : List Flip) (cs : List ℕ) → k < length ys → k < length cs → set (with_first k (map f ys) cs) k (f (get_or ys k blank)) ≡ with_first (suc k) (map f ys) cs
set_copied f k ys cs l m = ap (set (with_first k (map f ys) cs) k) (sym (get_or-map f ys k blank)) ∙ set_next k (map f ys) cs (f blank) (subst (λ (n : ℕ). k < n) (sym (length-map ys f)) l) m

-- ---- three rows as one
pub long_zipped : (k : ℕ) (cs us ds : List ℕ) → k ≤ length cs → k ≤ length us → k ≤ length ds → k ≤ length (zipped cs us ds)
long_zipped zero cs us ds l m n = zero-le
long_zipped (suc k) [] us ds l m n = absurd (not-suc-le-zero l)
long_zipped (suc k) (c ∷ cs) [] ds l m n = absurd (not-suc-le-zero m)
long_zipped (suc k) (c ∷ cs) (u ∷ us) [] l m n = absurd (not-suc-le-zero n)
long_zipped (suc k) (c ∷ cs) (u ∷ us) (d ∷ ds) l m n =
    let ih : k ≤ length (zipped cs us ds) = long_zipped k cs us ds (le_of_suc-le-suc l) (le_of_suc-le-suc m) (le_of_suc-le-suc n) in omega arith

pub zipped_at : (k : ℕ) (cs us ds : List ℕ) → k < length cs → k < length us → k < length ds → record { column = get_or cs k 0; raised = get_or us k 0; lowered = get_or ds k 0 } ≡ get_or (zipped cs us ds) k blank
zipped_at k [] us ds l m n = absurd (not-suc-le-zero l)
zipped_at k (c ∷ cs) [] ds l m n = absurd (not-suc-le-zero m)
zipped_at k (c ∷ cs) (u ∷ us) [] l m n = absurd (not-suc-le-zero n)
zipped_at zero (c ∷ cs) (u ∷ us) (d ∷ ds) l m n = refl
zipped_at (suc k) (c ∷ cs) (u ∷ us) (d ∷ ds) l m n = zipped_at k cs us ds (le_of_suc-le-suc l) (le_of_suc-le-suc m) (le_of_suc-le-suc n)
