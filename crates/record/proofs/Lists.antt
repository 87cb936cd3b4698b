-- Elements of a list by their number: what stands at a number is in the list (`get_or_in`), and what is in the list stands at one (`in_get_or`).
use mathlib.Core.Path.{◌≡◌, refl}
use mathlib.Core.List.{List, [], ◌∷◌, Memᴰ}
use Prim.Native.Nat.{ℕ, zero, suc, ◌<◌}
use native.Mathlib.Omega.{arith}
use lib.ListN.{length, get_or}

pub get_or_in : {A : Type 0} (d : A) (l : List A) (i : ℕ) → i < length l → Memᴰ (get_or l i d) l
get_or_in d [] i b = absurd (omega arith)
get_or_in d (x ∷ xs) zero b = Memᴰ.head refl
get_or_in d (x ∷ xs) (suc i) b = Memᴰ.tail (get_or_in d xs i (omega arith))

pub in_get_or : {A : Type 0} (d : A) {x : A} {l : List A} → Memᴰ x l → (i : ℕ) × (i < length l) × (x ≡ get_or l i d)
in_get_or d (Memᴰ.head e) = (0, omega arith, e)
in_get_or d (Memᴰ.tail m) = let (i, b, e) = in_get_or d m in (suc i, omega arith, e)
