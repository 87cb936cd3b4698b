-- Numbers as bytes, once over the width: a wide number is two narrow ones (`at_add`, `bytes_add`), what stands in a file is the bytes of
-- what is read there (`read_bytes`), and bytes that stand in a file are read back (`bytes_read`).
use mathlib.Core.Path.{◌≡◌, refl, sym, ap, ◌∙◌}
use mathlib.Core.List.{List, [], ◌∷◌, ◌++◌}
use Prim.Native.Nat.{ℕ, zero, suc, ◌+◌, ◌*◌, ◌/◌, ◌%◌, ◌^◌, ◌≤◌, ◌<◌}
use native.Mathlib.Nat.{add-zero, zero-add, pow-suc, pow-succ', suc-add, mul-suc, mul_assoc, add_comm, div-one}
use native.Mathlib.Numerals.{add-one}
use native.Mathlib.Omega.{arith}
use lib.ListN.{length, get_or, drop}
use lib.Pow.{mod-mod-pow, field, shr-shr}
use lib.Seq.{drop-cons, drop-drop, drop-append_seam, get_or-drop}
use Rattle.record.specs.Bytes.{number_at, bytes_of, File}

pub length_bytes : (k v : ℕ) → length (bytes_of k v) ≡ k
unfolding bytes_of
length_bytes zero v = refl
length_bytes (suc k) v = ap suc (length_bytes k (v / 256))

-- A number of j + k bytes is one of j, and one of k above it.
pub at_add : (j k : ℕ) (file : List ℕ) (at : ℕ) → number_at (j + k) file at ≡ number_at j file at + 256 ^ j * number_at k file (at + j)
unfolding number_at
at_add zero k file at = rw (zero-add, add-zero) (omega arith)
at_add (suc j) k file at =
    let e : at + suc j ≡ at + 1 + j = omega arith in
    rw (suc-add, e, pow-succ', mul_assoc) (omega (arith, at_add j k file (at + 1)))

pub bytes_add : (j k v : ℕ) → bytes_of (j + k) v ≡ bytes_of j (v % 2 ^ (8 * j)) ++ bytes_of k (v / 2 ^ (8 * j))
unfolding bytes_of
bytes_add zero k v = rw (zero-add, div-one)
bytes_add (suc j) k v = rw (suc-add, mul-suc, mod-mod-pow v (8 * j) 8, field v (8 * j) 8, add_comm (8 * j) 8, ← shr-shr v 8 (8 * j), bytes_add j k (v / 256))

-- What follows what stands at a place.
pub past : (file r rest : List ℕ) (at : ℕ) → drop at file ≡ r ++ rest → drop (at + length r) file ≡ rest
past file r rest at e = sym (drop-drop (length r) at file) ∙ ap (drop (length r)) e ∙ drop-append_seam r rest

first_of : (file : List ℕ) (at b : ℕ) (rest : List ℕ) → drop at file ≡ b ∷ rest → get_or file at 0 ≡ b
first_of file at b rest e = ap (λ (i : ℕ). get_or file i 0) (sym (add-zero at)) ∙ sym (get_or-drop at file 0 0) ∙ ap (λ (l : List ℕ). get_or l 0 0) e

-- What is read is below its width's bound, in a file.
pub at_lt : (k : ℕ) {file : List ℕ} (at : ℕ) → File file → number_at k file at < 256 ^ k
unfolding number_at
at_lt zero at f = omega arith
at_lt (suc k) at f = omega (arith, at_lt k (at + 1) f, f.byte at, pow-suc 256 k)

-- What stands in a file is the bytes of the number that is read there.
pub read_bytes : (k : ℕ) {file : List ℕ} (at : ℕ) → File file → at + k ≤ length file → drop at file ≡ bytes_of k (number_at k file at) ++ drop (at + k) file
unfolding number_at bytes_of
read_bytes zero at f h = rw add-zero
read_bytes (suc k) {file} at f h =
    let b = get_or file at 0 in
    let above = number_at k file (at + 1) in
    let low : (b + 256 * above) % 256 ≡ b = omega (arith, f.byte at) in
    let high : (b + 256 * above) / 256 ≡ above = omega (arith, f.byte at) in
    let e : at + suc k ≡ at + 1 + k = omega arith in
    drop-cons file at 0 (omega arith) ∙ rw (low, high, e, ← add-one at) (ap (λ (l : List ℕ). b ∷ l) (read_bytes k (at + 1) f (omega arith)))

-- The same with what is known to follow, at a place that is given by an equation: so that the fields of a record chain.
pub read_then : (k : ℕ) {file rest : List ℕ} (at : ℕ) {after : ℕ} → File file → after ≤ length file → at + k ≡ after → drop after file ≡ rest → drop at file ≡ bytes_of k (number_at k file at) ++ rest
read_then k {file} at f h e r = read_bytes k at f (omega arith) ∙ ap (◌++◌ (bytes_of k (number_at k file at))) (rw e r)

-- Bytes of a number that stand in a file are read back.
pub bytes_read : (k v : ℕ) (file rest : List ℕ) (at : ℕ) → v < 256 ^ k → drop at file ≡ bytes_of k v ++ rest → number_at k file at ≡ v
unfolding number_at bytes_of
bytes_read zero v file rest at l e = omega arith
bytes_read (suc k) v file rest at l e =
    let low = first_of file at (v % 256) (bytes_of k (v / 256) ++ rest) e in
    let high = bytes_read k (v / 256) file rest (at + 1) (omega (arith, pow-suc 256 k)) (past file (v % 256 ∷ []) (bytes_of k (v / 256) ++ rest) at e) in
    omega arith

-- A number that stands in a file, and what follows it, at a place that is given by an equation.
pub field_read : (k v : ℕ) (file rest : List ℕ) (at : ℕ) {after : ℕ} → v < 256 ^ k → drop at file ≡ bytes_of k v ++ rest → at + k ≡ after → (number_at k file at ≡ v) × (drop after file ≡ rest)
field_read k v file rest at l e p = (bytes_read k v file rest at l e, rw (length_bytes, p) at (past file (bytes_of k v) rest at e))
