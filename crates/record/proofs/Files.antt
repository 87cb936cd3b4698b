-- Records as they are written: each is bytes where its content is (`record_file`), and how long it is (`length_record`).
use mathlib.Core.Path.{◌≡◌}
use mathlib.Core.List.{List, [], ◌∷◌, ◌++◌, append-nil}
use Prim.Native.Nat.{ℕ, zero, suc, ◌+◌, ◌/◌, ◌<◌}
use native.Mathlib.Omega.{arith}
use lib.ListN.{length, get_or, length-append}
use Rattle.record.specs.Bytes.{bytes_of, File}
use Rattle.record.specs.Records.{record_bytes, opening_of}
use Rattle.record.specs.declared.Record.{Record}
use Rattle.record.proofs.Numbers.{length_bytes}

pub no_bytes : File []
no_bytes = record { byte = λ i. omega arith }

pub one_more : {b : ℕ} {xs : List ℕ} → b < 256 → File xs → File (b ∷ xs)
one_more {b} {xs} l f = record { byte = at }
  where
    at : (i : ℕ) → get_or (b ∷ xs) i 0 < 256
    at zero = l
    at (suc i) = f.byte i

pub join : (xs : List ℕ) {ys : List ℕ} → File xs → File ys → File (xs ++ ys)
join [] f g = g
join (x ∷ xs) f g = one_more (f.byte 0) (join xs (record { byte = λ i. f.byte (suc i) }) g)

pub number : (k v : ℕ) → File (bytes_of k v)
unfolding bytes_of
number zero v = no_bytes
number (suc k) v = one_more (omega arith) (number k (v / 256))

pub record_file : (it : Record) {content : List ℕ} → File content → File (record_bytes it content)
unfolding record_bytes opening_of
record_file it f = join _ (join _ (number 2 it.length) (number 2 it.kind)) f

pub length_opening : (it : Record) → length (opening_of it) ≡ 4
unfolding opening_of
length_opening it = simp (length-append, length_bytes)

pub length_record : (it : Record) (content : List ℕ) → length (record_bytes it content) ≡ 4 + length content
unfolding record_bytes
length_record it content = simp (length-append, length_opening)

-- A record with no payload is its opening.
pub opening_only : (it : Record) → record_bytes it [] ≡ opening_of it
unfolding record_bytes
opening_only it = append-nil (opening_of it)
