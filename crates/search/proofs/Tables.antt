-- A table of so many places, filled from the front, one store a turn.
use Prim.Native.Nat.{ℕ, ◌+◌, ◌<◌}
use mathlib.Core.Path.{◌≡◌, ◌∙◌}
use mathlib.Core.List.{List}
use mathlib.Core.Logic.{⊎_elim}
use native.Mathlib.Omega.{arith}
use lib.ListN.{length, set, length-set}
use lib.Seq.{get_or-set_same, get_or-set_other}
use Rattle.search.specs.Search.{nth}
use Rattle.method.proofs.Carry.{same?}

-- The places below c have what f says.
pub record Table (room : ℕ) (f : ℕ → ℕ) (l : List ℕ) (c : ℕ) : Type 0 where
  pub long : length l ≡ room
  pub is : (e : ℕ) → e < c → nth l e ≡ f e

pub table_start : {room : ℕ} (f : ℕ → ℕ) {l : List ℕ} → length l ≡ room → Table room f l 0
table_start f h = record { long = h; is = λ e b. absurd (omega arith) }

pub table_next : {room : ℕ} {f : ℕ → ℕ} {l : List ℕ} {c v : ℕ} → Table room f l c → c < room → v ≡ f c → Table room f (set l c v) (c + 1)
table_next {f = f} {l} {c} {v} t b q = record {
  long = length-set l c v ∙ t.long;
  is = λ e h. ⊎_elim (λ p. rw p (get_or-set_same l c v 0 (omega (arith, t.long)) ∙ q)) (λ ne. get_or-set_other l c e v 0 ne ∙ t.is e (omega arith)) (same? e c);
}
