-- Records whose length may vary: which lengths are allowed (`allowed_is`, `is_allowed`), what a step that is taken says of the file (`varying_held`), and that
-- a record that stands in a file is taken (`varying_taken`).
use mathlib.Core.Path.{◌≡◌, refl, sym, ap, ◌∙◌, subst}
use mathlib.Core.Bool.{Bool, true, false, ◌&&◌, cond, or-false, and-eq-true_iff}
use mathlib.Core.List.{List, ◌++◌}
use Prim.Native.Nat.{ℕ, ◌+◌, ◌-◌, ◌%◌, ◌≤◌, ◌<◌}
use native.Mathlib.Nat.{zero-mod}
use native.Mathlib.Decide.{dec_lt}
use native.Mathlib.Omega.{arith}
use lib.Dec.{leb, eqb}
use lib.ListN.{length, drop}
use borrow.Author.Tests.{eq-eqb, ne_eqb, lt-ltb, le-ltb, le-leb, eqb-true, leb-true}
use Rattle.record.specs.Bytes.{number_at}
use Rattle.record.specs.Records.{allowed, varied, varying_step, record_bytes}
use Rattle.record.specs.declared.Cursor.{Cursor}
use Rattle.record.specs.declared.Record.{Record}
use Rattle.record.specs.declared.Varying.{Varying}
use Rattle.record.specs.declared.Step.TheVariants.{Payload}
use Rattle.record.proofs.Steps.{Held, held, record_taken}

-- A record of a kind and a length.
abbrev pub sized : ℕ → ℕ → Record
sized kind l = record { kind = kind; length = l }

-- Up to the least only the least is allowed, and above it the other two tests decide.
module _ (v : Varying) (l : ℕ) where
  pub up_to_least : l ≤ v.least → eqb l v.least ≡ allowed v l
  unfolding allowed
  up_to_least h = rw (le-ltb _ _ h, or-false)

  pub above_least : v.least < l → (leb l v.most && eqb ((l - v.least) % v.by) 0) ≡ allowed v l
  unfolding allowed
  above_least h = rw (ne_eqb l v.least (λ e. omega arith), lt-ltb _ _ h)

  -- Of a least that is not above the most: which lengths these are.
  pub allowed_is : v.least ≤ v.most → allowed v l ≡ true → (v.least ≤ l) × (l ≤ v.most) × ((l - v.least) % v.by ≡ 0)
  allowed_is h a =
      elim (dec_lt v.least l) [
        | yes more ↦
            let (high, step) = (and-eq-true_iff (leb l v.most) (eqb ((l - v.least) % v.by) 0)).0 (above_least more ∙ a) in
            (omega arith, leb-true l v.most high, eqb-true _ 0 step)
        | no none ↦
            let same = eqb-true l v.least (up_to_least (omega arith) ∙ a) in
            let no_more : l - v.least ≡ 0 = omega arith in
            (omega arith, omega arith, rw no_more (zero-mod v.by))
      ]

  pub is_allowed : v.least ≤ l → l ≤ v.most → (l - v.least) % v.by ≡ 0 → allowed v l ≡ true
  is_allowed low high step =
      elim (dec_lt v.least l) [
        | yes more ↦ sym (above_least more) ∙ rw (le-leb l v.most high, eq-eqb ((l - v.least) % v.by) 0 step)
        | no none ↦ sym (up_to_least (omega arith)) ∙ eq-eqb l v.least (omega arith)
      ]

-- The least is allowed, so that a length that is not differs from it.
least_allowed : (v : Varying) → allowed v v.least ≡ true
unfolding allowed
least_allowed v = rw (eq-eqb v.least v.least refl)

-- Of a length that is the expected one: it is allowed.
expected_allowed : (v : Varying) (l : ℕ) → l ≡ (varied v l).length → allowed v l ≡ true
expected_allowed v l = go (allowed v l) refl
  where
    go : (b : Bool) → allowed v l ≡ b → l ≡ cond b l v.least → allowed v l ≡ true
    go true a e = a
    go false a e = ap (allowed v) e ∙ least_allowed v

pub varied_is : (v : Varying) (l : ℕ) → allowed v l ≡ true → varied v l ≡ sized v.kind l
varied_is v l a = rw a

pub varying_held : (v : Varying) {file : List ℕ} {at b : ℕ} {next : Cursor} → Payload b next ≡ varying_step file at v
    → (allowed v (number_at 2 file at) ≡ true) × Held file at (sized v.kind (number_at 2 file at)) b next
unfolding varying_step
varying_held v {file} {at} {b} {next} e =
    let h = held e in
    let a = expected_allowed v (number_at 2 file at) h.length_is in
    (a, subst (λ (it : Record). Held file at it b next) (varied_is v (number_at 2 file at) a) h)

-- A record that stands in a file with a length that is allowed is taken.
pub varying_taken : (file content rest : List ℕ) (at : ℕ) (v : Varying) → drop at file ≡ record_bytes (sized v.kind (length content)) content ++ rest
    → allowed v (length content) ≡ true → length content < 65536 → v.kind < 65536
    → Payload (at + 4) (record { at = at + 4 + length content }) ≡ varying_step file at v
unfolding varying_step
varying_taken file content rest at v e a l k =
    let taken = record_taken file content rest at (sized v.kind (length content)) e l k refl in
    let n : number_at 2 file at ≡ length content = (held taken).length_is in
    rw (n, varied_is v (length content) a) taken
