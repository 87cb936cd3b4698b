-- Reading a record: one law for each way a step can end (`no_opening` .. `payload_at`), also of a record that the file has room for (`other_opening`,
-- `same_opening`) and has no room for (`cut_short`), what a taken step says of the file (`Held`, `held`, `record_bytes_lem`), that a record that stands in a file is
-- taken (`record_taken`), and which record starts at a place (`finds_none`, `finds_kind`).
use mathlib.Core.Path.{◌≡◌, refl, sym, ap, ◌∙◌}
use mathlib.Core.Bool.{Bool, true, false, ◌&&◌, cond}
use mathlib.Core.List.{List, ◌++◌, append_assoc}
use mathlib.Core.Logic.{◌≢◌}
use Prim.Native.Nat.{ℕ, ◌+◌, ◌*◌, ◌-◌, ◌<◌, ◌≤◌}
use Rattle.std.specs.Prelude.{Ok, Err}
use native.Mathlib.Decide.{ℕ_discrete}
use native.Mathlib.Omega.{arith}
use lib.Dec.{ltb, eqb, lit<, lit≤}
use lib.ListN.{length, drop, length-append, length-drop}
use borrow.Author.Tests.{lt-ltb, le-ltb, lt-leb, le-leb, eq-eqb, ne_eqb, ltb-false, eqb-true}
use Rattle.record.specs.Bytes.{number_at, bytes_of, File}
use Rattle.record.specs.Records.{left, step, opening_of, record_bytes, finds, nothing_after}
use Rattle.record.specs.declared.Cursor.{Cursor}
use Rattle.record.specs.declared.Record.{Record}
use Rattle.record.specs.declared.refusal.Refusal.{Refusal}
use Rattle.record.specs.declared.Step.{Step}
use Rattle.record.specs.declared.Step.TheVariants.{Payload, Refused}
use Rattle.record.proofs.Numbers.{length_bytes, at_add, at_lt, past, read_bytes, bytes_read}
use Rattle.record.specs.declared.refusal.Reason.TheVariants as reason
use Rattle.record.specs.Refusals.{refused, refusal_number}

module _ (file : List ℕ) (at : ℕ) (it : Record) where
  pub no_opening : left file at < 4 → Refused (refused reason.CutShort at) ≡ step file at it
  unfolding step
  no_opening h = rw (lt-ltb _ _ h)

  pub other_kind : 4 ≤ left file at → number_at 2 file (at + 2) ≢ it.kind → Refused (refused reason.Unexpected at) ≡ step file at it
  unfolding step
  other_kind h k = rw (le-ltb _ _ h, ne_eqb _ _ k)

  pub other_length : 4 ≤ left file at → number_at 2 file (at + 2) ≡ it.kind → number_at 2 file at ≢ it.length → Refused (refused reason.Unexpected at) ≡ step file at it
  unfolding step
  other_length h k l = rw (le-ltb _ _ h, eq-eqb _ _ k, ne_eqb _ _ l)

  module _ (h : 4 ≤ left file at) (k : number_at 2 file (at + 2) ≡ it.kind) (l : number_at 2 file at ≡ it.length) where
    pub payload_short : left file at - 4 < it.length → Refused (refused reason.CutShort at) ≡ step file at it
    unfolding step
    payload_short b = rw (le-ltb _ _ h, eq-eqb _ _ k, eq-eqb _ _ l, lt-ltb _ _ b)

    pub payload_at : it.length ≤ left file at - 4 → Payload (at + 4) (record { at = at + 4 + it.length }) ≡ step file at it
    unfolding step
    payload_at b = rw (le-ltb _ _ h, eq-eqb _ _ k, eq-eqb _ _ l, le-ltb _ _ b)

-- Length and kind read as one number.
module _ {file : List ℕ} (f : File file) (at : ℕ) (it : Record) where
  two_numbers : number_at 4 file at ≡ number_at 2 file at + 65536 * number_at 2 file (at + 2)
  two_numbers = at_add 2 2 file at

  pub other_opening : 4 ≤ left file at → number_at 4 file at ≢ it.length + 65536 * it.kind → Refused (refused reason.Unexpected at) ≡ step file at it
  other_opening h d =
      elim (ℕ_discrete (number_at 2 file (at + 2)) it.kind) [
        | yes k ↦ other_length file at it h k (λ l. d (omega (arith, two_numbers)))
        | no nk ↦ other_kind file at it h nk
      ]

  pub same_opening : it.length < 65536 → 4 + it.length ≤ left file at → number_at 4 file at ≡ it.length + 65536 * it.kind
      → Payload (at + 4) (record { at = at + 4 + it.length }) ≡ step file at it
  same_opening fits h e =
      let low = at_lt 2 at f in
      payload_at file at it (omega arith) (omega (arith, two_numbers)) (omega (arith, two_numbers)) (omega arith)

-- A record that the file has no room for is refused.
pub cut_short : (file : List ℕ) (at : ℕ) (it : Record) → left file at < 4 + it.length → (why : Refusal) × (Refused why ≡ step file at it)
unfolding step
cut_short file at it short = go (ltb (left file at) 4) (eqb (number_at 2 file (at + 2)) it.kind && eqb (number_at 2 file at) it.length) refl
  where
    go : (few sound : Bool) → ltb (left file at) 4 ≡ few
        → (why : Refusal) × (Refused why ≡ cond few (Refused (refused reason.CutShort at))
        (cond sound (cond (ltb (left file at - 4) it.length) (Refused (refused reason.CutShort at)) (Payload (at + 4) (record { at = at + 4 + it.length })))
        (Refused (refused reason.Unexpected at))))
    go true sound e = (refused reason.CutShort at, refl)
    go false false e = (refused reason.Unexpected at, refl)
    go false true e = (refused reason.CutShort at, rw (lt-ltb (left file at - 4) it.length (omega (arith, ltb-false (left file at) 4 e))))

-- What a payload that was found says of the file.
pub record Held (file : List ℕ) (at : ℕ) (it : Record) (b : ℕ) (next : Cursor) : Type 0 where
  pub starts : b ≡ at + 4
  pub moves : next.at ≡ at + 4 + it.length
  pub ends : b + it.length ≤ length file
  pub kind : number_at 2 file (at + 2) ≡ it.kind
  pub length_is : number_at 2 file at ≡ it.length

abbrev HeldIn : List ℕ → ℕ → Record → Step → Type 0
HeldIn file at it (Payload b next) = Held file at it b next
HeldIn file at it (Refused why) = Unit {0}

held_in : (file : List ℕ) (at : ℕ) (it : Record) → HeldIn file at it (step file at it)
unfolding step
held_in file at it = go (ltb (left file at) 4) (eqb (number_at 2 file (at + 2)) it.kind) (eqb (number_at 2 file at) it.length) (ltb (left file at - 4) it.length) refl refl refl refl
  where
    go : (few kind len short : Bool) → ltb (left file at) 4 ≡ few → eqb (number_at 2 file (at + 2)) it.kind ≡ kind → eqb (number_at 2 file at) it.length ≡ len
        → ltb (left file at - 4) it.length ≡ short
        → HeldIn file at it (cond few (Refused (refused reason.CutShort at)) (cond (kind && len) (cond short (Refused (refused reason.CutShort at)) (Payload (at + 4) (record { at = at + 4 + it.length }))) (Refused (refused reason.Unexpected at))))
    go true kind len short f k l s = tt
    go false false len short f k l s = tt
    go false true false short f k l s = tt
    go false true true true f k l s = tt
    go false true true false f k l s =
        record { starts = refl; moves = refl; ends = omega (arith, ltb-false); kind = eqb-true _ _ k; length_is = eqb-true _ _ l }

pub held : {file : List ℕ} {at : ℕ} {it : Record} {b : ℕ} {next : Cursor} → Payload b next ≡ step file at it → Held file at it b next
held {file} {at} {it} e = rw (← e) at (held_in file at it)

-- A step moves on by the record's length, or is refused at the record's start, by 1 or 2.
abbrev pub EndsBy : ℕ → Record → Step → Type 0
EndsBy at it (Payload b next) = next.at ≡ at + 4 + it.length
EndsBy at it (Refused why) = (why.place ≡ at) × (0 < refusal_number why.reason) × (refusal_number why.reason ≤ 2)

-- What holds of both ways a test can go holds of what it comes to.
pub either_way : {A : Type 0} (P : A → Type 0) (b : Bool) {x y : A} → P x → P y → P (cond b x y)
either_way P true p q = p
either_way P false p q = q

pub step_ends : (file : List ℕ) (at : ℕ) (it : Record) → EndsBy at it (step file at it)
unfolding step
step_ends file at it =
    either_way (EndsBy at it) (ltb (left file at) 4) (refl, lit< tt, lit≤ tt)
    (either_way (EndsBy at it) (eqb (number_at 2 file (at + 2)) it.kind && eqb (number_at 2 file at) it.length)
    (either_way (EndsBy at it) (ltb (left file at - 4) it.length) (refl, lit< tt, lit≤ tt) refl)
    (refl, lit< tt, lit≤ tt))

-- ---- a file and the records that stand in it

-- A record that is taken stands in the file: its length and kind, and then whatever stands where its payload starts.
opening_bytes : {file : List ℕ} {at : ℕ} {it : Record} {b : ℕ} {next : Cursor} → File file → Held file at it b next → drop at file ≡ opening_of it ++ drop b file
unfolding opening_of
opening_bytes {file} {at} {it} f h =
    let e : at + 2 + 2 ≡ at + 4 = omega arith in
    let len = rw h.length_is at (read_bytes 2 at f (omega arith)) in
    let kind = rw (h.kind, e) at (read_bytes 2 (at + 2) f (omega arith)) in
    len ∙ ap (◌++◌ (bytes_of 2 it.length)) kind ∙ rw (h.starts, append_assoc)

pub record_bytes_lem : (content rest : List ℕ) {file : List ℕ} {at : ℕ} {it : Record} {b : ℕ} {next : Cursor} → File file → Held file at it b next
    → drop b file ≡ content ++ rest → drop at file ≡ record_bytes it content ++ rest
unfolding record_bytes
record_bytes_lem content rest {it = it} f h e = opening_bytes f h ∙ ap (◌++◌ (opening_of it)) e ∙ sym (append_assoc (opening_of it) content rest)

-- A record that stands in a file is taken, and its content stands where the payload starts.
module _ (file content rest : List ℕ) (at : ℕ) (it : Record) (e : drop at file ≡ record_bytes it content ++ rest) where
  opened : drop at file ≡ bytes_of 2 it.length ++ (bytes_of 2 it.kind ++ (content ++ rest))
  unfolding record_bytes opening_of
  opened = e ∙ simp append_assoc

  after_length : drop (at + 2) file ≡ bytes_of 2 it.kind ++ (content ++ rest)
  after_length = rw length_bytes at (past file (bytes_of 2 it.length) (bytes_of 2 it.kind ++ (content ++ rest)) at opened)

  pub content_stands : drop (at + 4) file ≡ content ++ rest
  content_stands =
      let n : at + 2 + 2 ≡ at + 4 = omega arith in
      rw (length_bytes, n) at (past file (bytes_of 2 it.kind) (content ++ rest) (at + 2) after_length)

  room : left file at ≡ 4 + (length content + length rest)
  room = sym (length-drop at file) ∙ ap length opened ∙ simp (length-append, length_bytes) (omega arith)

  pub record_taken : it.length < 65536 → it.kind < 65536 → length content ≡ it.length → Payload (at + 4) (record { at = at + 4 + it.length }) ≡ step file at it
  record_taken l k h =
      payload_at file at it (omega (arith, room))
      (bytes_read 2 it.kind file (content ++ rest) (at + 2) k after_length)
      (bytes_read 2 it.length file (bytes_of 2 it.kind ++ (content ++ rest)) at l opened)
      (omega (arith, room))

-- Which record starts at a place.
module _ (file : List ℕ) (at kind : ℕ) where
  pub finds_none : left file at < 4 → false ≡ finds file at kind
  unfolding finds
  finds_none h = rw (lt-leb _ _ h)

  pub finds_kind : 4 ≤ left file at → eqb (number_at 2 file (at + 2)) kind ≡ finds file at kind
  unfolding finds
  finds_kind h = rw (le-leb _ _ h)

-- Past the end record.
module _ (file : List ℕ) (here : Cursor) where
  pub more_after : 0 < left file here.at → Err (refused reason.Trailing here.at) ≡ nothing_after file here
  unfolding nothing_after
  more_after h = rw (lt-ltb _ _ h)

  pub none_after : left file here.at ≤ 0 → Ok here ≡ nothing_after file here
  unfolding nothing_after
  none_after h = rw (le-ltb _ _ h)
