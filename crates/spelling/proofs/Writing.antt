-- The operation by its rows: refused by the answer (`answer_refused`), by the list (`list_refused`), for the number of names (`other_count`, 15), for the room
-- (`no_room`, 10), or the text (`wrote`). The text has room aside (`tellable`).
use mathlib.Core.Path.{◌≡◌, refl, ap, ◌∙◌}
use mathlib.Core.List.{List}
use Prim.Native.Nat.{ℕ, ◌+◌, ◌*◌, ◌≤◌, ◌<◌}
use native.Mathlib.Omega.{arith}
use lib.ListN.{length}
use borrow.Author.Tests.{eq-eqb, ne_eqb, lt-ltb, le-ltb}
use Rattle.std.specs.Prelude.{Result, Ok, Err}
use Rattle.taxa.proofs.Members.{all_fits}
use Rattle.record.specs.Bytes.{File, over}
use Rattle.record.specs.declared.Cursor.{Cursor}
use Rattle.answer.specs.declared.Answer.{Answer}
use Rattle.answer.specs.Content.{content_in, answer_of}
use Rattle.answer.specs.Reading.{file_tests}
use Rattle.answer.proofs.Accepted.{taken_lawful}
use Rattle.answer.proofs.Outcomes.{laid, groups_placed, groups_first}
use Rattle.clades.proofs.Drawn.{drawn_shows}
use Rattle.record.specs.Refusals.{refused}
use Rattle.record.specs.declared.refusal.Refusal.{Refusal}
use Rattle.record.specs.declared.refusal.Reason.TheVariants as reason
use Rattle.names.specs.Check.{checked}
use Rattle.names.proofs.Taken.{taken_count}
use Rattle.spelling.specs.Write.{name_in, text_of, after_both, spelled, output_after, returned, Spells}
use Rattle.spelling.specs.inner.Spell.{text_for, groups_of, Readable, Tellable}
use Rattle.spelling.proofs.Accepted.{lawful_groups, lawful_root, names_for}
use Rattle.spelling.proofs.Lengths.{text_short}

-- ---- both files were read

module _ (answer list : List ℕ) (count : ℕ) {a : Answer} (value : a ≡ answer_of (content_in answer)) where
  text_for_lem : text_for (groups_of a) list a.n ≡ text_of answer list
  text_for_lem = ap (λ gs. text_for gs list a.n) (groups_first answer value) ∙ ap (λ (v : Answer). text_for (content_in answer).taxa list v.n) value

  -- What is to be shown of each return.
  abbrev Row : List ℕ → Result ℕ Refusal → List ℕ → Type 0
  Row out r out' = (r ≡ after_both answer list count (length out)) × (out' ≡ output_after answer list r out)

  pub other_count : (out : List ℕ) → (count ≡ a.n → ⊥) → Row out (Err (refused reason.Differ 0)) out
  unfolding after_both output_after
  other_count out h = (rw (ne_eqb count (content_in answer).n (rw value at h)), refl)

  module _ (same : count ≡ a.n) where
    is_n : count ≡ (content_in answer).n
    is_n = rw value at same

    pub no_room : (out : List ℕ) {size : ℕ} → size ≡ length (text_for (groups_of a) list a.n) → length out < size → Row out (Err (refused reason.Room 0)) out
    unfolding after_both output_after
    no_room out e l =
        rw (eq-eqb count (content_in answer).n is_n, lt-ltb (length out) (length (text_of answer list)) (omega (arith, ap length text_for_lem))) (refl, refl)

    pub wrote : (out : List ℕ) {size : ℕ} {out' : List ℕ} → size ≡ length (text_for (groups_of a) list a.n) → size ≤ length out
        → out' ≡ over (text_for (groups_of a) list a.n) 0 out
        → Row out (Ok size) out'
    unfolding after_both output_after
    wrote out e l o = (
      rw (eq-eqb count (content_in answer).n is_n, le-ltb (length out) (length (text_of answer list)) (omega (arith, ap length text_for_lem)))
          (ap Ok (e ∙ ap length text_for_lem)),
      o ∙ ap (λ s. over s 0 out) text_for_lem,
    )

    -- The value can be told, in room for the longest text.
    pub tellable : File answer → Readable answer list count → {room : List ℕ} → 64 * 32 + 63 * 2 + 64 ≤ length room → Tellable a list room
    tellable f r l =
        let lawful = taken_lawful answer r.passes f in
        let head = lawful.head_lawful in
        let kept = (laid answer r.passes).head_kept in
        let groups = lawful_groups lawful in
        let shows = drawn_shows groups (name_in list) (lawful_root lawful) (all_fits 64 head.few_taxa) in
        let short = text_short head.few_taxa groups.laminar (rw is_n at (names_for list r.taken)) shows in
        record {
          placed = groups_placed answer value (omega (arith, kept.few, kept.fewer));
          some = rw value head.some_taxa;
          few = rw value head.few_taxa;
          named = (taken_count list r.taken).1 ∙ same;
          room = omega (arith, short, ap length text_for_lem);
        }

-- ---- the operation

module _ (answer list out : List ℕ) where
  numbered : {r : Result ℕ Refusal} {out' : List ℕ} → r ≡ spelled answer list (length out) → out' ≡ output_after answer list r out → Spells answer list out r out'
  numbered e o = record { answers = e; numbers = ap returned e; output = o }

  pub answer_refused : {why : Refusal} → Err why ≡ file_tests answer → Spells answer list out (Err why) out
  unfolding spelled output_after
  answer_refused e = numbered (rw (← e)) refl

  pub list_refused : {here : Cursor} {why : Refusal} → Ok here ≡ file_tests answer → Err why ≡ checked list
      → Spells answer list out (Err why) out
  unfolding spelled output_after
  list_refused e l = numbered (rw (← e, ← l)) refl

  pub both_read : {count : ℕ} → Readable answer list count → {r : Result ℕ Refusal} {out' : List ℕ} → r ≡ after_both answer list count (length out)
      → out' ≡ output_after answer list r out → Spells answer list out r out'
  unfolding spelled
  both_read b e o = numbered (rw (← b.passes, ← b.taken) e) o
