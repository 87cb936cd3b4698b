-- Reading into a list of entries follows from reading into three parts of 256 (`parts_read`), and that from crate answer's reading into
-- as much of them as the list has entries (`in_parts`): "m is 0 to 256", so no flips record that is read needs more.
use mathlib.Core.Path.{◌≡◌, refl, sym, ap, ◌∙◌}
use mathlib.Core.Bool.{Bool, true, false, cond}
use mathlib.Core.List.{List, [], ◌∷◌, ◌++◌, append_assoc}
use Prim.Native.Nat.{ℕ, zero, suc, ◌+◌, ◌<◌, ◌≤◌, min}
use native.Mathlib.Omega.{arith}
use lib.Dec.{ltb}
use lib.ListN.{length, get_or, take, drop}
use lib.Seq.{length-take-le, take_at, get_or-take}
use borrow.Author.Tests.{ltb-true, ltb-false, lt-ltb, le-ltb}
use Rattle.record.specs.Bytes.{over as laidOver}
use Rattle.record.specs.Records.{onward, Passed}
use Rattle.record.specs.declared.Cursor.{Cursor}
use Rattle.record.specs.declared.refusal.Reason.TheVariants as reason
use Rattle.record.specs.declared.refusal.Refusal.{Refusal}
use Rattle.record.proofs.Passing.{through}
use Rattle.answer.specs.Content.{content_in, answer_of, flip_count, columns_from, raised_from, lowered_from}
use Rattle.answer.specs.Tests.{judge, in_file, flips_test}
use Rattle.answer.specs.Reading.{returned, listed, file_tests, read_tests, reading, answered, Reads}
use Rattle.answer.specs.declared.Answer.{Answer}
use Rattle.answer.proofs.Kept.{unless, entry_keeps}
use Rattle.answer.proofs.Walks.{through_judge, walk_each, entry_met}
use Rattle.answer.proofs.Files.{read_through}
use Rattle.answer.proofs.Runs.{length_entries}
use Rattle.answer.proofs.Outcomes.{laid}
use Rattle.entries.specs.declared.Flip.{Flip}
use Rattle.entries.specs.Entries.{zipped, entries_of, ReadsEntries}
use Rattle.entries.specs.inner.Parts.{with_first, FlipsFirst, InParts}
use Rattle.entries.proofs.Rows.{long_zipped}
use Rattle.std.specs.Prelude.{Some, None, Result, Ok, Err}

-- ---- entries from parts
pub take_zipped : (k : ℕ) (cs us ds : List ℕ) → take k (zipped cs us ds) ≡ zipped (take k cs) (take k us) (take k ds)
take_zipped zero cs us ds = refl
take_zipped (suc k) [] us ds = refl
take_zipped (suc k) (c ∷ cs) [] ds = refl
take_zipped (suc k) (c ∷ cs) (u ∷ us) [] = refl
take_zipped (suc k) (c ∷ cs) (u ∷ us) (d ∷ ds) = ap {B = List Flip} (λ (r : List Flip). record { column = c; raised = u; lowered = d } ∷ r) (take_zipped k cs us ds)

module _ (file : List ℕ) (ys : List Flip) (cs us ds : List ℕ) {r : Result Answer Refusal} (p : InParts file (length ys) r cs us ds) where
  -- A refusal leaves the list as it was.
  pub parts_refused : {why : Refusal} → r ≡ Err why → ReadsEntries file ys (Err why) ys
  parts_refused is = let answers = sym is ∙ p.answers in record { answers = answers; numbers = ap returned answers; list_after = refl }

  module _ {a : Answer} (is : r ≡ Ok a) where
    abbrev k : ℕ
    k = a.flips

    first : take k (zipped cs us ds) ≡ entries_of (content_in file)
    first = let f = p.taken a is in take_zipped k cs us ds ∙ (λ i. zipped (f.columns_first i) (f.raised_first i) (f.lowered_first i))

    pub parts_read : k ≤ length cs → k ≤ length us → k ≤ length ds → ReadsEntries file ys (Ok a) (with_first k (zipped cs us ds) ys)
    parts_read l m n =
        let answers = sym is ∙ p.answers in
        let long : k ≡ length (entries_of (content_in file)) = sym (length-take-le k (zipped cs us ds) (long_zipped k cs us ds l m n)) ∙ ap length first in
        record { answers = answers; numbers = ap returned answers; list_after = λ i. first i ++ drop (long i) ys }

-- ---- 256 is room enough
pub room_same : (entries flips : ℕ) → flips ≤ 256 → ltb (min entries 256) flips ≡ ltb entries flips
room_same entries flips few = go (ltb entries flips) refl
  where
    go : (b : Bool) → ltb entries flips ≡ b → ltb (min entries 256) flips ≡ b
    go true e = let l = ltb-true entries flips e in lt-ltb (min entries 256) flips (omega arith)
    go false e = let l = ltb-false entries flips e in le-ltb (min entries 256) flips (omega arith)

module _ (file : List ℕ) where
  few_flips : {here : Cursor} → Ok here ≡ file_tests file → flip_count file ≤ 256
  few_flips e = let h = (laid file e).head_kept in omega (arith, h.flips_fit, h.columns)

  reading_same : (entries : ℕ) → reading file (min entries 256) ≡ reading file entries
  unfolding reading read_tests
  reading_same entries = ap (answered (content_in file)) (go (file_tests file) refl)
    where
      go : (p : Passed) → p ≡ file_tests file → onward p (judge (cond (ltb (min entries 256) (flip_count file)) (Some reason.Room) None) 0) ≡ onward p (judge (cond (ltb entries (flip_count file)) (Some reason.Room) None) 0)
      go (Ok here) e = ap (λ (b : Bool). judge (cond b (Some reason.Room) None) 0 here) (room_same entries (flip_count file) (few_flips e))
      go (Err why) e = refl

  -- A column of an accepted file is below m.
  column_below : {here : Cursor} → Ok here ≡ file_tests file → (i : ℕ) → i < flip_count file → get_or (content_in file).columns i 0 < 256
  column_below e i l =
      let c = content_in file in
      let s = (read_through file e).stages in
      let it = walk_each (flips_test (in_file file) c.n c.m c.columns c.raised c.lowered) s.flips c.flips s.flips_passed i l in
      let kept = entry_keeps _ _ _ _ _ _ (entry_met file c.n c.m _ _ _ _ it.here it.passed).0 in
      let h = (laid file e).head_kept in
      omega (arith, kept.column_fits, h.columns)

-- ---- parts from lists of any room
-- What is laid over the front of a part that was lent stands first in the whole.
front : (new old rest : List ℕ) (k : ℕ) → length new ≡ k → take k (laidOver new 0 old ++ rest) ≡ new
unfolding laidOver
front new old rest k e = ap (take k) (append_assoc new (drop (0 + length new) old) rest) ∙ take_at new (drop (0 + length new) old ++ rest) k e

module _ (file : List ℕ) (entries : ℕ) where
  abbrev room : ℕ
  room = min entries 256

  taken_parts : {here : Cursor} {a : Answer} {cs us ds : List ℕ} → Ok here ≡ file_tests file → flip_count file ≤ room → a ≡ answer_of (content_in file)
      → take (flip_count file) cs ≡ (content_in file).columns → take (flip_count file) us ≡ (content_in file).raised → take (flip_count file) ds ≡ (content_in file).lowered
      → FlipsFirst file entries a cs us ds
  taken_parts {cs = cs} p l e c u d =
      record {
        has_room = rw e (omega arith);
        few = rw e (omega arith);
        columns_first = rw e c;
        raised_first = rw e u;
        lowered_first = rw e d;
        columns_narrow = rw e (λ i s. let b = column_below file p i s in omega (arith, get_or-take (flip_count file) cs i 0 s, ap (λ (xs : List ℕ). get_or xs i 0) c));
      }

  module _ (cs us ds : List ℕ) (l₁ : length cs ≡ 256) (l₂ : length us ≡ 256) (l₃ : length ds ≡ 256) {r : Result Answer Refusal} {cs' us' ds' : List ℕ} (reads : Reads file (take room cs) (take room us) (take room ds) r cs' us' ds') where
    roomed : (xs : List ℕ) → length xs ≡ 256 → length (take room xs) ≡ room
    roomed xs e = length-take-le room xs (omega arith)

    is_room : listed (take room cs) (take room us) (take room ds) ≡ room
    is_room = let a = roomed cs l₁ in let b = roomed us l₂ in let c = roomed ds l₃ in omega arith

    answers_room : r ≡ reading file room
    answers_room = reads.answers ∙ ap (reading file) is_room

    pub in_parts : InParts file entries r (cs' ++ drop room cs) (us' ++ drop room us) (ds' ++ drop room ds)
    unfolding reading read_tests columns_from raised_from lowered_from
    in_parts = record { answers = answers_room ∙ reading_same file entries; taken = go (read_tests file room) refl }
      where
        go : (p : Passed) → p ≡ read_tests file room → (a : Answer) → r ≡ Ok a → FlipsFirst file entries a (cs' ++ drop room cs) (us' ++ drop room us) (ds' ++ drop room ds)
        go (Ok here) e a t =
            let (at, p, j) = through (file_tests file) e in
            let l = ltb-false room (flip_count file) (unless _ reason.Room None (through_judge _ 0 at j).0).0 in
            let is : r ≡ Ok (answer_of (content_in file)) = answers_room ∙ ap (answered (content_in file)) (sym e) in
            let value : a ≡ answer_of (content_in file) = cc in
            taken_parts p l value
            (rw (reads.columns_after, is) (front (content_in file).columns (take room cs) (drop room cs) (flip_count file) (length_entries _ (flip_count file))))
            (rw (reads.raised_after, is) (front (content_in file).raised (take room us) (drop room us) (flip_count file) (length_entries _ (flip_count file))))
            (rw (reads.lowered_after, is) (front (content_in file).lowered (take room ds) (drop room ds) (flip_count file) (length_entries _ (flip_count file))))
        go (Err why) e a t = let is : r ≡ Err why = answers_room ∙ ap (answered (content_in file)) (sym e) in cc
