-- Writing from a list of entries follows from writing from its first 256 in three parts: where the head counts more flips than 256 it is
-- refused for any list, and no entry is read.
use mathlib.Core.Path.{◌≡◌, refl, sym, ap, ◌∙◌}
use mathlib.Core.Bool.{Bool, true, false, ◌||◌, cond}
use mathlib.Core.List.{List, map}
use Prim.Native.Nat.{ℕ, ◌<◌, ◌≤◌, min}
use native.Mathlib.Omega.{arith}
use lib.Dec.{ltb, eqb}
use lib.ListN.{length, take, drop, length-map}
use lib.Seq.{length-take-le, take_at, take_all, take-take}
use borrow.Author.Tests.{ltb-true, ltb-false}
use Rattle.answer.specs.declared.Answer.{Answer}
use Rattle.answer.specs.Content.{Content, content_of, file_of}
use Rattle.answer.specs.Rules.{counted, head_fault}
use Rattle.answer.specs.Tests.{as_given, head_test, tests}
use Rattle.answer.specs.Writing.{writing, write_tests, returned, put, Writes}
use Rattle.answer.proofs.Walks.{given_head}
use Rattle.answer.proofs.Stages.{head_stops}
use Rattle.answer.proofs.Outcomes.{given_refused}
use Rattle.entries.specs.declared.Flip.{Flip}
use Rattle.entries.specs.Entries.{entry_columns, entry_raised, entry_lowered, entry_content}
use Rattle.entries.specs.inner.Parts.{with_first}
use Rattle.entries.proofs.Reading.{room_same}
use Rattle.std.specs.Prelude.{Option, Some, None, Result, Ok, Err}
use Rattle.record.specs.declared.refusal.Reason.{Reason}
use Rattle.record.specs.declared.refusal.Reason.TheVariants as reason
use Rattle.record.specs.declared.refusal.Refusal.{Refusal}
use Rattle.record.specs.Records.{Passed}

-- ---- the head is judged as for the whole list
module _ (n m groups flips entries : ℕ) where
  -- the head's fault past the test of n, and past that of m
  abbrev past_m : ℕ → Option Reason
  past_m listed = cond (counted n groups) (cond (ltb m flips || ltb listed flips) (Some reason.Flips) None) (Some reason.Groups)

  abbrev past_n : Bool → Option Reason → Option Reason
  past_n many x = cond many (Some reason.ColumnCount) x

  few_columns : (b : Bool) → ltb m flips ≡ b → m ≤ 256 → (b || ltb (min entries 256) flips) ≡ (b || ltb entries flips)
  few_columns true e l = refl
  few_columns false e l = let f = ltb-false m flips e in room_same entries flips (omega arith)

  past_n_lem : (b : Bool) → ltb 256 m ≡ b → past_n b (past_m (min entries 256)) ≡ past_n b (past_m entries)
  past_n_lem true e = refl
  past_n_lem false e = ap (λ (b : Bool). cond (counted n groups) (cond b (Some reason.Flips) None) (Some reason.Groups)) (few_columns (ltb m flips) refl (ltb-false 256 m e))

  head_same : head_fault n m groups flips (min entries 256) ≡ head_fault n m groups flips entries
  unfolding head_fault
  head_same = ap (λ (x : Option Reason). cond (eqb n 0 || ltb 64 n) (Some reason.TaxonCount) x) (past_n_lem (ltb 256 m) refl)

  head_test_same : head_test as_given n m groups flips (min entries 256) ≡ head_test as_given n m groups flips entries
  unfolding head_test
  head_test_same = rw head_same

writing_same : (c : Content) (entries room : ℕ) → writing c (min entries 256) room ≡ writing c entries room
unfolding writing write_tests tests
writing_same c entries room = rw (head_test_same c.n c.m c.groups c.flips entries)

-- ---- the parts' first entries are the list's
cut_first : (k : ℕ) (xs zs : List ℕ) → k ≤ length xs → take k (with_first k xs zs) ≡ take k xs
cut_first k xs zs l = take_at (take k xs) (drop k zs) k (length-take-le k xs l)

module _ (a : Answer) (ys : List Flip) (cs us ds : List ℕ) where
  abbrev k : ℕ
  k = min (length ys) 256

  abbrev given : ℕ → Content
  given n = content_of a (take n (entry_columns ys)) (take n (entry_raised ys)) (take n (entry_lowered ys))

  abbrev whole : Content
  whole = entry_content a ys

  all_given : length ys ≤ 256 → given k ≡ whole
  all_given l =
      let all : (xs : List ℕ) → length xs ≡ length ys → take k xs ≡ xs = λ xs e. take_all k xs (omega arith) in
      λ i. content_of a (all (entry_columns ys) (length-map ys _) i) (all (entry_raised ys) (length-map ys _) i) (all (entry_lowered ys) (length-map ys _) i)

  enough_given : a.flips ≤ k → given k ≡ whole
  enough_given l =
      rw (take-take a.flips k (entry_columns ys) l, take-take a.flips k (entry_raised ys) l, take-take a.flips k (entry_lowered ys) l)

  module _ (out : List ℕ) {r : Result ℕ Refusal} {out' : List ℕ} where
    same : Writes whole k out r out' → Writes whole (length ys) out r out'
    same w = record { answers = w.answers ∙ writing_same whole (length ys) (length out); numbers = w.numbers ∙ ap returned (writing_same whole (length ys) (length out)); out_after = w.out_after }

    -- More than 256 flips: the head refuses.
    refuses : 256 < a.flips → Writes (given k) k out r out' → Writes whole (length ys) out r out'
    unfolding writing write_tests
    refuses l w = go (head_test as_given a.n a.m a.groups a.flips k) refl
      where
        go : (p : Passed) → p ≡ head_test as_given a.n a.m a.groups a.flips k → Writes whole (length ys) out r out'
        go (Ok first) e = let h = (given_head a.n a.m a.groups a.flips k e).0 in absurd (omega (arith, h.flips_fit, h.columns))
        go (Err why) e =
            let s : Err why ≡ tests as_given (given k) k = head_stops as_given (given k) k e in
            let is : r ≡ Err why = w.answers ∙ sym (given_refused (given k) k out s).answers in
            rw (is, w.out_after ∙ ap (λ (x : Result ℕ Refusal). put x (file_of (given k)) out) is) (given_refused whole (length ys) out (head_stops as_given whole (length ys) (e ∙ head_test_same a.n a.m a.groups a.flips (length ys))))

    of_given : Writes (given k) k out r out' → Writes whole (length ys) out r out'
    of_given w = few (ltb 256 (length ys)) refl
      where
        counted_few : (b : Bool) → ltb 256 a.flips ≡ b → 256 < length ys → Writes whole (length ys) out r out'
        counted_few true e l = refuses (ltb-true 256 a.flips e) w
        counted_few false e l = let f = ltb-false 256 a.flips e in same (rw (enough_given (omega arith)) at w)

        few : (b : Bool) → ltb 256 (length ys) ≡ b → Writes whole (length ys) out r out'
        few true e = counted_few (ltb 256 a.flips) refl (ltb-true 256 (length ys) e)
        few false e = same (rw (all_given (ltb-false 256 (length ys) e)) at w)

    pub parts_written : Writes (content_of a (take k (with_first k (entry_columns ys) cs)) (take k (with_first k (entry_raised ys) us)) (take k (with_first k (entry_lowered ys) ds))) k out r out' → Writes whole (length ys) out r out'
    parts_written w = of_given (rw (cut_first k (entry_columns ys) cs (long _), cut_first k (entry_raised ys) us (long _), cut_first k (entry_lowered ys) ds (long _)) at w)
      where
        long : (f : Flip → ℕ) → k ≤ length (map f ys)
        long f = let e = length-map ys f in omega arith
