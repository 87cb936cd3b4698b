-- The check refuses by the numbers 1 to 8 and 21, at places in the largest matrix file or right after it (`refusal_small`).
use mathlib.Core.Path.{◌≡◌, refl}
use mathlib.Core.Bool.{◌||◌, ◌&&◌}
use mathlib.Core.List.{List}
use Prim.Native.Nat.{ℕ, zero, suc, ◌+◌, ◌*◌, ◌≤◌, ◌<◌}
use native.Mathlib.Omega.{arith}
use lib.Dec.{ltb, eqb, lit<, lit≤}
use lib.ListN.{take, drop}
use Rattle.std.specs.Prelude.{Result, Ok, Err}
use Rattle.taxa.specs.Sets.{◌∩◌, within, all}
use Rattle.record.specs.Bytes.{number_at}
use Rattle.record.specs.Records.{record_of, multiplicity_record, left, judged, nothing_after, step, Passed}
use Rattle.record.specs.Records as records
use Rattle.record.specs.declared.Cursor.{Cursor}
use Rattle.record.specs.declared.Record.{Record}
use Rattle.record.specs.declared.refusal.Refusal.{Refusal}
use Rattle.record.specs.Refusals.{refusal_number}
use Rattle.record.proofs.Steps.{either_way}
use Rattle.record.proofs.Places.{By, by_later, by_onward, by_step}
use Rattle.matrix.proofs.Passing.{head}
use Rattle.matrix.specs.Matrix.{has_multiplicities, column_at}
use Rattle.matrix.specs.Check.{head_judged, head_passed, wrong, multiplicities_judged, multiplicities_passed, column_judged, column_passed, columns_passed, end_passed, body_passed, file_passed, answered, checked}
use Rattle.matrix.specs.declared.Shape.{Shape}

-- The check's numbers.
abbrev Number : ℕ → Type 0
Number k = (0 < k) × (k ≤ 21) × (8 < k → k ≡ 21)

low : (k : ℕ) → 0 < k → k ≤ 8 → Number k
low k some few = (some, omega arith, λ more. absurd (omega arith))

module _ (file : List ℕ) where
  record-by : (it : Record) (at far : ℕ) (judge : ℕ → Cursor → Passed) → at ≤ far → ((b : ℕ) (c : Cursor) → c.at ≡ at + 4 + it.length → By Number far (judge b c))
      → By Number far (judged (step file at it) judge)
  record-by it at far judge l = by_step Number (λ k some few. low k some (omega arith)) at far judge l file it

  head_by : By Number 8 (head_passed file)
  unfolding head_passed head_judged
  head_by =
      record-by (record_of records.matrix_head) 0 8 _ (lit≤ tt) (λ b c e.
      either_way (By Number 8) (eqb (number_at 2 file b) 0 || ltb 64 (number_at 2 file b)) (lit≤ tt, low 3 (lit< tt) (lit≤ tt))
      (either_way (By Number 8) (ltb 256 (number_at 2 file (b + 2))) (lit≤ tt, low 4 (lit< tt) (lit≤ tt)) (omega arith)))

  multiplicities_by : {n : ℕ} → n ≤ 64 → (here : Cursor) → By Number (here.at + 68) (multiplicities_passed file n here)
  unfolding multiplicities_passed multiplicities_judged
  multiplicities_by {n} few here =
      let by = By Number (here.at + 68) in
      either_way by (has_multiplicities file)
      (record-by (multiplicity_record n) here.at (here.at + 68) _ (omega arith) (λ b c e.
      either_way by (wrong (take n (drop b file))) (omega arith, (lit< tt, lit≤ tt, λ more. refl)) (omega arith)))
      (omega arith)

  column_by : (known : ℕ) (here : Cursor) → By Number (here.at + 22) (column_passed file known here)
  unfolding column_passed column_judged
  column_by known here =
      record-by (record_of records.column) here.at (here.at + 22) _ (omega arith) (λ b c e.
      let it = column_at file b in
      either_way (By Number (here.at + 22)) (eqb it.weight 0) (omega arith, low 5 (lit< tt) (lit≤ tt))
      (either_way (By Number (here.at + 22)) (within it.ones known && within it.zeros known)
      (either_way (By Number (here.at + 22)) (eqb (it.ones ∩ it.zeros) 0) (omega arith) (omega arith, low 7 (lit< tt) (lit≤ tt)))
      (omega arith, low 6 (lit< tt) (lit≤ tt))))

  columns_by : (known m : ℕ) (here : Cursor) → By Number (here.at + 22 * m) (columns_passed file known m here)
  unfolding columns_passed
  columns_by known zero here = omega arith
  columns_by known (suc m) here =
      let far = here.at + 22 * suc m in
      by_onward Number far (column_passed file known here) (columns_passed file known m) (by_later Number (here.at + 22) far (omega arith) (column_passed file known here) (column_by known here)) (λ c e.
      let near : c.at ≤ here.at + 22 = rw (← e) at (column_by known here) in
      by_later Number (c.at + 22 * m) far (omega arith) (columns_passed file known m c) (columns_by known m c))

  end_by : (here : Cursor) → By Number (here.at + 4) (end_passed file here)
  unfolding end_passed nothing_after
  end_by here =
      record-by (record_of records.matrix_end) here.at (here.at + 4) _ (omega arith) (λ b c e.
      either_way (By Number (here.at + 4)) (ltb 0 (left file c.at)) (omega arith, low 8 (lit< tt) (lit≤ tt)) (omega arith))

  -- The largest matrix file has 12 + 22 · 256 bytes, and 4 + 64 more.
  abbrev largest : ℕ
  largest = 5712

  all_by : By Number largest (file_passed file)
  unfolding file_passed
  all_by =
      by_onward Number largest (head_passed file) _ (by_later Number 8 largest (lit≤ tt) (head_passed file) head_by) (λ second h.
      let hd = head file h in
      let at : second.at ≡ 8 = hd.stands.moves in
      let n = number_at 2 file 4 in
      let ms = multiplicities_by hd.few second in
      by_onward Number largest (multiplicities_passed file n second) (body_passed file) (by_later Number (second.at + 68) largest (omega arith) (multiplicities_passed file n second) ms) (λ first s.
      let close : first.at ≤ second.at + 68 = rw (← s) at ms in
      let known = all n in
      let m = number_at 2 file 6 in
      let few = hd.columns in
      by_onward Number largest (columns_passed file known m first) (end_passed file) (by_later Number (first.at + 22 * m) largest (omega arith) (columns_passed file known m first) (columns_by known m first)) (λ end c.
      let near : end.at ≤ first.at + 22 * m = rw (← c) at (columns_by known m first) in
      by_later Number (end.at + 4) largest (omega arith) (end_passed file end) (end_by end))))

  abbrev Small : Result Shape Refusal → Type 0
  Small (Ok it) = Unit {0}
  Small (Err why) = (why.place ≤ largest) × (0 < refusal_number why.reason) × (refusal_number why.reason ≤ 21) × (8 < refusal_number why.reason → refusal_number why.reason ≡ 21)

  small : (n m : ℕ) (p : Passed) → By Number largest p → Small (answered n m p)
  small n m (Ok here) b = tt
  small n m (Err why) b = (b.0, b.1.0, b.1.1, b.1.2)

  pub refusal_small : {why : Refusal} → Err why ≡ checked file → (why.place ≤ largest) × (0 < refusal_number why.reason) × (refusal_number why.reason ≤ 21) × (8 < refusal_number why.reason → refusal_number why.reason ≡ 21)
  unfolding checked
  refusal_small e = rw (← e) at (small (number_at 2 file 4) (number_at 2 file 6) (file_passed file) all_by)
