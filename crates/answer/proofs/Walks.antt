-- Walks over records: one record more, and one that stops the walk; what a record that was met and passed says of the file.
use mathlib.Core.Path.{◌≡◌, refl, sym, ap, ◌∙◌, subst₂}
use mathlib.Core.List.{List}
use Prim.Native.Nat.{ℕ, zero, suc, ◌+◌, ◌*◌, ◌≤◌, ◌<◌}
use native.Mathlib.Nat.{mul-suc}
use native.Mathlib.Numerals.{add-one}
use native.Mathlib.Omega.{arith}
use lib.ListN.{get_or, length, set, replicate}
use borrow.Author.Count.{below_more}
use Rattle.taxa.proofs.Sums.{sum_≡}
use Rattle.record.specs.Bytes.{number_at, over}
use Rattle.record.specs.Records as records
use Rattle.record.specs.Records.{record_of, step, onward, Passed}
use Rattle.record.specs.declared.Cursor.{Cursor}
use Rattle.record.specs.declared.refusal.Reason.{Reason}
use Rattle.record.specs.declared.refusal.Refusal.{Refusal}
use Rattle.record.specs.declared.Record.{Record}
use Rattle.record.specs.declared.Step.{Step}
use Rattle.record.proofs.Steps.{Held, held}
use Rattle.record.proofs.Passing.{through_step, through}
use Rattle.answer.specs.Content.{padded, numbers_of, taxa_in, costs_in, columns_from, raised_from, lowered_from}
use Rattle.answer.specs.Rules.{head_fault, group_fault, floor_of, entry_fault, sum_of}
use Rattle.answer.specs.Tests.{judge, in_file, as_given, walk, head_test, group_test, entry_test, flips_test}
use Rattle.answer.proofs.Runs.{entry, length_entries, at_front, store_next}
use Rattle.answer.proofs.Rows.{group_same}
use Rattle.answer.proofs.Kept.{HeadKept, head_keeps}
use Rattle.std.specs.Prelude.{Option, Some, None, Ok, Err}

module _ (one : ℕ → Cursor → Passed) (from : Cursor) where
  pub walk_none : Ok from ≡ walk one 0 from
  unfolding walk
  walk_none = refl

  pub walk_more : (i : ℕ) {here : Cursor} → Ok here ≡ walk one i from → one i here ≡ walk one (i + 1) from
  unfolding walk
  walk_more i e = rw (add-one, ← e)

  pub walk_stops : (k i : ℕ) {here : Cursor} {why : Refusal} → i < k → Ok here ≡ walk one i from → Err why ≡ one i here → Err why ≡ walk one k from
  unfolding walk
  walk_stops zero i l e s = absurd (omega arith)
  walk_stops (suc k) i {here} {why} l e s =
      below_more
      (λ i. (here : Cursor) → Ok here ≡ walk one i from → Err why ≡ one i here → Err why ≡ onward (walk one k from) (one k)) k
      (λ i l here e s. rw (← walk_stops k i l e s))
      (λ here e s. rw (← e) s)
      i (omega arith) here e s

-- A walk that passed has passed each record.
pub record Each (one : ℕ → Cursor → Passed) (from : Cursor) (i : ℕ) : Type 0 where
  pub here : Cursor
  pub next : Cursor
  pub led : Ok here ≡ walk one i from
  pub passed : Ok next ≡ one i here

pub walk_each : (one : ℕ → Cursor → Passed) (from : Cursor) (k : ℕ) {end : Cursor} → Ok end ≡ walk one k from → (i : ℕ) → i < k → Each one from i
unfolding walk
walk_each one from zero e i l = absurd (omega arith)
walk_each one from (suc k) {end} e i l =
    let (c, before, last) = through (walk one k from) e in
    below_more (Each one from) k (walk_each one from k before) (record { here = c; next = end; led = before; passed = last }) i (omega arith)

-- A walk over records of one size w moves on by w each; what each record keeps, the walk keeps.
module _ (one : ℕ → Cursor → Passed) where
  pub walk_moves : (w : ℕ) → ((i : ℕ) (here next : Cursor) → Ok next ≡ one i here → next.at ≡ here.at + w)
      → (k : ℕ) (from : Cursor) {end : Cursor} → Ok end ≡ walk one k from → end.at ≡ from.at + w * k
  unfolding walk
  walk_moves w moves zero from {end} e = let same : end ≡ from = cc in rw same (omega arith)
  walk_moves w moves (suc k) from {end} e =
      let (c, before, last) = through (walk one k from) e in
      omega (arith, walk_moves w moves k from before, moves k c end last)

  pub walk_within : (size : ℕ) → ((i : ℕ) (here next : Cursor) → Ok next ≡ one i here → next.at ≤ size)
      → (k : ℕ) (from : Cursor) {end : Cursor} → Ok end ≡ walk one k from → from.at ≤ size → end.at ≤ size
  unfolding walk
  walk_within size within zero from {end} e l = let same : end ≡ from = cc in rw same l
  walk_within size within (suc k) from {end} e l = let (c, before, last) = through (walk one k from) e in within k c end last

  -- Walks over records that are met alike are alike.
  pub walk_same : (other : ℕ → Cursor → Passed) (k : ℕ) (from : Cursor) → ((i : ℕ) (here : Cursor) → i < k → one i here ≡ other i here) → walk one k from ≡ walk other k from
  unfolding walk
  walk_same other zero from e = refl
  walk_same other (suc k) from e = rw (walk_same other k from (λ i here l. e i here (omega arith))) (go (walk other k from))
    where
      go : (p : Passed) → onward p (one k) ≡ onward p (other k)
      go (Ok c) = e k c (omega arith)
      go (Err why) = refl

-- A walk carries over to another whose records pass where those of the first do.
module _ (one other : ℕ → Cursor → Passed) (w : ℕ) (moves : (i : ℕ) (here next : Cursor) → Ok next ≡ other i here → next.at ≡ here.at + w) where
  pub walk_carries : (k : ℕ) (from : Cursor) → ((i : ℕ) (here next : Cursor) → i < k → here.at ≡ from.at + w * i → Ok next ≡ other i here → Ok next ≡ one i here)
      → {end : Cursor} → Ok end ≡ walk other k from → Ok end ≡ walk one k from
  unfolding walk
  walk_carries zero from carries e = e
  walk_carries (suc k) from carries {end} e =
      let (c, before, last) = through (walk other k from) e in
      rw (← walk_carries k from (λ i here next l. carries i here next (omega arith)) before) (carries k c end (omega arith) (walk_moves other w moves k from before) last)

-- Where all records of one size pass, the walk passes.
pub walk_passes : (one : ℕ → Cursor → Passed) (size k : ℕ) → ((i : ℕ) → i < k → (at : ℕ) → Ok (record { at = at + size }) ≡ one i (record { at = at }))
    → (at : ℕ) → Ok (record { at = at + size * k }) ≡ walk one k (record { at = at })
unfolding walk
walk_passes one size zero h at = ap (λ (a : ℕ). Ok (record { at = a })) (omega arith)
walk_passes one size (suc k) h at =
    rw (← walk_passes one size k (λ i b. h i (omega arith)) at, ← h k (omega arith) (at + size * k)) (ap (λ (a : ℕ). Ok (record { at = a })) (omega (arith, mul-suc size k)))

-- A record with no fault passes.
pub no_fault : {fault : Option Reason} (place at : ℕ) {next : Cursor} → fault ≡ None → next.at ≡ at → Ok next ≡ judge fault place (record { at = at })
unfolding judge
no_fault place at none e = rw none (λ i. Ok (record { at = e i }))

pub through_judge : (fault : Option Reason) (place : ℕ) (c : Cursor) {next : Cursor} → Ok next ≡ judge fault place c → (fault ≡ None) × (c ≡ next)
unfolding judge
through_judge None place c e = (refl, cc)
through_judge (Some why) place c e = absurd (let z : ◌≡◌ {A = ℕ} 0 1 = cc in omega arith)

-- A record that was met in a file and passed: no fault, and it stands there.
pub met : (file : List ℕ) (kind : ℕ) (here : Cursor) (fault : Option Reason) (place : ℕ) {next : Cursor} → Ok next ≡ in_file file kind here (judge fault place)
    → (fault ≡ None) × Held file here.at (record_of kind) (here.at + 4) next
met file kind here fault place {next} e =
    let (at, c, found, j) = through_step (step file here.at (record_of kind)) e in
    let (none, same) = through_judge fault place c j in
    (none, subst₂ (λ (b : ℕ) (c : Cursor). Held file here.at (record_of kind) b c) (held found).starts same (held found))

-- What a step found where a record of a kind was to be read.
pub found_at : (file : List ℕ) (kind : ℕ) {at from : ℕ} {it : Record} {taken found : Step} → it ≡ record_of kind → at ≡ from → taken ≡ step file at it → taken ≡ found
    → found ≡ step file from (record_of kind)
found_at file kind of_kind place said is = sym is ∙ said ∙ (λ i. step file (place i) (of_kind i))

module _ (file : List ℕ) where
  pub entry_met : (n m floor column raised lowered : ℕ) (here : Cursor) {next : Cursor} → Ok next ≡ entry_test (in_file file) n m floor column raised lowered here
      → (entry_fault n m floor column raised lowered ≡ None) × Held file here.at (record_of records.flips) (here.at + 4) next
  unfolding entry_test
  entry_met n m floor column raised lowered here e = met file records.flips here (entry_fault n m floor column raised lowered) here.at e

  pub group_met : (n : ℕ) (taxa : List ℕ) (i : ℕ) (here : Cursor) {next : Cursor} → Ok next ≡ group_test (in_file file) n taxa i here
      → (group_fault n taxa i ≡ None) × Held file here.at (record_of records.group) (here.at + 4) next
  unfolding group_test
  group_met n taxa i here e = met file records.group here (group_fault n taxa i) here.at e

  pub head_met : (n m groups flips listed : ℕ) {next : Cursor} → Ok next ≡ head_test (in_file file) n m groups flips listed
      → HeadKept n m groups flips listed × Held file 0 (record_of records.answer_head) 4 next
  unfolding head_test
  head_met n m groups flips listed e =
      let (none, h) = met file records.answer_head (record { at = 0 }) (head_fault n m groups flips listed) 0 e in
      (head_keeps n m groups flips listed none, h)

  pub groups_move : (n k : ℕ) (taxa : List ℕ) (from : Cursor) {end : Cursor} → Ok end ≡ walk (group_test (in_file file) n taxa) k from → from.at ≤ length file
      → (end.at ≡ from.at + 16 * k) × (end.at ≤ length file)
  groups_move n k taxa from e l =
      let one = group_test (in_file file) n taxa in (
        walk_moves one 16 (λ i here next e. let h = (group_met n taxa i here e).1 in omega arith) k from e,
        walk_within one (length file) (λ i here next e. let h = (group_met n taxa i here e).1 in omega arith) k from e l,
      )

  pub flips_move : (n m k : ℕ) (columns raised lowered : List ℕ) (from : Cursor) {end : Cursor} → Ok end ≡ walk (flips_test (in_file file) n m columns raised lowered) k from → from.at ≤ length file
      → (end.at ≡ from.at + 22 * k) × (end.at ≤ length file)
  flips_move n m k columns raised lowered from e l =
      let one = flips_test (in_file file) n m columns raised lowered in (
        walk_moves one 22 (λ j here next e. let h = (entry_met n m _ _ _ _ here e).1 in omega arith) k from e,
        walk_within one (length file) (λ j here next e. let h = (entry_met n m _ _ _ _ here e).1 in omega arith) k from e l,
      )

  -- The taxa of group i, and how it is judged by those read so far.
  pub taxa_there : (groups i : ℕ) → i < groups → get_or (taxa_in file groups) i 0 ≡ number_at 8 file (20 + 16 * i)
  unfolding taxa_in
  taxa_there groups i l = entry (λ i. number_at 8 file (20 + 16 * i)) groups i l

  pub length_taxa : (k : ℕ) → length (taxa_in file k) ≡ k
  unfolding taxa_in
  length_taxa k = length_entries (λ i. number_at 8 file (20 + 16 * i)) k

  pub judged_so_far : (n groups i : ℕ) (xs : List ℕ) → i < groups → group_fault n (over (taxa_in file (i + 1)) 0 xs) i ≡ group_fault n (taxa_in file groups) i
  judged_so_far n groups i xs l =
      group_same (over (taxa_in file (i + 1)) 0 xs) (taxa_in file groups) n i (λ j h.
      at_front (taxa_in file (i + 1)) xs j (omega (arith, length_taxa (i + 1))) ∙ taxa_there (i + 1) j h ∙ sym (taxa_there groups j (omega arith)))

  pub taxa_stored : (i : ℕ) {v : ℕ} (xs : List ℕ) → v ≡ number_at 8 file (20 + 16 * i) → i < length xs → set (over (taxa_in file i) 0 xs) i v ≡ over (taxa_in file (i + 1)) 0 xs
  unfolding taxa_in
  taxa_stored i xs e l = store_next (λ i. number_at 8 file (20 + 16 * i)) i xs e l

  -- The sum of the costs read is that of the places they stand in.
  pub sum_padded : (groups : ℕ) → sum_of (padded (costs_in file groups)) groups ≡ sum_of (costs_in file groups) groups
  unfolding costs_in
  sum_padded groups =
      let g : ℕ → ℕ = λ i. number_at 4 file (28 + 16 * i) in
      sum_≡ groups (λ i l. at_front (numbers_of g groups) (replicate 63 0) i (omega (arith, length_entries g groups)))

  pub column_there : (flips : ℕ) (from here : Cursor) (j : ℕ) → j < flips → here.at ≡ from.at + 22 * j → number_at 2 file (here.at + 4) ≡ get_or (columns_from file from.at flips) j 0
  unfolding columns_from
  column_there flips from here j l e = rw (e, entry (λ j. number_at 2 file (from.at + 22 * j + 4)) flips j l)

  -- Flips j of a file, of which the first starts at a place, by what stands at its own place.
  pub flips_there : (n m flips : ℕ) (from here : Cursor) (j : ℕ) {floor : ℕ} → j < flips → here.at ≡ from.at + 22 * j → floor ≡ floor_of (columns_from file from.at flips) j
      → entry_test (in_file file) n m floor (number_at 2 file (here.at + 4)) (number_at 8 file (here.at + 6)) (number_at 8 file (here.at + 14)) here
      ≡ flips_test (in_file file) n m (columns_from file from.at flips) (raised_from file from.at flips) (lowered_from file from.at flips) j here
  unfolding columns_from raised_from lowered_from
  flips_there n m flips from here j l e f =
      rw (
        f,
        e,
        entry (λ j. number_at 2 file (from.at + 22 * j + 4)) flips j l,
        entry (λ j. number_at 8 file (from.at + 22 * j + 6)) flips j l,
        entry (λ j. number_at 8 file (from.at + 22 * j + 14)) flips j l,
      )

-- ---- records met as given

pub given_group : (n : ℕ) (taxa : List ℕ) (i : ℕ) (here : Cursor) {next : Cursor} → Ok next ≡ group_test as_given n taxa i here → (group_fault n taxa i ≡ None) × (next.at ≡ here.at + 16)
unfolding group_test
given_group n taxa i here e =
    let (none, same) = through_judge (group_fault n taxa i) here.at (record { at = here.at + 4 + 12 }) e in
    (none, sym (ap (λ (c : Cursor). c.at) same) ∙ omega arith)

pub given_entry : (n m floor column raised lowered : ℕ) (here : Cursor) {next : Cursor} → Ok next ≡ entry_test as_given n m floor column raised lowered here
    → (entry_fault n m floor column raised lowered ≡ None) × (next.at ≡ here.at + 22)
unfolding entry_test
given_entry n m floor column raised lowered here e =
    let (none, same) = through_judge (entry_fault n m floor column raised lowered) here.at (record { at = here.at + 4 + 18 }) e in
    (none, sym (ap (λ (c : Cursor). c.at) same) ∙ omega arith)

pub given_head : (n m groups flips listed : ℕ) {next : Cursor} → Ok next ≡ head_test as_given n m groups flips listed → HeadKept n m groups flips listed × (next.at ≡ 16)
unfolding head_test
given_head n m groups flips listed e =
    let (none, same) = through_judge (head_fault n m groups flips listed) 0 (record { at = 0 + 4 + 12 }) e in
    (head_keeps n m groups flips listed none, sym (ap (λ (c : Cursor). c.at) same))

pub given_groups_move : (n k : ℕ) (taxa : List ℕ) (from : Cursor) {end : Cursor} → Ok end ≡ walk (group_test as_given n taxa) k from → end.at ≡ from.at + 16 * k
given_groups_move n k taxa from = walk_moves (group_test as_given n taxa) 16 (λ i here next e. (given_group n taxa i here e).1) k from

pub given_flips_move : (n m k : ℕ) (columns raised lowered : List ℕ) (from : Cursor) {end : Cursor} → Ok end ≡ walk (flips_test as_given n m columns raised lowered) k from → end.at ≡ from.at + 22 * k
given_flips_move n m k columns raised lowered from = walk_moves (flips_test as_given n m columns raised lowered) 22 (λ j here next e. (given_entry n m _ _ _ _ here e).1) k from
