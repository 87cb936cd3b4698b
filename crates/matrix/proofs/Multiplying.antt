-- Multiplicities: the rows of the check's table for them (`some_none` .. `multiplicities_taken`), what those that passed say (`judged_multiplicities`), and
-- what the method asks of legal ones (`legal_positive`, `legal_merged`, `legal_fit`).
use mathlib.Core.Path.{◌≡◌, refl, sym, ap, ◌∙◌}
use mathlib.Core.Bool.{Bool, true, false, not, cond, and-eq-true_iff, true≢false}
use mathlib.Core.List.{List, [], ◌∷◌}
use mathlib.Core.Logic.{◌≢◌}
use Prim.Native.Nat.{ℕ, zero, suc, ◌+◌, ◌≤◌, ◌<◌}
use native.Mathlib.Decide.{dec_lt}
use native.Mathlib.Omega.{arith}
use lib.Dec.{ltb, eqb}
use lib.ListN.{length, get_or, take, drop}
use borrow.Author.Tests.{lt-ltb, le-ltb, eq-eqb, eqb-true, ltb-true, ltb-false, not-false}
use Rattle.std.specs.Prelude.{Ok, Err}
use Rattle.taxa.specs.Sum.{sum}
use Rattle.taxa.specs.Sets.{multiplicity, Multiplicities, Positive}
use Rattle.taxa.proofs.Sums.{sum_≡, sum_tight, term_≤}
use Rattle.record.specs.Bytes.{number_at}
use Rattle.record.specs.Records as records
use Rattle.record.specs.Records.{multiplicity_record, record_bytes, Passed}
use Rattle.record.specs.Refusals.{refused}
use Rattle.record.specs.declared.Cursor.{Cursor}
use Rattle.record.specs.declared.refusal.Reason.TheVariants as reason
use Rattle.record.proofs.Passing.{neither, unless}
use Rattle.matrix.specs.Matrix.{Matrix, Merging, LegalMultiplicities, absent, given, Legal, multiplicity_bytes, has_multiplicities, multiplicity_count, multiplicities_in, columns_at}
use Rattle.matrix.specs.Check.{every, wrong, multiplicities_judged}

-- A multiplicity of a list is the number there, whatever stands for one that is missing.
pub at_multiplicity : (ms : List ℕ) (i d : ℕ) → i < length ms → multiplicity ms i ≡ get_or ms i d
unfolding multiplicity
at_multiplicity [] i d b = absurd (omega arith)
at_multiplicity (a ∷ ms) zero d b = refl
at_multiplicity (a ∷ ms) (suc i) d b = at_multiplicity ms i d (omega arith)

past_multiplicity : (ms : List ℕ) (i : ℕ) → length ms ≤ i → multiplicity ms i ≡ 1
unfolding multiplicity
past_multiplicity [] i b = refl
past_multiplicity (a ∷ ms) zero b = absurd (omega arith)
past_multiplicity (a ∷ ms) (suc i) b = past_multiplicity ms i (omega arith)

-- A test holds of each of a list exactly where it holds at each place.
module _ (test : ℕ → Bool) where
  every_at : (ms : List ℕ) → every test ms ≡ true → (i : ℕ) → i < length ms → test (multiplicity ms i) ≡ true
  unfolding every multiplicity
  every_at [] e i b = absurd (omega arith)
  every_at (a ∷ ms) e zero b = ((and-eq-true_iff (test a) (every test ms)).0 e).0
  every_at (a ∷ ms) e (suc i) b = every_at ms ((and-eq-true_iff (test a) (every test ms)).0 e).1 i (omega arith)

  at_every : (ms : List ℕ) → ((i : ℕ) → i < length ms → test (multiplicity ms i) ≡ true) → every test ms ≡ true
  unfolding every multiplicity
  at_every [] h = refl
  at_every (a ∷ ms) h = rw (h 0 (omega arith)) (at_every ms (λ i b. h (suc i) (omega arith)))

never : (b : Bool) → (b ≡ true → ⊥) → b ≡ false
never true h = absurd (h refl)
never false h = refl

-- k ones.
sum_one : (k : ℕ) → sum k (λ i. 1) ≡ k
unfolding sum
sum_one zero = refl
sum_one (suc k) = omega (arith, sum_one k)

module _ (ms : List ℕ) where
  abbrev n : ℕ
  n = length ms

  -- None of the first k is 0.
  abbrev pub Some : ℕ → Type 0
  Some k = (i : ℕ) → i < k → 0 < multiplicity ms i

  pub some_next : (k : ℕ) → Some k → 0 < multiplicity ms k → Some (k + 1)
  some_next k some h i b = elim (dec_lt i k) [ yes l ↦ some i l | no nl ↦ rw (let e : i ≡ k = omega arith in e) h ]

  -- All are 1 exactly where none is 0 and their sum is their number.
  one_each : Some n → sum n (multiplicity ms) ≡ n → (i : ℕ) → i < n → multiplicity ms i ≡ 1
  one_each some e i b = sym (sum_tight n {g = λ i. 1} {h = multiplicity ms} some (sum_one n ∙ sym e) b)

  each_one : ((i : ℕ) → i < n → multiplicity ms i ≡ 1) → sum n (multiplicity ms) ≡ n
  each_one h = sum_≡ n h ∙ sum_one n

  module _ (place : ℕ) (next : Cursor) where
    pub some_none : (i : ℕ) → i < n → multiplicity ms i ≡ 0 → Err (refused reason.Multiplicities place) ≡ multiplicities_judged ms place next
    unfolding multiplicities_judged
    some_none i b e = rw (never (every (λ a. ltb 0 a) ms) (λ t. omega (arith, ltb-true 0 (multiplicity ms i) (every_at (λ a. ltb 0 a) ms t i b))))

    module _ (some : Some n) where
      pub too_heavy : 127 < sum n (multiplicity ms) → Err (refused reason.Multiplicities place) ≡ multiplicities_judged ms place next
      unfolding multiplicities_judged
      too_heavy h = rw (at_every (λ a. ltb 0 a) ms (λ i b. lt-ltb _ _ (some i b)), lt-ltb _ _ h)

      pub all_one : sum n (multiplicity ms) ≤ 127 → sum n (multiplicity ms) ≡ n → Err (refused reason.Multiplicities place) ≡ multiplicities_judged ms place next
      unfolding multiplicities_judged
      all_one l e = rw (at_every (λ a. ltb 0 a) ms (λ i b. lt-ltb _ _ (some i b)), le-ltb _ _ l, at_every (λ a. eqb a 1) ms (λ i b. eq-eqb _ _ (one_each some e i b)))

      pub multiplicities_taken : sum n (multiplicity ms) ≤ 127 → sum n (multiplicity ms) ≢ n → Ok next ≡ multiplicities_judged ms place next
      unfolding multiplicities_judged
      multiplicities_taken l ne =
          rw (at_every (λ a. ltb 0 a) ms (λ i b. lt-ltb _ _ (some i b)), le-ltb _ _ l, never (every (λ a. eqb a 1) ms) (λ t. ne (each_one (λ i b. eqb-true _ _ (every_at (λ a. eqb a 1) ms t i b)))))

  pub judged_multiplicities : (place : ℕ) (c : Cursor) {next : Cursor} → Ok next ≡ multiplicities_judged ms place c → Merging n ms × ◌≡◌ {A = Passed} (Ok next) (Ok c)
  unfolding multiplicities_judged
  judged_multiplicities place c e =
      let (none, e') = unless (wrong ms) _ _ e in
      let (none-0, rest) = neither (not (every (λ a. ltb 0 a) ms)) _ none in
      let (heavy, one) = neither (ltb 127 (sum n (multiplicity ms))) (every (λ a. eqb a 1) ms) rest in (
        record {
          one_each = refl;
          positive = λ i b. ltb-true _ _ (every_at (λ a. ltb 0 a) ms (not-false _ none-0) i b);
          merged = ltb-false _ _ heavy;
          several = λ h. true≢false (sym (at_every (λ a. eqb a 1) ms (λ i b. eq-eqb _ _ (h i b))) ∙ one);
        },
        e',
      )

-- ---- in a file

module _ (file : List ℕ) where
  abbrev taxa_count : ℕ
  taxa_count = number_at 2 file 4

  pub has_kind : 12 ≤ length file → number_at 2 file 10 ≡ records.multiplicities → has_multiplicities file ≡ true
  unfolding has_multiplicities
  has_kind l k = rw (lt-ltb 11 (length file) (omega arith)) (eq-eqb _ _ k)

  -- With the record, and without it.
  module _ (e : has_multiplicities file ≡ true) where
    -- It is no shorter than the record's opening.
    pub has_long : 12 ≤ length file
    unfolding has_multiplicities
    has_long = ltb-true 11 (length file) ((and-eq-true_iff (ltb 11 (length file)) _).0 e).0

    pub multiplicities_there : multiplicities_in file ≡ take taxa_count (drop 12 file)
    unfolding multiplicities_in multiplicity_count
    multiplicities_there = rw e

    pub columns_there : columns_at file ≡ 12 + taxa_count
    unfolding columns_at
    columns_there = rw e

  module _ (e : has_multiplicities file ≡ false) where
    pub multiplicities_none : multiplicities_in file ≡ []
    unfolding multiplicities_in multiplicity_count
    multiplicities_none = rw e

    pub columns_none : columns_at file ≡ 8
    unfolding columns_at
    columns_none = rw e

  -- The columns start after them.
  pub before_columns : 12 + multiplicity_count file ≤ columns_at file + 4
  unfolding multiplicity_count columns_at
  before_columns = go (has_multiplicities file)
    where
      go : (b : Bool) → 12 + cond b taxa_count 0 ≤ cond b (12 + taxa_count) 8 + 4
      go true = omega arith
      go false = omega arith

-- The record of some multiplicities.
pub given_bytes : {n : ℕ} (ms : List ℕ) → length ms ≡ n → 0 < n → multiplicity_bytes ms ≡ record_bytes (multiplicity_record n) ms
unfolding multiplicity_bytes
given_bytes [] e l = absurd (omega arith)
given_bytes (a ∷ ms) e l = ap (λ (k : ℕ). record_bytes (multiplicity_record k) (a ∷ ms)) e

-- ---- legal ones

-- They are taken.
pub merging_taken : {n : ℕ} {ms : List ℕ} → Merging n ms → (place : ℕ) (next : Cursor) → Ok next ≡ multiplicities_judged ms place next
merging_taken {n} {ms} l place next =
    let few : sum (length ms) (multiplicity ms) ≤ 127 = rw l.one_each l.merged in
    let some : Some ms (length ms) = rw l.one_each l.positive in
    multiplicities_taken ms place next some few (λ e. l.several (rw l.one_each at (one_each ms some e)))

-- They fit the planes.
legal_fits : {n : ℕ} {ms : List ℕ} → n ≤ 64 → LegalMultiplicities n ms → Multiplicities ms
legal_fits few absent = record { few = omega arith; positive = λ i b. absurd (omega arith); small = λ i b. absurd (omega arith) }
legal_fits {n} few (given {ms} l) =
    record {
      few = omega (arith, l.one_each);
      positive = λ i b. omega (arith, at_multiplicity ms i 0 b, l.positive i (omega (arith, l.one_each)));
      small = λ i b. omega (arith, at_multiplicity ms i 0 b, term_≤ n (multiplicity ms) {i = i} (omega (arith, l.one_each)), l.merged);
    }

legal_some : {n : ℕ} {ms : List ℕ} → LegalMultiplicities n ms → (i : ℕ) → 0 < multiplicity ms i
legal_some absent i = omega (arith, past_multiplicity [] i (omega arith))
legal_some (given {ms} l) i = elim (dec_lt i (length ms)) [ yes b ↦ l.positive i (omega arith) | no nb ↦ omega (arith, past_multiplicity ms i (omega arith)) ]

legal_sum : {n : ℕ} {ms : List ℕ} → n ≤ 64 → LegalMultiplicities n ms → sum n (multiplicity ms) ≤ 127
legal_sum {n} few absent = omega (arith, sum_≡ n {g = multiplicity []} {h = λ i. 1} (λ i b. past_multiplicity [] i (omega arith)), sum_one n)
legal_sum few (given l) = l.merged

-- What the method asks of them.
module _ {M : Matrix} (legal : Legal M) where
  pub legal_positive : Positive (multiplicity M.multiplicities)
  legal_positive = record { some = legal_some legal.multiplicities_legal }

  pub legal_merged : sum M.taxa (multiplicity M.multiplicities) ≤ 127
  legal_merged = legal_sum legal.taxa_fit legal.multiplicities_legal

  pub legal_fit : Multiplicities M.multiplicities
  legal_fit = legal_fits legal.taxa_fit legal.multiplicities_legal
