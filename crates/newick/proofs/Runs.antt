-- A run of bytes that meet a test, as a loop goes along it: none yet (`none_yet`), one more (`one_more`), and where it stops (`stops_here`, `stops_at_end`).
use mathlib.Core.Path.{◌≡◌, ap, ◌∙◌}
use mathlib.Core.Bool.{Bool, true, false}
use mathlib.Core.Logic.{⊎_elim, by_cases}
use mathlib.Core.List.{List}
use Prim.Native.Nat.{ℕ, ◌+◌, ◌≤◌, ◌<◌}
use native.Mathlib.Nat.{add-zero, eq-or-lt_of_le}
use native.Mathlib.Decide.{dec_lt}
use native.Mathlib.Omega.{arith}
use lib.ListN.{length, get_or}
use Rattle.grammar.specs.inner.Standing.{Run}
use Rattle.newick.specs.inner.Runs.{Sofar, Of}

pub none_yet : {test : ℕ → Bool} {text : List ℕ} {from : ℕ} → from ≤ length text → Sofar test text from from
none_yet l = record { up = omega arith; within = l; each = λ i a b. absurd (omega arith) }

module _ {test : ℕ → Bool} {text : List ℕ} {from at : ℕ} where
  pub one_more : Sofar test text from at → at < length text → test (get_or text at 0) ≡ true → Sofar test text from (at + 1)
  one_more s l e = record {
    up = omega (arith, s.up);
    within = omega arith;
    each = λ i a b. ⊎_elim (λ f. ap (λ (j : ℕ). test (get_or text j 0)) f ∙ e) (λ b'. s.each i a b') (eq-or-lt_of_le (omega arith));
  }

  pub stops_here : Sofar test text from at → test (get_or text at 0) ≡ false → Run test text from at
  stops_here s e = record { up = s.up; within = s.within; each = s.each; stops = λ l. e }

  pub stops_at_end : Sofar test text from at → length text ≤ at → Run test text from at
  stops_at_end s n = record { up = s.up; within = s.within; each = s.each; stops = λ l. absurd (omega arith) }

-- One run and the next.
pub further : {test : ℕ → Bool} {text : List ℕ} {from at to : ℕ} → Sofar test text from at → Sofar test text at to → Sofar test text from to
further {test} {text} {from} {at} {to} s t = record {
  up = omega (arith, s.up, t.up);
  within = t.within;
  each = λ i a b. by_cases (dec_lt i at) (λ l. s.each i a l) (λ g. t.each i (omega arith) b);
}

pub further_to_end : {test : ℕ → Bool} {text : List ℕ} {from at to : ℕ} → Sofar test text from at → Run test text at to → Run test text from to
further_to_end s t =
    let all = further s (record { up = t.up; within = t.within; each = t.each }) in
    record { up = all.up; within = all.within; each = all.each; stops = t.stops }

-- Of the bytes from a place on the first k meet the test: none, and one more.
module _ {test : ℕ → Bool} {text : List ℕ} {at : ℕ} where
  pub none_of : at ≤ length text → Sofar test text at (at + 0)
  none_of l = rw (add-zero at) (none_yet l)

  pub next_of : (k j : ℕ) → k + 1 ≡ j → Sofar test text at (at + k) → at + k < length text → test (get_or text (at + k) 0) ≡ true → Sofar test text at (at + j)
  next_of k j e s l t = let f : at + k + 1 ≡ at + j = omega arith in rw (← f) (one_more s l t)

-- Of the next few bytes so many meet the test, and then one does not; or all do.
module _ {test : ℕ → Bool} {text : List ℕ} {at more : ℕ} (most : ℕ) (s : Sofar test text at (at + more)) where
  pub some_of : more ≤ most → test (get_or text (at + more) 0) ≡ false → Of most test text at more
  some_of l e = record { few = l; sofar = s; stops = λ b. e }

  pub all_of : more ≡ most → Of most test text at more
  all_of e = record { few = omega arith; sofar = s; stops = λ b. absurd (omega arith) }

-- A byte that meets the test, and the run behind it.
pub run_from : {test : ℕ → Bool} {text : List ℕ} {from to : ℕ} → from < length text → test (get_or text from 0) ≡ true → Run test text (from + 1) to
    → Run test text from to
run_from l e run = further_to_end (one_more (none_yet (omega arith)) l e) run
