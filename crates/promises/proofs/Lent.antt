-- C-13, from the number that is returned: after success of build or split the workspace has zeros to the count of 1-entries and is unchanged past it
-- (`build_workspace`, `split_workspace`); the count is never above n x m, which was asked before (`ones_few`), and 0 where there is no 1 (`no_ones`).
use mathlib.Core.Path.{◌≡◌, refl, ap, ◌∙◌}
use mathlib.Core.Bool.{Bool, true, false, cond}
use mathlib.Core.List.{List, [], ◌∷◌, ◌++◌}
use Prim.Native.Nat.{ℕ, zero, suc, ◌*◌, ◌≤◌, ◌<◌}
use native.Mathlib.Nat.{not-suc-le-zero, le_of_suc-le-suc, mul_comm}
use native.Mathlib.Omega.{arith}
use lib.Dec.{ltb}
use lib.IntN.{ℤ, pos}
use lib.ListN.{length, get_or, drop, replicate, length-append, length-replicate, length-drop, get_or-replicate, get_or-append}
use borrow.Author.Tests.{ltb-false}
use Rattle.taxa.specs.Sum.{sum}
use Rattle.taxa.specs.Sets.{count, sizes}
use Rattle.taxa.proofs.Sums.{sum_bound, sum_none}
use Rattle.taxa.proofs.Counts.{count_⊆, count_all, count_none}
use Rattle.record.specs.Bytes.{File}
use Rattle.record.specs.Refusals.{refused}
use Rattle.matrix.specs.Check.{checked}
use Rattle.method.specs.Tree.{Matrix, column, one_entries}
use Rattle.search.specs.Workspace.{cleared}
use Rattle.split.specs.Columns.{matrix_in}
use Rattle.split.specs.Operation as split
use Rattle.split.proofs.Soundness.{taken_sound, taken_count, taken_known}
use Rattle.tree.specs.Build as build
use Rattle.promises.specs.Lent.{OneForEach1}
use Rattle.promises.proofs.Numbers.{build_succeeds, split_succeeds}
use Rattle.std.specs.Prelude.{Result, Ok, Err}
use Rattle.record.specs.declared.refusal.Refusal.{Refusal}
use Rattle.matrix.specs.Check.{shape}
use Rattle.record.specs.declared.refusal.Reason.TheVariants as reason
use Rattle.matrix.specs.declared.Shape.{Shape}
use Rattle.search.specs.declared.Split.{Split}
use Rattle.tree.specs.declared.Built.{Built}

-- ---- a cleared workspace, number by number

module _ {A : Type 0} where
  past_filled : (k : ℕ) (v : A) (l : List A) (i : ℕ) (d : A) → k ≤ length l → k ≤ i → get_or (replicate k v ++ drop k l) i d ≡ get_or l i d
  past_filled zero v l i d b q = refl
  past_filled (suc k) v [] i d b q = absurd (not-suc-le-zero b)
  past_filled (suc k) v (x ∷ l) zero d b q = absurd (not-suc-le-zero q)
  past_filled (suc k) v (x ∷ l) (suc i) d b q = past_filled k v l i d (le_of_suc-le-suc b) (le_of_suc-le-suc q)

pub one_for_each : (M : Matrix) (ws : List ℤ) → one_entries M ≤ length ws → OneForEach1 M ws (cleared (one_entries M) ws)
one_for_each M ws l =
    let k = one_entries M in
    record {
      enough = l;
      long = omega (arith, length-append (replicate k (pos 0)) (drop k ws), length-replicate k (pos 0), length-drop k ws);
      zeros = λ i b d. get_or-append (replicate k (pos 0)) (drop k ws) d i (rw (length-replicate k (pos 0)) b) ∙ get_or-replicate k i (pos 0) d b;
      past = λ i b d. past_filled k (pos 0) ws i d l b;
    }

-- ---- build and split

module _ {file : List ℕ} {ws : List ℤ} where
  pub build_workspace : {out : List ℕ} {r : Result Built Refusal} {ws' : List ℤ} {out' : List ℕ} → build.Builds file ws out r ws' out' → (build.returned r).number ≡ 0 → OneForEach1 (matrix_in file) ws ws'
  unfolding build.workspace_after build.built build.answered
  build_workspace {r = Err why} x none = let (size, sum, e) = (build_succeeds x).0 none in absurd (let z : ◌≡◌ {A = ℕ} 0 1 = cc in omega arith)
  build_workspace {out = out} {r = Ok it} x none = rw x.workspace (one_for_each (matrix_in file) ws (enough (checked file) x.answers))
    where
      tested : (a : Bool) (other : Result Built Refusal) → ltb (length ws) (one_entries (matrix_in file)) ≡ a → Ok it ≡ cond a (Err (refused reason.Workspace 0)) other → one_entries (matrix_in file) ≤ length ws
      tested false other e w = omega (arith, ltb-false (length ws) (one_entries (matrix_in file)) e)
      tested true other e w = absurd (let z : ◌≡◌ {A = ℕ} 0 1 = cc in omega arith)

      enough : (k : Result Shape Refusal) → Ok it ≡ build.answered k file (length ws) (length out) → one_entries (matrix_in file) ≤ length ws
      enough (Err why) w = absurd (let z : ◌≡◌ {A = ℕ} 0 1 = cc in omega arith)
      enough (Ok k) w = tested (ltb (length ws) (one_entries (matrix_in file))) (cond (ltb (length out) (build.room_for k.n k.m)) (Err (refused reason.Room 0)) (build.taken_of file)) refl w

  pub split_workspace : {S : ℕ} {r : Result Split Refusal} {ws' : List ℤ} → split.Splits file S ws r ws' → (split.returned r).number ≡ 0 → OneForEach1 (matrix_in file) ws ws'
  unfolding split.workspace_after split.divided split.answered
  split_workspace {r = Err why} x none = let (cost, A, t, e) = (split_succeeds x).0 none in absurd (let z : ◌≡◌ {A = ℕ} 0 1 = cc in omega arith)
  split_workspace {S} {r = Ok it} x none = rw x.workspace (one_for_each (matrix_in file) ws (enough (checked file) x.answers))
    where
      tested : (a b : Bool) (other : Result Split Refusal) → ltb (length ws) (one_entries (matrix_in file)) ≡ b
          → Ok it ≡ cond a (Err (refused reason.GroupToSplit 0)) (cond b (Err (refused reason.Workspace 0)) other) → one_entries (matrix_in file) ≤ length ws
      tested true b other e w = absurd (let z : ◌≡◌ {A = ℕ} 0 1 = cc in omega arith)
      tested false true other e w = absurd (let z : ◌≡◌ {A = ℕ} 0 1 = cc in omega arith)
      tested false false other e w = omega (arith, ltb-false (length ws) (one_entries (matrix_in file)) e)

      enough : (k : Result Shape Refusal) → Ok it ≡ split.answered k file S (length ws) → one_entries (matrix_in file) ≤ length ws
      enough (Err why) w = absurd (let z : ◌≡◌ {A = ℕ} 0 1 = cc in omega arith)
      enough (Ok it) w = tested (split.no_group it.n S) (ltb (length ws) (one_entries (matrix_in file))) (split.split_of (matrix_in file) S) refl w

-- ---- the count

-- A workspace that was long enough before C-13 still is.
pub ones_few : {file : List ℕ} {n m : ℕ} → File file → Ok (shape n m) ≡ checked file → one_entries (matrix_in file) ≤ n * m
unfolding one_entries sizes
ones_few {file} {n} {m} f taken =
    let M = matrix_in file in
    let few : sum (length M.columns) (λ c. count 64 (column M.columns c).ones) ≤ length M.columns * n =
    sum_bound (length M.columns) n (λ c b. omega (
      arith,
      count_⊆ 64 ((taken_sound f taken).ones_in c b),
      count_all 64 M.taxa (taken_sound f taken).few,
      taken_known f taken,
    ))
    in
    omega (arith, few, ap (λ (x : ℕ). x * n) (taken_count f taken), mul_comm n m)

-- A matrix without a 1 needs none.
pub no_ones : (M : Matrix) → ((c : ℕ) → c < length M.columns → (column M.columns c).ones ≡ 0) → one_entries M ≡ 0
unfolding one_entries sizes
no_ones M none = sum_none (length M.columns) (λ c b. ap (count 64) (none c b) ∙ count_none 64)
