-- Runs of pieces and of entries: how long, what stands where, and how they are written over lent room one after the other.
use mathlib.Core.Path.{◌≡◌, refl, sym, ap, ◌∙◌}
use mathlib.Core.List.{List, [], ◌∷◌, ◌++◌, append_assoc}
use Prim.Native.Nat.{ℕ, zero, suc, ◌+◌, ◌*◌, ◌<◌}
use native.Mathlib.Nat.{mul-zero, add-zero}
use native.Mathlib.Numerals.{add-one}
use native.Mathlib.Omega.{arith}
use lib.ListN.{length, get_or, take, drop, set, length-append, get_or-append}
use lib.Seq.{get_or_at, take_at, ext_get_or}
use borrow.Author.Count.{below_more}
use Rattle.record.specs.Bytes.{over}
use Rattle.record.proofs.Numbers.{past}
use Rattle.record.proofs.Over.{one, onto, length_over}
use Rattle.answer.specs.Content.{run, numbers_of}

pub run_more : (piece : ℕ → List ℕ) (k : ℕ) → run piece (k + 1) ≡ run piece k ++ piece k
unfolding run
run_more piece k = rw add-one

-- Pieces of one length.
module _ (piece : ℕ → List ℕ) (w : ℕ) (sized : (i : ℕ) → length (piece i) ≡ w) where
  pub length_run : (k : ℕ) → length (run piece k) ≡ w * k
  unfolding run
  length_run zero = sym (mul-zero w)
  length_run (suc k) = rw (length-append, length_run k, sized k) (omega arith)

-- Runs of the same pieces are the same.
pub run_same : (a b : ℕ → List ℕ) (k : ℕ) → ((i : ℕ) → i < k → a i ≡ b i) → run a k ≡ run b k
unfolding run
run_same a b zero e = refl
run_same a b (suc k) e = rw (run_same a b k (λ i l. e i (omega arith)), e k (omega arith))

module _ (g : ℕ → ℕ) where
  pub length_entries : (k : ℕ) → length (numbers_of g k) ≡ k
  length_entries k = length_run (λ i. g i ∷ []) 1 (λ i. refl) k ∙ omega arith

  pub entry : (k i : ℕ) → i < k → get_or (numbers_of g k) i 0 ≡ g i
  unfolding run
  entry zero i l = absurd (omega arith)
  entry (suc k) i l =
      below_more
      (λ i. get_or (numbers_of g (suc k)) i 0 ≡ g i) k
      (λ i l. get_or-append (numbers_of g k) (g k ∷ []) 0 i (omega (arith, length_entries k)) ∙ entry k i l)
      (get_or_at (numbers_of g k) (g k) [] 0 k (length_entries k))
      i (omega arith)

-- ---- in a file

module _ (file : List ℕ) (at w : ℕ) (piece : ℕ → List ℕ) where
  -- Pieces that stand in a file one after the other are a run.
  pub run_stands : (k : ℕ) → ((i : ℕ) → i < k → drop (at + w * i) file ≡ piece i ++ drop (at + w * i + w) file) → drop at file ≡ run piece k ++ drop (at + w * k) file
  unfolding run
  run_stands zero e = rw (mul-zero, add-zero)
  run_stands (suc k) e =
      let far : at + w * k + w ≡ at + w * suc k = omega arith in
      run_stands k (λ i l. e i (omega arith)) ∙ ap (◌++◌ (run piece k)) (rw far at (e k (omega arith))) ∙ sym (append_assoc (run piece k) (piece k) (drop (at + w * suc k) file))

  -- Each piece of a run that stands in a file stands there.
  module _ (sized : (i : ℕ) → length (piece i) ≡ w) where
    pub run_holds : (k : ℕ) (rest : List ℕ) → drop at file ≡ run piece k ++ rest → (i : ℕ) → i < k → (r : List ℕ) × (drop (at + w * i) file ≡ piece i ++ r)
    unfolding run
    run_holds zero rest e i l = absurd (omega arith)
    run_holds (suc k) rest e i l =
        let e' = e ∙ append_assoc (run piece k) (piece k) rest in
        below_more
        (λ i. (r : List ℕ) × (drop (at + w * i) file ≡ piece i ++ r)) k
        (run_holds k (piece k ++ rest) e')
        (rest, rw (length_run piece w sized k) at (past file (run piece k) (piece k ++ rest) at e'))
        i (omega arith)

    pub run_past : (k : ℕ) (rest : List ℕ) → drop at file ≡ run piece k ++ rest → drop (at + w * k) file ≡ rest
    run_past k rest e = rw (length_run piece w sized k) at (past file (run piece k) rest at e)

-- Entries that are those of a list are that list.
pub entries_are : (g : ℕ → ℕ) (k : ℕ) (xs : List ℕ) → length xs ≡ k → ((i : ℕ) → i < k → g i ≡ get_or xs i 0) → numbers_of g k ≡ xs
entries_are g k xs n e =
    ext_get_or 0 (numbers_of g k) xs (length_entries g k ∙ sym n) (λ i l. let l' : i < k = omega (arith, length_entries g k) in entry g k i l' ∙ e i l')

-- ---- over lent room

-- One entry more, stored right after those before it.
pub store_next : (g : ℕ → ℕ) (i : ℕ) {v : ℕ} (xs : List ℕ) → v ≡ g i → i < length xs → set (over (numbers_of g i) 0 xs) i v ≡ over (numbers_of g (i + 1)) 0 xs
store_next g i {v} xs e l =
    let n = length_entries g i in
    let room = length_over (numbers_of g i) 0 xs (omega arith) in
    one v i (over (numbers_of g i) 0 xs) (omega arith) ∙ onto (numbers_of g i) (v ∷ []) 0 i xs (omega arith) (omega arith) ∙ rw (run_more, e)

-- What was written is there.
pub at_front : (r xs : List ℕ) (i : ℕ) → i < length r → get_or (over r 0 xs) i 0 ≡ get_or r i 0
unfolding over
at_front r xs i l = get_or-append r (drop (0 + length r) xs) 0 i l

pub front_is : (r xs : List ℕ) (k : ℕ) → length r ≡ k → take k (over r 0 xs) ≡ r
unfolding over
front_is r xs k e = take_at r (drop (0 + length r) xs) k e
