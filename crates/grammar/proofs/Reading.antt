-- Reading with the limits accepts exactly the texts that spell trees within them, and gives their taxa and columns (`reads`, `reads_only`).
-- Any other text is refused by its first fault, by place and then by number (`refuses`), where 16 is the grammar's (`place_16`).
use mathlib.Core.Path.{◌≡◌}
use mathlib.Core.Bool.{Bool, true, false, cond}
use mathlib.Core.List.{List, [], ◌∷◌, ◌++◌}
use Prim.Native.Nat.{ℕ, ◌+◌, ◌≤◌, ◌<◌}
use native.Mathlib.Omega.{arith}
use lib.Dec.{ltb}
use lib.ListN.{length}
use borrow.Author.Tests.{lt-ltb}
use Rattle.grammar.specs.Bytes.{left, right, comma, semicolon}
use Rattle.grammar.specs.Trees.{Trees, Token, word, sign}
use Rattle.grammar.specs.Text.{Newick}
use Rattle.grammar.specs.Columns.{all_names, all_columns}
use Rattle.grammar.specs.Limits.{is_in, seen, taxa, Within}
use Rattle.grammar.specs.Verdict.{fails, accepted, refused}
use Rattle.grammar.specs.Places.{Fault}
use Rattle.grammar.specs.Clerk.{Tally, nothing, wrongs, keep, note, outcome, faults_of}
use Rattle.grammar.specs.Writer.{written}
use Rattle.grammar.proofs.Promises.{place}
use Rattle.grammar.proofs.Order.{Rising, Numbers, end, next, rising}
use Rattle.grammar.proofs.First.{First, first_fault, own_16}
use Rattle.grammar.proofs.Verdicts.{accepts, accepted_right}
use Rattle.grammar.proofs.Tallies.{between, taken, tallied}
use Rattle.grammar.proofs.Writing.{Named, written_spells}

long : (x : Tally) (n : List ℕ) → 32 < length n → (r : ℕ) × (note x (word n) ≡ fails r)
unfolding wrongs
long x n h = (17, rw (lt-ltb 32 (length n) h))

pub reads : (s : List ℕ) (ts : Trees) → Newick s ts → Within ts → outcome s ≡ accepted ts (between (taxa ts) (all_columns ts))
reads s ts n w = accepts note nothing long s n (taken ts w)

pub reads_only : (s : List ℕ) (ts : Trees) {y : Tally} → outcome s ≡ accepted ts y → Newick s ts × Within ts × (y.taxa ≡ taxa ts) × (y.columns ≡ all_columns ts)
reads_only s ts e =
    let (n, f) = accepted_right note nothing long s e in
    let (w, g) = tallied ts f in (n, w, cc, cc)

-- ---- refusals

single : (lo r : ℕ) → lo ≤ r → r < 21 → Numbers lo (r ∷ [])
single lo r h l = next h (end l)

none : Numbers 17 []
none = end {lo = 17} (omega arith)

pub numbers : (x : Tally) (w : Token) → Numbers 17 (wrongs x w)
unfolding wrongs
numbers x (word n) = go (ltb 32 (length n)) (is_in n x.here) (ltb 64 (length (seen x.taxa (n ∷ []))))
  where
    go : (a b c : Bool) → Numbers 17 (cond a (17 ∷ []) (cond b (18 ∷ []) (cond c (19 ∷ []) [])))
    go true b c = single 17 17 (omega arith) (omega arith)
    go false true c = single 17 18 (omega arith) (omega arith)
    go false false true = single 17 19 (omega arith) (omega arith)
    go false false false = none
numbers x (sign left) = go (ltb 256 (length x.columns + length x.clades)) (ltb 63 (length x.brackets))
  where
    go : (a b : Bool) → Numbers 17 (cond a (19 ∷ []) [] ++ cond b (20 ∷ []) [])
    go true true = next {lo = 17} {r = 19} (omega arith) (single 20 20 (omega arith) (omega arith))
    go true false = single 17 19 (omega arith) (omega arith)
    go false true = single 17 20 (omega arith) (omega arith)
    go false false = none
numbers x (sign right) = none
numbers x (sign comma) = none
numbers x (sign semicolon) = none

pub refuses : (s : List ℕ) → First (faults_of s) (outcome s) × Rising 0 (faults_of s)
refuses s = (first_fault wrongs keep s nothing, rising wrongs keep numbers s nothing)

pub place_16 : (s : List ℕ) {p : ℕ} → outcome s ≡ refused 16 p → Fault s p
place_16 s e = place (own_16 wrongs keep numbers s nothing e)

-- ---- writing

-- What is written without blanks reads back to the same trees.
pub written_reads : (ts : Trees) → Named (all_names ts) → Within ts → outcome (written ts) ≡ accepted ts (between (taxa ts) (all_columns ts))
written_reads ts n w = reads (written ts) ts (written_spells ts n) w
