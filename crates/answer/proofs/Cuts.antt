-- What is given past the counts plays no part in the tests: `groups_cut`, `flips_cut`, `sum_cut`; nor in the file: `groups_file_cut`, `flips_file_cut`.
use mathlib.Core.Path.{◌≡◌, sym}
use mathlib.Core.List.{List, ◌++◌}
use Prim.Native.Nat.{ℕ, ◌<◌}
use native.Mathlib.Omega.{arith}
use lib.ListN.{get_or, take}
use lib.Seq.{get_or-take}
use Rattle.taxa.proofs.Sums.{sum_≡}
use Rattle.record.specs.declared.Cursor.{Cursor}
use Rattle.answer.specs.declared.Answer.{Answer}
use Rattle.answer.specs.Content.{run, head_bytes, group_record, flips_record, end_bytes, file_of, content_of}
use Rattle.answer.specs.Rules.{sum_of}
use Rattle.answer.specs.Tests.{Meet, walk, group_test, flips_test}
use Rattle.answer.proofs.Rows.{group_same, floor_same}
use Rattle.answer.proofs.Runs.{run_same}
use Rattle.answer.proofs.Walks.{walk_same}

cut : (k : ℕ) (xs : List ℕ) (i : ℕ) → i < k → get_or xs i 0 ≡ get_or (take k xs) i 0
cut k xs i l = sym (get_or-take k xs i 0 l)

pub groups_cut : (meet : Meet) (n k : ℕ) (taxa : List ℕ) (from : Cursor) → walk (group_test meet n taxa) k from ≡ walk (group_test meet n (take k taxa)) k from
unfolding group_test
groups_cut meet n k taxa from =
    walk_same (group_test meet n taxa) (group_test meet n (take k taxa)) k from (λ i here l. rw (group_same taxa (take k taxa) n i (λ j h. cut k taxa j (omega arith))))

pub flips_cut : (meet : Meet) (n m k : ℕ) (columns raised lowered : List ℕ) (from : Cursor)
    → walk (flips_test meet n m columns raised lowered) k from ≡ walk (flips_test meet n m (take k columns) (take k raised) (take k lowered)) k from
flips_cut meet n m k columns raised lowered from =
    walk_same (flips_test meet n m columns raised lowered) (flips_test meet n m (take k columns) (take k raised) (take k lowered)) k from (λ j here l.
    rw (floor_same columns (take k columns) j (λ i h. cut k columns i (omega arith)), cut k columns j l, cut k raised j l, cut k lowered j l))

pub sum_cut : (costs : List ℕ) (k : ℕ) → sum_of costs k ≡ sum_of (take k costs) k
sum_cut costs k = sum_≡ k (λ i l. cut k costs i l)

pub groups_file_cut : (taxa costs : List ℕ) (k : ℕ) → run (group_record taxa costs) k ≡ run (group_record (take k taxa) (take k costs)) k
groups_file_cut taxa costs k = run_same (group_record taxa costs) (group_record (take k taxa) (take k costs)) k (λ i l. rw (cut k taxa i l, cut k costs i l))

pub flips_file_cut : (columns raised lowered : List ℕ) (k : ℕ) → run (flips_record columns raised lowered) k ≡ run (flips_record (take k columns) (take k raised) (take k lowered)) k
flips_file_cut columns raised lowered k =
    run_same (flips_record columns raised lowered) (flips_record (take k columns) (take k raised) (take k lowered)) k (λ j l. rw (cut k columns j l, cut k raised j l, cut k lowered j l))

-- The file of what is given, from the places as they are.
pub file_cut : (a : Answer) (columns raised lowered : List ℕ) → file_of (content_of a columns raised lowered)
    ≡ head_bytes a.n a.m a.groups a.flips a.total ++ run (group_record a.taxa a.costs) a.groups ++ run (flips_record columns raised lowered) a.flips ++ end_bytes
unfolding file_of
file_cut a columns raised lowered = rw (← groups_file_cut a.taxa a.costs a.groups, ← flips_file_cut columns raised lowered a.flips)
