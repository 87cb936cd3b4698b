-- The records of an answer as bytes: in the order in which they are written (`head_flat` ..), and how long each is.
use mathlib.Core.Path.{◌≡◌}
use mathlib.Core.List.{List, ◌++◌, append_assoc}
use Prim.Native.Nat.{ℕ, ◌*◌}
use native.Mathlib.Omega.{arith}
use lib.ListN.{length, length-append}
use Rattle.record.specs.Bytes.{bytes_of}
use Rattle.record.specs.Records as records
use Rattle.record.specs.Records.{record_of, opening_of, record_bytes}
use Rattle.record.proofs.Numbers.{length_bytes}
use Rattle.record.proofs.Files.{length_opening, opening_only}
use Rattle.answer.specs.Content.{Content, run, head_bytes, group_bytes, flips_bytes, end_bytes, group_record, flips_record, file_of, length_of}
use Rattle.answer.proofs.Runs.{length_run}

pub head_flat : (n m groups flips total : ℕ)
    → head_bytes n m groups flips total ≡ opening_of (record_of records.answer_head) ++ bytes_of 2 n ++ bytes_of 2 m ++ bytes_of 2 groups ++ bytes_of 2 flips ++ bytes_of 4 total
unfolding head_bytes record_bytes
head_flat n m groups flips total = simp append_assoc

pub group_flat : (taxa cost : ℕ) → group_bytes taxa cost ≡ opening_of (record_of records.group) ++ bytes_of 8 taxa ++ bytes_of 4 cost
unfolding group_bytes record_bytes
group_flat taxa cost = simp append_assoc

pub flips_flat : (column raised lowered : ℕ) → flips_bytes column raised lowered ≡ opening_of (record_of records.flips) ++ bytes_of 2 column ++ bytes_of 8 raised ++ bytes_of 8 lowered
unfolding flips_bytes record_bytes
flips_flat column raised lowered = simp append_assoc

pub end_flat : end_bytes ≡ opening_of (record_of records.answer_end)
unfolding end_bytes
end_flat = opening_only (record_of records.answer_end)

pub length_head : (n m groups flips total : ℕ) → length (head_bytes n m groups flips total) ≡ 16
length_head n m groups flips total = rw (head_flat n m groups flips total) (simp (length-append, length_opening, length_bytes))

pub length_group : (taxa cost : ℕ) → length (group_bytes taxa cost) ≡ 16
length_group taxa cost = rw (group_flat taxa cost) (simp (length-append, length_opening, length_bytes))

pub length_flips : (column raised lowered : ℕ) → length (flips_bytes column raised lowered) ≡ 22
length_flips column raised lowered = rw (flips_flat column raised lowered) (simp (length-append, length_opening, length_bytes))

pub length_end : length end_bytes ≡ 4
length_end = rw end_flat (length_opening (record_of records.answer_end))

pub length_groups : (taxa costs : List ℕ) (k : ℕ) → length (run (group_record taxa costs) k) ≡ 16 * k
length_groups taxa costs = length_run (group_record taxa costs) 16 (λ i. length_group _ _)

pub length_all_flips : (columns raised lowered : List ℕ) (k : ℕ) → length (run (flips_record columns raised lowered) k) ≡ 22 * k
length_all_flips columns raised lowered = length_run (flips_record columns raised lowered) 22 (λ j. length_flips _ _ _)

-- "An answer's length": 20 + 16 for each group + 22 for each flipped column.
pub length_file : (c : Content) → length (file_of c) ≡ length_of c
unfolding file_of
length_file c = simp (length-append, length_head, length_groups, length_all_flips, length_end) (omega arith)
