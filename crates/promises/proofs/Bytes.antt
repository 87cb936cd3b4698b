-- The file of any content is bytes (`file_bytes`).
use mathlib.Core.List.{List}
use Prim.Native.Nat.{ℕ, zero, suc}
use lib.ListN.{get_or}
use Rattle.record.specs.Bytes.{File}
use Rattle.record.proofs.Files.{no_bytes, join, number, record_file}
use Rattle.answer.specs.Content.{Content, run, head_bytes, group_bytes, flips_bytes, end_bytes, file_of}

runs : (piece : ℕ → List ℕ) → ((i : ℕ) → File (piece i)) → (k : ℕ) → File (run piece k)
unfolding run
runs piece f zero = no_bytes
runs piece f (suc k) = join (run piece k) (runs piece f k) (f k)

pub file_bytes : (c : Content) → File (file_of c)
unfolding file_of head_bytes group_bytes flips_bytes end_bytes
file_bytes c =
    let numbers = join _ (join _ (join _ (join _ (number 2 c.n) (number 2 c.m)) (number 2 c.groups)) (number 2 c.flips)) (number 4 c.total) in
    let groups = runs _ (λ i. record_file _ (join _ (number 8 (get_or c.taxa i 0)) (number 4 (get_or c.costs i 0)))) c.groups in
    let flips = runs _ (λ j. record_file _ (join _ (join _ (number 2 (get_or c.columns j 0)) (number 8 (get_or c.raised j 0))) (number 8 (get_or c.lowered j 0)))) c.flips in
    join _ (join _ (join _ (record_file _ numbers) groups) flips) (record_file _ no_bytes)
