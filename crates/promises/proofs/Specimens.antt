-- The specimens: one statement, which the checker computes. What the table says that a build tells, it leaves (`told_leaves`); so of specimen 7, before
-- document 02's C-12, the score was above the total (`old_score_above_total`).
use mathlib.Core.Path.{◌≡◌, refl, sym, ap}
use mathlib.Core.List.{List, [], map}
use Prim.Native.Nat.{ℕ, ◌<◌}
use native.Mathlib.Omega.{arith}
use lib.IntN.{pos}
use lib.ListN.{length, get_or, replicate, length-replicate}
use Rattle.taxa.specs.Sum.{sum}
use Rattle.taxa.specs.Sets.{◌∩◌, ◌∪◌, ◌∖◌, within, mass, count, sizes, multiplicity, low}
use Rattle.record.specs.Bytes.{number_at, bytes_of, over}
use Rattle.record.specs.Records.{step, nothing_after, opening_of, record_bytes}
use Rattle.matrix.specs.Matrix.{has_multiplicities, multiplicity_count, multiplicities_in, columns_at, columns_from, matrix_of}
use Rattle.matrix.specs.Check.{head_judged, head_passed, every, multiplicities_judged, multiplicities_passed, column_judged, column_passed, columns_passed, end_passed, file_passed, checked}
use Rattle.answer.specs.Content.{run, head_bytes, group_bytes, flips_bytes, end_bytes, file_of, taxa_in, costs_in, columns_from as columnsListed, raised_from, lowered_from}
use Rattle.answer.specs.Rules.{counted, head_fault, follows, placed, compatible, compatible_all, group_fault, floor_of, kept as keptEntry, entry_fault}
use Rattle.answer.specs.Tests.{judge, walk, head_test, group_test, entry_test, end_test, tests}
use Rattle.answer.specs.Reading.{file_tests}
use Rattle.score.specs.Score.{distance, nearer, nearest_in, node_for, column_score, raises_of, lowers_of}
use Rattle.score.specs.Operation.{agreed, scored}
use Rattle.method.specs.Split.{raise, lower, least, share, division, flip, division_cost, key, side, flipped, apart, part, parts_of, parts}
use Rattle.method.specs.Tree.{walked, node, grown, build, kept, ordered, flip_list, total, column, one_entries, answer}
use Rattle.split.specs.Columns.{matrix_in}
use Rattle.tree.specs.Build.{content_for, room_for, answered, built, output_after, workspace_after, returned}
use Rattle.promises.specs.Held.{Leaves, total_in, many}
use Rattle.promises.specs.Pairs.{score_before}
use Rattle.promises.specs.Specimens.{build as ask-build, Told, Row, tells, seventh, seventh_answer, table}

pub specimens : map (λ (x : Row). tells x.asked) table ≡ map (λ (x : Row). x.told) table
unfolding tells sum mass count sizes one_entries multiplicity has_multiplicities multiplicity_count multiplicities_in columns_at every multiplicities_judged multiplicities_passed ◌∩◌ ◌∪◌ ◌∖◌ within low number_at bytes_of over step nothing_after opening_of record_bytes columns_from matrix_of head_judged head_passed column_judged column_passed columns_passed end_passed file_passed checked run head_bytes group_bytes flips_bytes end_bytes file_of least raise lower share flip division division_cost key side flipped apart part parts_of parts walked node grown build kept ordered flip_list total answer column content_for answered built output_after taxa_in costs_in columnsListed raised_from lowered_from counted head_fault follows placed compatible compatible_all group_fault floor_of keptEntry entry_fault judge walk head_test group_test entry_test end_test tests file_tests distance nearer nearest_in node_for column_score raises_of lowers_of agreed scored
specimens = refl

-- ---- the bound of C-23 rests on C-12

-- What a row says that the build tells, it leaves.
told_leaves : (space : ℕ) (file : List ℕ) {size total : ℕ} {bytes : List ℕ}
    → tells (ask-build space file) ≡ record { number = 0; place = 0; first = size; second = total; bytes = bytes } → Leaves file bytes
unfolding tells
told_leaves space file told =
    let room = room_for (matrix_in file).taxa (many (matrix_in file)) in
    let ws = replicate space (pos 0) in
    let out : List ℕ = replicate room 0 in
    let r = built file space room in
    let answers : r ≡ built file (length ws) (length out) = rw (length-replicate space (pos 0), length-replicate {A = ℕ} room 0) in
    record {
      ws = ws;
      out = out;
      r = r;
      ws' = workspace_after file r ws;
      out' = output_after file r out;
      builds = record { answers = answers; numbers = ap returned answers; output = refl; workspace = refl };
      success = ap (λ (t : Told). t.number) told;
      bytes = sym (ap (λ (t : Told). t.bytes) told);
    }

seventh_before : score_before seventh seventh_answer ≡ 5
unfolding sum mass multiplicity has_multiplicities multiplicity_count multiplicities_in columns_at columns_from matrix_of ◌∩◌ ◌∖◌ number_at run taxa_in distance nearer nearest_in node_for
seventh_before = refl

-- The build leaves a tree whose score before C-12 is above its total: specimen 7's. (Row 10 is its build.)
pub old_score_above_total : Leaves seventh seventh_answer × (total_in seventh_answer < score_before seventh seventh_answer)
unfolding number_at
old_score_above_total =
    let none : Told = record { number = 0; place = 0; first = 0; second = 0; bytes = [] } in
    (told_leaves 0 seventh (ap (λ (ts : List Told). get_or ts 10 none) specimens), rw seventh_before (omega arith))
