-- `score::score_read` meets its contract: each return is a row of `agreed`.
use mathlib.Core.Path.{ap, ◌∙◌}
use mathlib.Core.Logic.{inl, inr}
use native.Mathlib.Omega.{arith}
use Rattle.std.specs.Prelude.{Err}
use Rattle.record.specs.Bytes.{File}
use Rattle.answer.proofs.Outcomes.{laid, groups_placed}
use Rattle.matrix.proofs.Taken.{taken_legal, taken_length, taken_taxa, taken_columns, taken_multiplied}
use Rattle.score.proofs.Light.{taken_light}
use Rattle.score.proofs.Scoring.{first_groups, other_taxa, other_columns, taken_row}
use Rattle.score.proofs.score_read.Goals as goal

pub answer_in-value-requires : goal.answer_in-value-requires
answer_in-value-requires c = let l = laid _ c.requires.passes in (omega (arith, l.head_kept.few, l.head_kept.fewer), l.flips_at)

pub returns-then-value-n : goal.returns-then-value-n
returns-then-value-n c =
    ap Err c.at.ensures ∙ elim c.then-value-n.either [
      | inl other ↦ other_taxa _ _ _ _ c.answer_in-value.ensures (omega (arith, other))
      | inr (same, other) ↦ other_columns _ _ _ _ c.answer_in-value.ensures (omega (arith, same)) (omega (arith, other))
    ]

pub load_planes-requires : goal.load_planes-requires
load_planes-requires c = taken_multiplied (record { byte = λ i. omega (arith, c.type_inv.matrix i) }) c.requires.taken

pub score_columns-sums-requires : goal.score_columns-sums-requires
score_columns-sums-requires c =
    let f : File c.args.matrix.now = record { byte = λ i. omega (arith, c.type_inv.matrix i) } in
    let taken = c.requires.taken in
    let l = laid _ c.requires.passes in
    (omega (arith, taken_columns f taken, (taken_legal f taken).columns_fit), omega (arith, taken_length f taken), omega (arith, taken_taxa f taken, (taken_legal f taken).taxa_fit), rw c.load_planes.ensures.0 (taken_light f taken))

pub shared_ref_as_front-groups : goal.shared_ref_as_front-groups
shared_ref_as_front-groups c = let l = laid _ c.requires.passes in rw c.answer_in-value.ensures (omega (arith, l.head_kept.few, l.head_kept.fewer))

pub returns : goal.returns
returns c =
    let l = laid _ c.requires.passes in
    let value = c.answer_in-value.ensures in
    let placed = groups_placed _ value (omega (arith, l.head_kept.few, l.head_kept.fewer)) in
    let sums = rw (c.from.ensures, first_groups _ _ _ _ placed) at c.score_columns-sums.ensures in
    taken_row _ _ _ _ value c.load_planes.ensures.0 (omega (arith, c.if-value-n.false)) (omega (arith, c.if-value-m.false)) sums.raised.0 sums.lowered.0
