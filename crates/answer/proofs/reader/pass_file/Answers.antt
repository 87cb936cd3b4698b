-- `answer::reader::pass_file` meets its contract: each stage that refuses stops the tests, and the last one ends them.
use mathlib.Core.Path.{◌≡◌, sym, ap, ◌∙◌}
use mathlib.Core.List.{List}
use Prim.Native.Nat.{ℕ}
use Rattle.record.specs.Bytes.{number_at}
use Rattle.record.specs.Records.{Passed}
use Rattle.record.specs.declared.Cursor.{Cursor}
use Rattle.record.proofs.Passing.{handed_on}
use Rattle.answer.specs.Content.{group_count, flip_count, flips_start, taxa_in, costs_in, columns_from, raised_from, lowered_from}
use Rattle.answer.specs.Tests.{in_file, walk, group_test, flips_test, end_test}
use Rattle.answer.proofs.Files.{groups_of, flips_of, end_of, head_leads, groups_lead, stops, ends}
use Rattle.answer.proofs.Stages.{head_stops, groups_stop, flips_stop, ends_with}
use native.Mathlib.Omega.{arith}
use Rattle.answer.proofs.reader.pass_file.Goals as goal

-- What the groups' tests, the flips' and the end's are of the file, by the numbers that were read for them.
module _ (file : List ℕ) where
  grouped : (n groups : ℕ) (first : Cursor) (r : Passed) → n ≡ number_at 2 file 4 → groups ≡ group_count file
      → r ≡ walk (group_test (in_file file) n (taxa_in file groups)) groups first → r ≡ groups_of file first
  grouped n groups first r a b e = rw (a, b) at e

  flipped : (n m count : ℕ) (flips : Cursor) (r : Passed) → n ≡ number_at 2 file 4 → m ≡ number_at 2 file 6 → count ≡ flip_count file
      → flips.at ≡ flips_start (group_count file)
      → r ≡ walk (flips_test (in_file file) n m (columns_from file flips.at count) (raised_from file flips.at count) (lowered_from file flips.at count)) count flips
      → r ≡ flips_of file flips
  flipped n m count flips r a b c place e =
      rw (a, b, c) at e
      ∙ ap (λ (at : ℕ). walk (flips_test (in_file file) (number_at 2 file 4) (number_at 2 file 6) (columns_from file at (flip_count file)) (raised_from file at (flip_count file)) (lowered_from file at (flip_count file))) (flip_count file) flips) place

  ended : (groups : ℕ) (end : Cursor) (r : Passed) → groups ≡ group_count file
      → r ≡ end_test (in_file file) (number_at 4 file 12) (costs_in file groups) groups end → r ≡ end_of file end
  ended groups end r b e = rw b at e

pub returns-in_err-first : goal.returns-in_err-first
returns-in_err-first c = handed_on _ _ c.from_residual.ensures.1 ∙ stops _ (head_stops _ _ _ (sym c.in_err-first.was ∙ c.pass_head.ensures))

pub u16_at-n-requires : goal.u16_at-n-requires
u16_at-n-requires c = omega (arith, head_leads _ (sym c.in_ok-first.was ∙ c.pass_head.ensures))

pub u16_at-groups-requires : goal.u16_at-groups-requires
u16_at-groups-requires c = omega (arith, head_leads _ (sym c.in_ok-first.was ∙ c.pass_head.ensures))

pub pass_groups-requires : goal.pass_groups-requires
pass_groups-requires c =
    let h = head_leads _ (sym c.in_ok-first.was ∙ c.pass_head.ensures) in
    (omega (arith, h.0.few, c.u16_at-n.ensures), omega (arith, h.0.few, h.0.fewer, c.u16_at-groups.ensures), h.1)

pub returns-in_err-flips : goal.returns-in_err-flips
returns-in_err-flips c =
    let file = c.args.file.now in
    let g = grouped file _ _ _ _ c.u16_at-n.ensures c.u16_at-groups.ensures c.pass_groups.ensures in
    handed_on _ _ c.from_residual-in_err-flips.ensures.1 ∙ stops _ (groups_stop _ _ _ (sym c.in_ok-first.was ∙ c.pass_head.ensures) (sym c.in_err-flips.was ∙ g))

pub u16_at-requires : goal.u16_at-requires
u16_at-requires c = omega (arith, head_leads _ (sym c.in_ok-first.was ∙ c.pass_head.ensures))

pub u16_at-requires-2 : goal.u16_at-requires-2
u16_at-requires-2 c = omega (arith, head_leads _ (sym c.in_ok-first.was ∙ c.pass_head.ensures))

pub pass_flips-requires : goal.pass_flips-requires
pass_flips-requires c = omega (arith, (head_leads _ (sym c.in_ok-first.was ∙ c.pass_head.ensures)).0.few, c.u16_at-n.ensures)

pub returns-in_err-end : goal.returns-in_err-end
returns-in_err-end c =
    let file = c.args.file.now in
    let h = sym c.in_ok-first.was ∙ c.pass_head.ensures in
    let g = sym c.in_ok-flips.was ∙ grouped file _ _ _ _ c.u16_at-n.ensures c.u16_at-groups.ensures c.pass_groups.ensures in
    let f = flipped file _ _ _ c.in_ok-flips.flips _ c.u16_at-n.ensures c.u16_at.ensures c.u16_at-2.ensures (groups_lead file h g).0 c.pass_flips.ensures in
    handed_on _ _ c.from_residual-in_err-end.ensures.1 ∙ stops _ (flips_stop _ _ _ h g (sym c.in_err-end.was ∙ f))

pub pass_end-requires : goal.pass_end-requires
pass_end-requires c =
    let file = c.args.file.now in
    let h = sym c.in_ok-first.was ∙ c.pass_head.ensures in
    let g = sym c.in_ok-flips.was ∙ grouped file _ _ _ _ c.u16_at-n.ensures c.u16_at-groups.ensures c.pass_groups.ensures in
    let k = (head_leads file h).0 in
    (omega (arith, k.few, k.fewer, c.u16_at-groups.ensures), omega (arith, groups_lead file h g, c.u16_at-groups.ensures))

pub returns-in_err-after : goal.returns-in_err-after
returns-in_err-after c =
    let file = c.args.file.now in
    let h = sym c.in_ok-first.was ∙ c.pass_head.ensures in
    let g = sym c.in_ok-flips.was ∙ grouped file _ _ _ _ c.u16_at-n.ensures c.u16_at-groups.ensures c.pass_groups.ensures in
    let f = sym c.in_ok-end.was ∙ flipped file _ _ _ c.in_ok-flips.flips _ c.u16_at-n.ensures c.u16_at.ensures c.u16_at-2.ensures (groups_lead file h g).0 c.pass_flips.ensures in
    let e = ended file _ c.in_ok-end.end _ c.u16_at-groups.ensures c.pass_end.ensures in
    handed_on _ _ c.from_residual-in_err-after.ensures.1 ∙ stops _ (sym c.in_err-after.was ∙ e ∙ ends_with _ _ _ h g f)

pub returns : goal.returns
returns c =
    let file = c.args.file.now in
    let h = sym c.in_ok-first.was ∙ c.pass_head.ensures in
    let g = sym c.in_ok-flips.was ∙ grouped file _ _ _ _ c.u16_at-n.ensures c.u16_at-groups.ensures c.pass_groups.ensures in
    let f = sym c.in_ok-end.was ∙ flipped file _ _ _ c.in_ok-flips.flips _ c.u16_at-n.ensures c.u16_at.ensures c.u16_at-2.ensures (groups_lead file h g).0 c.pass_flips.ensures in
    let e = ended file _ c.in_ok-end.end _ c.u16_at-groups.ensures c.pass_end.ensures in
    c.nothing_after.ensures ∙ ends _ (sym c.in_ok-after.was ∙ e ∙ ends_with _ _ _ h g f)
