-- The tests of an answer, stage by stage, in a file or as given: which stage stops them (`head_stops` .. `flips_stop`), and how they end.
use mathlib.Core.Path.{◌≡◌}
use Prim.Native.Nat.{ℕ}
use Rattle.record.specs.declared.Cursor.{Cursor}
use Rattle.record.specs.declared.refusal.Refusal.{Refusal}
use Rattle.record.proofs.Passing.{through}
use Rattle.answer.specs.Content.{Content}
use Rattle.answer.specs.Tests.{Meet, walk, head_test, group_test, flips_test, end_test, tests}
use Rattle.std.specs.Prelude.{Ok, Err}
use Rattle.record.specs.Records.{Passed}

module _ (meet : Meet) (c : Content) (listed : ℕ) where
  abbrev pub head_of : Passed
  head_of = head_test meet c.n c.m c.groups c.flips listed

  abbrev pub groups_of : Cursor → Passed
  groups_of = walk (group_test meet c.n c.taxa) c.groups

  abbrev pub flips_of : Cursor → Passed
  flips_of = walk (flips_test meet c.n c.m c.columns c.raised c.lowered) c.flips

  abbrev pub end_of : Cursor → Passed
  end_of = end_test meet c.total c.costs c.groups

  module _ {why : Refusal} where
    pub head_stops : Err why ≡ head_of → Err why ≡ tests meet c listed
    unfolding tests
    head_stops h = rw (← h)

    module _ {first : Cursor} (h : Ok first ≡ head_of) where
      pub groups_stop : Err why ≡ groups_of first → Err why ≡ tests meet c listed
      unfolding tests
      groups_stop g = rw (← h, ← g)

      pub flips_stop : {flips : Cursor} → Ok flips ≡ groups_of first → Err why ≡ flips_of flips → Err why ≡ tests meet c listed
      unfolding tests
      flips_stop g f = rw (← h, ← g, ← f)

  pub ends_with : {first flips end : Cursor} → Ok first ≡ head_of → Ok flips ≡ groups_of first → Ok end ≡ flips_of flips → end_of end ≡ tests meet c listed
  unfolding tests
  ends_with h g f = rw (← h, ← g, ← f)

  -- Tests that are passed have passed each stage.
  pub record Staged (last : Cursor) : Type 0 where
    pub first : Cursor
    pub flips : Cursor
    pub end : Cursor
    pub head_passed : Ok first ≡ head_of
    pub groups_passed : Ok flips ≡ groups_of first
    pub flips_passed : Ok end ≡ flips_of flips
    pub end_passed_lem : Ok last ≡ end_of end

  pub staged : {last : Cursor} → Ok last ≡ tests meet c listed → Staged last
  unfolding tests
  staged e =
      let (first, h, e₁) = through head_of e in
      let (flips, g, e₂) = through (groups_of first) e₁ in
      let (end, f, e₃) = through (flips_of flips) e₂ in
      record { first = first; flips = flips; end = end; head_passed = h; groups_passed = g; flips_passed = f; end_passed_lem = e₃ }
