-- Where a reading of records ends: no later than some place, whether it passes or is refused (`By`).
use mathlib.Core.Path.{◌≡◌, refl}
use mathlib.Core.List.{List}
use Prim.Native.Nat.{ℕ, ◌+◌, ◌≤◌, ◌<◌}
use native.Mathlib.Omega.{arith}
use Rattle.record.specs.Records.{record_of, payload, judged, onward, step, Passed}
use Rattle.record.specs.declared.Cursor.{Cursor}
use Rattle.record.specs.declared.Record.{Record}
use Rattle.record.specs.declared.Step.{Step}
use Rattle.record.specs.declared.Step.TheVariants as step
use Rattle.record.proofs.Steps.{EndsBy, step_ends}
use Rattle.std.specs.Prelude.{Ok, Err}
use Rattle.record.specs.Refusals.{refusal_number}

-- Refusals have numbers of which Number holds.
module _ (Number : ℕ → Type 0) where
  -- A reading that ends by `far` at the latest: passed, the cursor is there; refused, its place is.
  abbrev pub By : ℕ → Passed → Type 0
  By far (Ok here) = here.at ≤ far
  By far (Err why) = (why.place ≤ far) × Number (refusal_number why.reason)

  pub by_later : (near far : ℕ) → near ≤ far → (p : Passed) → By near p → By far p
  by_later near far l (Ok here) b = omega arith
  by_later near far l (Err why) b = (omega arith, b.1)

  pub by_onward : (far : ℕ) (p : Passed) (go : Cursor → Passed) → By far p → ((c : Cursor) → Ok c ≡ p → By far (go c)) → By far (onward p go)
  by_onward far (Ok c) go b h = h c refl
  by_onward far (Err why) go b h = b

  -- A record at its place, whose own refusals have the numbers 1 and 2, and then the tests of its content.
  module _ (small : (k : ℕ) → 0 < k → k ≤ 2 → Number k) (at far : ℕ) (judge : ℕ → Cursor → Passed) (l : at ≤ far) where
    by_judged : (it : Record) (s : Step) → EndsBy at it s → ((b : ℕ) (c : Cursor) → c.at ≡ at + 4 + it.length → By far (judge b c)) → By far (judged s judge)
    by_judged it (step.Payload b c) e h = h b c e
    by_judged it (step.Refused why) e h = (omega arith, small (refusal_number why.reason) e.1 e.2)

    pub by_step : (file : List ℕ) (it : Record) → ((b : ℕ) (c : Cursor) → c.at ≡ at + 4 + it.length → By far (judge b c)) → By far (judged (step file at it) judge)
    by_step file it = by_judged it (step file at it) (step_ends file at it)

    pub by_record : (file : List ℕ) (kind : ℕ) → ((b : ℕ) (c : Cursor) → c.at ≡ at + 4 + payload kind → By far (judge b c)) → By far (judged (step file at (record_of kind)) judge)
    by_record file kind = by_step file (record_of kind)
