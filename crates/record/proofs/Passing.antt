-- A reading that passes has passed each of its tests and steps: how a test that would have refused (`unless`), one that had to hold (`where_holds`),
-- a step (`through_step`) and a reading before another (`through`) are undone. And what `?` hands on of one that is refused (`handed_on`).
use mathlib.Core.Path.{◌≡◌, refl, ap, ◌∙◌}
use mathlib.Core.Bool.{Bool, true, false, ◌||◌, cond, true≢false}
use Prim.Native.Nat.{ℕ}
use native.Mathlib.Omega.{arith}
use Rattle.record.specs.Records.{judged, onward, Passed}
use Rattle.record.specs.declared.Cursor.{Cursor}
use Rattle.record.specs.declared.refusal.Refusal.{Refusal}
use Rattle.record.specs.declared.Step.{Step}
use Rattle.record.specs.declared.Step.TheVariants as step
use Rattle.std.specs.Prelude.{Result, Ok, Err}
use Rattle.std.specs.Result.{IsErrAnd}
use Rattle.std.proofs.lemmas.Result.{err_from_is_err_and}

-- Neither of two tests held.
pub neither : (a b : Bool) → (a || b) ≡ false → (a ≡ false) × (b ≡ false)
neither true b e = absurd (true≢false e)
neither false b e = (refl, e)

never : {next : Cursor} {why : Refusal} → Ok next ≡ Err why → ⊥
never e = let z : ◌≡◌ {A = ℕ} 0 1 = cc in omega arith

module _ {next : Cursor} where
  pub unless : (b : Bool) (why : Refusal) (p : Passed) → Ok next ≡ cond b (Err why) p → (b ≡ false) × (Ok next ≡ p)
  unless true why p e = absurd (never e)
  unless false why p e = (refl, e)

  pub where_holds : (b : Bool) (p : Passed) (why : Refusal) → Ok next ≡ cond b p (Err why) → (b ≡ true) × (Ok next ≡ p)
  where_holds true p why e = (refl, e)
  where_holds false p why e = absurd (never e)

  pub through_step : (s : Step) {judge : ℕ → Cursor → Passed} → Ok next ≡ judged s judge → (at : ℕ) × (c : Cursor) × (step.Payload at c ≡ s) × (Ok next ≡ judge at c)
  through_step (step.Payload at c) e = (at, c, refl, e)
  through_step (step.Refused why) e = absurd (never e)

  pub through : (p : Passed) {go : Cursor → Passed} → Ok next ≡ onward p go → (c : Cursor) × (Ok c ≡ p) × (Ok next ≡ go c)
  through (Ok c) e = (c, refl, e)
  through (Err why) e = absurd (never e)

-- `?` hands on the refusal that it was given.
pub handed_on : {T : Type 0} (r : Result T Refusal) (why : Refusal) → IsErrAnd r (λ y. y ≡ why) → r ≡ Err why
handed_on r why h = let p = err_from_is_err_and r h in p.1 ∙ ap Err p.2
