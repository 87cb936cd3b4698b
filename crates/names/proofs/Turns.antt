-- The bytes that are left are turns enough: what a file comes to from a record on is what that record comes to, and then what follows it (`listed_step`).
use mathlib.Core.Path.{◌≡◌, refl, sym, ap, ◌∙◌}
use mathlib.Core.Bool.{cond}
use mathlib.Core.List.{List, [], ◌∷◌, ◌++◌}
use Prim.Native.Nat.{ℕ, zero, suc, ◌≤◌, ◌<◌}
use native.Mathlib.Omega.{arith}
use Rattle.std.specs.Prelude.{Ok, Err}
use Rattle.grammar.specs.Columns.{Bytes}
use Rattle.record.specs.Records as records
use Rattle.record.specs.Records.{record_of, left, finds, Passed}
use Rattle.record.specs.Refusals.{refused}
use Rattle.record.specs.declared.Cursor.{Cursor}
use Rattle.record.specs.declared.refusal.Reason.TheVariants as reason
use Rattle.record.proofs.Steps.{no_opening, finds_none}
use Rattle.names.specs.Names.{name_at}
use Rattle.names.specs.Check.{Listing, refusal, name_passed, end_passed, ended, goes_on, record_listed, listed_in, listed_from}
use Rattle.names.proofs.Passing.{passing}

-- Readings that go on alike from where a name was passed.
goes_alike : (p : Passed) {f g : Cursor → Listing} → ((c : Cursor) → Ok c ≡ p → f c ≡ g c) → goes_on p f ≡ goes_on p g
goes_alike (Ok c) h = h c refl
goes_alike (Err why) h = refl

module _ (file : List ℕ) where
  -- With no byte left the end record is missing.
  no_end : (here : Cursor) → left file here.at ≤ 0 → Err (refused reason.CutShort here.at) ≡ end_passed file here
  unfolding end_passed
  no_end here h = rw (← no_opening file here.at (record_of records.names_end) (omega arith))

  none_left : (before : List Bytes) (here : Cursor) (go : List Bytes → Cursor → Listing) → left file here.at ≤ 0
      → refusal (refused reason.CutShort here.at) ≡ record_listed file before here go
  none_left before here go h = rw (← finds_none file here.at records.name (omega arith), ← no_end here h)

  -- After a name fewer bytes are left.
  listed_alike : (before : List Bytes) (here : Cursor) {go go' : List Bytes → Cursor → Listing}
      → ((before' : List Bytes) (c : Cursor) → left file c.at < left file here.at → go before' c ≡ go' before' c)
      → record_listed file before here go ≡ record_listed file before here go'
  listed_alike before here {go} {go'} h =
      let with_it = before ++ name_at file here.at ∷ [] in
      ap (λ (l : Listing). cond (finds file here.at records.name) l (ended before (end_passed file here)))
      (goes_alike (name_passed file before here) {f = go with_it} {g = go' with_it} (λ c e.
      let p = passing file before here e in
      h with_it c (omega (arith, p.stands))))

  enough : (t u : ℕ) (before : List Bytes) (here : Cursor) → left file here.at ≤ t → left file here.at ≤ u
      → listed_in t file before here ≡ listed_in u file before here
  unfolding listed_in
  enough zero zero before here h k = refl
  enough zero (suc u) before here h k = none_left before here (listed_in u file) h
  enough (suc t) zero before here h k = sym (none_left before here (listed_in t file) k)
  enough (suc t) (suc u) before here h k = listed_alike before here (λ before' c l. enough t u before' c (omega arith) (omega arith))

  pub listed_step : (before : List Bytes) (here : Cursor) → listed_from file before here ≡ record_listed file before here (listed_from file)
  unfolding listed_in
  listed_step before here =
      let l = left file here.at in
      enough l (suc l) before here (omega arith) (omega arith)
      ∙ listed_alike before here (λ before' c h. enough l (left file c.at) before' c (omega arith) (omega arith))
