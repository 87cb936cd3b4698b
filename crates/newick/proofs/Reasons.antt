-- The five reasons for which a text is refused, and their numbers: each says which the other is (`number_there`, `reason_there`).
use mathlib.Core.Path.{◌≡◌, refl}
use mathlib.Core.Logic.{by_cases}
use Prim.Native.Nat.{ℕ, ◌≤◌}
use native.Mathlib.Decide.{dec_lt}
use native.Mathlib.Omega.{arith}
use Rattle.record.specs.declared.refusal.Reason.{Reason}
use Rattle.record.specs.declared.refusal.Reason.TheVariants.{CutShort, Unexpected, TaxonCount, ColumnCount, Weightless, UnknownTaxon, BothSets, Trailing, Workspace, Room, GroupToSplit, Groups, Flips, Total, Differ, Misfit, LongName, Repeated, TooMany, TooDeep, Multiplicities, OtherTree}
use Rattle.record.specs.Refusals.{refusal_number}
use Rattle.newick.specs.Read.{reason_of}

-- A number from 16 to 20 is that of its reason.
pub number_there : (n : ℕ) → 16 ≤ n → n ≤ 20 → refusal_number (reason_of n) ≡ n
unfolding reason_of
number_there n least most =
    by_cases (dec_lt n 17) (λ l. let e : n ≡ 16 = omega arith in rw e) (λ a.
    by_cases (dec_lt n 18) (λ l. let e : n ≡ 17 = omega arith in rw e) (λ b.
    by_cases (dec_lt n 19) (λ l. let e : n ≡ 18 = omega arith in rw e) (λ c.
    by_cases (dec_lt n 20) (λ l. let e : n ≡ 19 = omega arith in rw e) (λ d. let e : n ≡ 20 = omega arith in rw e))))

-- A reason whose number is from 16 to 20 is that of its number.
pub reason_there : (r : Reason) → 16 ≤ refusal_number r → refusal_number r ≤ 20 → reason_of (refusal_number r) ≡ r
unfolding reason_of
reason_there CutShort least most = absurd (omega arith)
reason_there Unexpected least most = absurd (omega arith)
reason_there TaxonCount least most = absurd (omega arith)
reason_there ColumnCount least most = absurd (omega arith)
reason_there Weightless least most = absurd (omega arith)
reason_there UnknownTaxon least most = absurd (omega arith)
reason_there BothSets least most = absurd (omega arith)
reason_there Trailing least most = absurd (omega arith)
reason_there Workspace least most = absurd (omega arith)
reason_there Room least most = absurd (omega arith)
reason_there GroupToSplit least most = absurd (omega arith)
reason_there Groups least most = absurd (omega arith)
reason_there Flips least most = absurd (omega arith)
reason_there Total least most = absurd (omega arith)
reason_there Differ least most = absurd (omega arith)
reason_there Misfit least most = refl
reason_there LongName least most = refl
reason_there Repeated least most = refl
reason_there TooMany least most = refl
reason_there TooDeep least most = refl
reason_there Multiplicities least most = absurd (omega arith)
reason_there OtherTree least most = absurd (omega arith)
