-- Demand 1, from the number that is returned: "a refusal returns its number and place, 0 for every other number, and changes no lent memory".
use mathlib.Core.Path.{◌≡◌, refl}
use mathlib.Core.List.{List}
use mathlib.Core.Logic.{◌≢◌}
use Prim.Native.Nat.{ℕ}
use lib.IntN.{ℤ}
use Rattle.matrix.specs.Check as check
use Rattle.record.specs.declared.refusal.Refusal.{Refusal}
use Rattle.answer.specs.declared.Answer.{Answer}
use Rattle.answer.specs.Content.{Content, answer_of}
use Rattle.answer.specs.Reading as reading
use Rattle.answer.specs.Writing as writing
use Rattle.split.specs.Operation as split
use Rattle.tree.specs.Build as build
use Rattle.score.specs.Operation as score
use Rattle.std.specs.Prelude.{Result, Ok, Err}
use Rattle.matrix.specs.Check.{shape}
use Rattle.matrix.specs.declared.Shape.{Shape}
use Rattle.search.specs.declared.Split.{Split}
use Rattle.tree.specs.declared.Built.{Built}
use Rattle.score.specs.declared.Sums.{Sums}

pub refused_check : {file : List ℕ} {r : Result Shape Refusal} → check.Checks file r → (check.returned r).number ≢ 0 → ((check.returned r).n ≡ 0) × ((check.returned r).m ≡ 0)
refused_check {r = Ok it} x some = absurd (some refl)
refused_check {r = Err why} x some = (refl, refl)

pub refused_build : {file out : List ℕ} {ws : List ℤ} {r : Result Built Refusal} {ws' : List ℤ} {out' : List ℕ} → build.Builds file ws out r ws' out' → (build.returned r).number ≢ 0
    → ((build.returned r).size ≡ 0) × ((build.returned r).sum ≡ 0) × (ws' ≡ ws) × (out' ≡ out)
unfolding build.output_after build.workspace_after
refused_build {r = Ok it} x some = absurd (some refl)
refused_build {r = Err why} x some = (refl, refl, x.workspace, x.output)

pub refused_split : {file : List ℕ} {S : ℕ} {ws : List ℤ} {r : Result Split Refusal} {ws' : List ℤ} → split.Splits file S ws r ws' → (split.returned r).number ≢ 0
    → ((split.returned r).cost ≡ 0) × ((split.returned r).side ≡ 0) × ((split.returned r).t ≡ 0) × (ws' ≡ ws)
unfolding split.workspace_after
refused_split {r = Ok it} x some = absurd (some refl)
refused_split {r = Err why} x some = (refl, refl, refl, x.workspace)

pub refused_score : {matrix answer : List ℕ} {r : Result Sums Refusal} → score.Scores matrix answer r → (score.returned r).number ≢ 0 → ((score.returned r).raises ≡ 0) × ((score.returned r).lowers ≡ 0)
refused_score {r = Ok it} x some = absurd (some refl)
refused_score {r = Err why} x some = (refl, refl)

-- Reading: the value told is the empty one, 0 in each of its numbers and places.
pub refused_read : {file cs us ds : List ℕ} {r : Result Answer Refusal} {cs' us' ds' : List ℕ} → reading.Reads file cs us ds r cs' us' ds' → (reading.returned r).number ≢ 0
    → ((reading.returned r).answer ≡ answer_of reading.empty) × (cs' ≡ cs) × (us' ≡ us) × (ds' ≡ ds)
refused_read {r = Ok a} x some = absurd (some refl)
refused_read {r = Err why} x some = (refl, x.columns_after, x.raised_after, x.lowered_after)

pub refused_write : {c : Content} {entries : ℕ} {out : List ℕ} {r : Result ℕ Refusal} {out' : List ℕ} → writing.Writes c entries out r out' → (writing.returned r).number ≢ 0
    → ((writing.returned r).size ≡ 0) × (out' ≡ out)
refused_write {r = Ok size} x some = absurd (some refl)
refused_write {r = Err why} x some = (refl, x.out_after)
