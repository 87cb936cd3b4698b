-- An answer that fits its bits comes back out of them: what is taken out of a packed refusal, and of a packed answer of each operation.
use mathlib.Core.Path.{◌≡◌, refl, ◌∙◌, ap}
use mathlib.Core.List.{List, [], ◌∷◌}
use Prim.Native.Nat.{ℕ, ◌+◌, ◌*◌, ◌^◌, ◌<◌, min}
use native.Mathlib.Omega.{arith}
use lib.ListN.{length, get_or, set}
use borrow.Author.Tests.{eq-eqb, ne_eqb}
use Rattle.record.specs.declared.Cursor.{Cursor}
use Rattle.record.specs.declared.refusal.Refusal.{Refusal}
use Rattle.matrix.specs.Check as check
use Rattle.answer.specs.Content.{Content, padded, answer_of}
use Rattle.answer.specs.Reading as reading
use Rattle.answer.specs.Reading.{empty, answered}
use Rattle.answer.specs.Writing as writing
use Rattle.split.specs.Operation as split
use Rattle.tree.specs.Build as build
use Rattle.score.specs.Operation as score
use Rattle.names.specs.Check as names
use Rattle.newick.specs.Read as newick
use Rattle.spelling.specs.Write as spelling
use Rattle.flipcut.specs.Packed.{packed, packed_build, packed_read, packed_refusal, packed_score, packed_split, packed_write, result_after, value_after}
use Rattle.flipcut.specs.Packed.{packed_names, packed_text, packed_trees, last_place, told}
use Rattle.flipcut.specs.Unpacked.{bits, number_in, place_in, result_in, lent_result, value_in}
use Rattle.flipcut.specs.Unpacked.{unpacked, unpacked_build, unpacked_read, unpacked_score, unpacked_split, unpacked_write}
use Rattle.flipcut.specs.Unpacked.{unpacked_names, unpacked_text, unpacked_trees}
use Rattle.flipcut.proofs.Values.{value_put}
use Rattle.flipcut.proofs.Fitting.{NamesFit}
use Rattle.flipcut.specs.inner.Fitting.{RefusalFits, CheckFits, BuildFits, SplitFits, ReadFits, WriteFits, ScoreFits, TreesFit, TextFits}
use Rattle.std.specs.Prelude.{Result, Ok, Err}
use Rattle.record.specs.Records.{Passed}
use Rattle.record.specs.Refusals.{refusal_number}
use Rattle.matrix.specs.declared.Shape.{Shape}
use Rattle.search.specs.declared.Split.{Split}
use Rattle.tree.specs.declared.Built.{Built}
use Rattle.score.specs.declared.Sums.{Sums}
use Rattle.newick.specs.declared.Derived.{Derived}

-- A refusal that fits.
module _ (why : Refusal) (fits : RefusalFits why) where
  abbrev v : ℕ
  v = packed_refusal why

  flag : bits v 63 1 ≡ 1
  flag = omega arith

  number : number_in v ≡ refusal_number why.reason
  unfolding number_in
  number = rw (eq-eqb _ _ flag) (omega arith)

  place : place_in v ≡ why.place
  unfolding place_in
  place = rw (eq-eqb _ _ flag) (omega arith)

  no_result : (low width : ℕ) → result_in v low width ≡ 0
  unfolding result_in
  no_result low width = rw (eq-eqb _ _ flag) refl

  none_lent : {X : Type 0} (none lent : X) → lent_result v none lent ≡ none
  unfolding lent_result
  none_lent none lent = rw (eq-eqb _ _ flag) refl

-- A number below bit 63.
module _ (v : ℕ) (low : v < 2 ^ 63) where
  clear : bits v 63 1 ≡ 0
  clear = omega arith

  no_number : number_in v ≡ 0
  unfolding number_in
  no_number = rw (ne_eqb (bits v 63 1) 1 (omega (arith, clear))) refl

  no_place : place_in v ≡ 0
  unfolding place_in
  no_place = rw (ne_eqb (bits v 63 1) 1 (omega (arith, clear))) refl

  result : (from width : ℕ) → result_in v from width ≡ bits v from width
  unfolding result_in
  result from width = rw (ne_eqb (bits v 63 1) 1 (omega (arith, clear))) refl

  lent_result_lem : {X : Type 0} (none lent : X) → lent_result v none lent ≡ lent
  unfolding lent_result
  lent_result_lem none lent = rw (ne_eqb (bits v 63 1) 1 (omega (arith, clear))) refl

-- ---- each operation's answer

pub check_returns : (a : Result Shape Refusal) → CheckFits a → unpacked (packed a) ≡ check.returned a
check_returns (Ok it) (l, k) =
    let v = it.n + 65536 * it.m in
    let low : v < 2 ^ 63 = omega arith in
    let first : bits v 0 16 ≡ it.n = omega arith in
    let second : bits v 16 16 ≡ it.m = omega arith in
    λ i. record { number = no_number v low i; place = no_place v low i; n = (result v low 0 16 ∙ first) i; m = (result v low 16 16 ∙ second) i }
check_returns (Err why) fits =
    λ i. record { number = number why fits i; place = place why fits i; n = no_result why fits 0 16 i; m = no_result why fits 16 16 i }

pub build_returns : (a : Result Built Refusal) → BuildFits a → unpacked_build (packed_build a) ≡ build.returned a
build_returns (Ok it) (l, k) =
    let v = it.total + 2 ^ 32 * it.size in
    let low : v < 2 ^ 63 = omega arith in
    let first : bits v 32 31 ≡ it.size = omega arith in
    let second : bits v 0 32 ≡ it.total = omega arith in
    λ i. record { number = no_number v low i; place = no_place v low i; size = (result v low 32 31 ∙ first) i; sum = (result v low 0 32 ∙ second) i }
build_returns (Err why) fits =
    λ i. record { number = number why fits i; place = place why fits i; size = no_result why fits 32 31 i; sum = no_result why fits 0 32 i }

-- Three numbers, each set.
all_set : (xs : List ℕ) → length xs ≡ 3 → (a b c : ℕ) → set (set (set xs 0 a) 1 b) 2 c ≡ a ∷ b ∷ c ∷ []
all_set [] e a b c = absurd (omega arith)
all_set (x ∷ []) e a b c = absurd (omega arith)
all_set (x ∷ y ∷ []) e a b c = absurd (omega arith)
all_set (x ∷ y ∷ z ∷ []) e a b c = refl
all_set (x ∷ y ∷ z ∷ w ∷ ws) e a b c = absurd (omega arith)

pub split_returns : (a : Result Split Refusal) → SplitFits a → (before : List ℕ) → length before ≡ 3
    → unpacked_split (packed_split a) (result_after a before) ≡ split.returned a
split_returns (Ok it) fits before three =
    let low : ◌<◌ 0 (2 ^ 63) = omega arith in
    let lent : (k : ℕ) → lent_result 0 0 (get_or (result_after (Ok it) before) k 0) ≡ get_or (it.cost ∷ it.side ∷ it.other ∷ []) k 0
    = λ k. lent_result_lem 0 low 0 _ ∙ ap (λ (xs : List ℕ). get_or xs k 0) (all_set before three it.cost it.side it.other) in
    λ i. record { number = no_number 0 low i; place = no_place 0 low i; cost = lent 0 i; side = lent 1 i; t = lent 2 i }
split_returns (Err why) fits before three =
    let none : (k : ℕ) → lent_result (packed_refusal why) 0 (get_or before k 0) ≡ 0 = λ k. none_lent why fits 0 (get_or before k 0) in
    λ i. record { number = number why fits i; place = place why fits i; cost = none 0 i; side = none 1 i; t = none 2 i }

-- Of a refused reading the value is that of an empty content.
pub read_returns : (c : Content) (p : Passed) (before : List ℕ) → length before ≡ 131 → let r = answered c p in
    ((here : Cursor) → Ok here ≡ p → (length (padded c.taxa) ≡ 63) × (length (padded c.costs) ≡ 63)) → ReadFits r
    → unpacked_read (packed_read r) (value_after r before) ≡ reading.returned r
read_returns c (Ok here) before long full fits =
    let low : ◌<◌ 0 (2 ^ 63) = omega arith in
    let (taxa, costs) = full here refl in
    let value = lent_result_lem 0 low (answer_of empty) (value_in (value_after (Ok (answer_of c)) before)) ∙ value_put (answer_of c) before long taxa costs in
    λ i. record { number = no_number 0 low i; place = no_place 0 low i; answer = value i }
read_returns c (Err why) before long full fits =
    λ i. record { number = number why fits i; place = place why fits i; answer = none_lent why fits (answer_of empty) (value_in before) i }

pub write_returns : (a : Result ℕ Refusal) → WriteFits a → unpacked_write (packed_write a) ≡ writing.returned a
write_returns (Ok size) fits =
    let v = 2 ^ 32 * size in
    let low : v < 2 ^ 63 = omega arith in
    let first : bits v 32 31 ≡ size = omega arith in
    λ i. record { number = no_number v low i; place = no_place v low i; size = (result v low 32 31 ∙ first) i }
write_returns (Err why) fits = λ i. record { number = number why fits i; place = place why fits i; size = no_result why fits 32 31 i }

pub score_returns : (a : Result Sums Refusal) → ScoreFits a → unpacked_score (packed_score a) ≡ score.returned a
score_returns (Ok it) (l, k) =
    let v = it.lowers.0 + 2 ^ 31 * it.raises.0 in
    let low : v < 2 ^ 63 = omega arith in
    let first : bits v 31 31 ≡ it.raises.0 = omega arith in
    let second : bits v 0 31 ≡ it.lowers.0 = omega arith in
    λ i. record { number = no_number v low i; place = no_place v low i; raises = (result v low 31 31 ∙ first) i; lowers = (result v low 0 31 ∙ second) i }
score_returns (Err why) fits =
    λ i. record { number = number why fits i; place = place why fits i; raises = no_result why fits 31 31 i; lowers = no_result why fits 0 31 i }

-- ---- the answers whose refusals are told

as_it_is : {place : ℕ} → place < 2 ^ 55 → min place last_place ≡ place
as_it_is near = omega arith

pub names_returns : (a : Result ℕ Refusal) → NamesFit a → (names.returned a).place < 2 ^ 55 → unpacked_names (packed_names a) ≡ names.returned a
names_returns (Ok k) low near =
    let first : bits k 0 63 ≡ k = omega arith in
    λ i. record { number = no_number k low i; place = no_place k low i; count = (result k low 0 63 ∙ first) i }
names_returns (Err why) fits near =
    let w = told why in
    λ i. record { number = number w fits i; place = (place w fits ∙ as_it_is near) i; count = no_result w fits 0 63 i }

pub trees_returns : (a : Result Derived Refusal) → TreesFit a → (newick.returned a).place < 2 ^ 55 → unpacked_trees (packed_trees a) ≡ newick.returned a
trees_returns (Ok it) (l, k) near =
    let v = it.names + 2 ^ 32 * it.matrix in
    let low : v < 2 ^ 63 = omega arith in
    let first : bits v 32 31 ≡ it.matrix = omega arith in
    let second : bits v 0 32 ≡ it.names = omega arith in
    λ i. record { number = no_number v low i; place = no_place v low i; matrix = (result v low 32 31 ∙ first) i; names = (result v low 0 32 ∙ second) i }
trees_returns (Err why) fits near =
    let w = told why in
    λ i. record { number = number w fits i; place = (place w fits ∙ as_it_is near) i; matrix = no_result w fits 32 31 i; names = no_result w fits 0 32 i }

pub text_returns : (a : Result ℕ Refusal) → TextFits a → (spelling.returned a).place < 2 ^ 55 → unpacked_text (packed_text a) ≡ spelling.returned a
text_returns (Ok size) fits near =
    let v = 2 ^ 32 * size in
    let low : v < 2 ^ 63 = omega arith in
    let first : bits v 32 31 ≡ size = omega arith in
    λ i. record { number = no_number v low i; place = no_place v low i; size = (result v low 32 31 ∙ first) i }
text_returns (Err why) fits near =
    let w = told why in
    λ i. record { number = number w fits i; place = (place w fits ∙ as_it_is near) i; size = no_result w fits 32 31 i }

-- The number, wherever the place is.
pub trees_number : (a : Result Derived Refusal) → TreesFit a → number_in (packed_trees a) ≡ (newick.returned a).number
trees_number (Ok it) (l, k) = no_number (it.names + 2 ^ 32 * it.matrix) (omega arith)
trees_number (Err why) fits = number (told why) fits

pub text_number : (a : Result ℕ Refusal) → TextFits a → number_in (packed_text a) ≡ (spelling.returned a).number
text_number (Ok size) fits = no_number (2 ^ 32 * size) (omega arith)
text_number (Err why) fits = number (told why) fits
