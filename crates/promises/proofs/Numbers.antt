-- Document 01's numbers: "success returns 0", and only success does (`check_succeeds` and so on): every refusal has a number above 0.
use mathlib.Core.Path.{◌≡◌, refl}
use mathlib.Core.Bool.{◌&&◌}
use mathlib.Core.List.{List}
use mathlib.Core.Logic.{◌↔◌}
use Prim.Native.Nat.{ℕ, ◌<◌}
use native.Mathlib.Omega.{arith}
use lib.Dec.{ltb, eqb, lit<}
use lib.IntN.{ℤ}
use lib.ListN.{length}
use Rattle.record.proofs.Steps.{either_way}
use Rattle.matrix.specs.Check as check
use Rattle.matrix.proofs.Places.{refusal_small}
use Rattle.answer.specs.declared.Answer.{Answer}
use Rattle.answer.specs.Content.{Content, content_in, length_of, answer_of}
use Rattle.answer.specs.Reading as reading
use Rattle.answer.specs.Writing as writing
use Rattle.answer.proofs.Numbers.{Numbered, file_numbered, read_numbered, write_numbered}
use Rattle.method.specs.Tree.{one_entries}
use Rattle.split.specs.Columns.{matrix_in}
use Rattle.split.specs.Operation as split
use Rattle.tree.specs.Build as build
use Rattle.score.specs.Operation as score
use Rattle.std.specs.Prelude.{Result, Ok, Err}
use Rattle.record.specs.declared.refusal.Refusal.{Refusal}
use Rattle.record.specs.Records.{Passed}
use Rattle.matrix.specs.Check.{shape}
use Rattle.record.specs.Refusals.{refusal_number}
use Rattle.matrix.specs.declared.Shape.{Shape}
use Rattle.search.specs.declared.Split.{Split}
use Rattle.tree.specs.declared.Built.{Built}
use Rattle.score.specs.declared.Sums.{Sums}

-- ---- every refusal has a number above 0

-- Of the build's answers.
abbrev BuildNumbered : Result Built Refusal → Type 0
BuildNumbered (Ok it) = Unit {0}
BuildNumbered (Err why) = 0 < refusal_number why.reason

build_numbered : (file : List ℕ) (space room : ℕ) → BuildNumbered (build.built file space room)
unfolding build.built build.answered
build_numbered file space room = go (check.checked file) refl
  where
    go : (k : Result Shape Refusal) → k ≡ check.checked file → BuildNumbered (build.answered k file space room)
    go (Err why) e = (refusal_small file e).1
    go (Ok it) e =
        either_way BuildNumbered (ltb space (one_entries (matrix_in file))) (lit< tt) (either_way BuildNumbered (ltb room (build.room_for it.n it.m)) (lit< tt) tt)

-- Of the split's.
abbrev SplitNumbered : Result Split Refusal → Type 0
SplitNumbered (Ok it) = Unit {0}
SplitNumbered (Err why) = 0 < refusal_number why.reason

split_numbered : (file : List ℕ) (S room : ℕ) → SplitNumbered (split.divided file S room)
unfolding split.divided split.answered split.split_of
split_numbered file S room = go (check.checked file) refl
  where
    go : (k : Result Shape Refusal) → k ≡ check.checked file → SplitNumbered (split.answered k file S room)
    go (Err why) e = (refusal_small file e).1
    go (Ok it) e = either_way SplitNumbered (split.no_group it.n S) (lit< tt) (either_way SplitNumbered (ltb room (one_entries (matrix_in file))) (lit< tt) tt)

-- Of the score's.
abbrev ScoreNumbered : Result Sums Refusal → Type 0
ScoreNumbered (Ok it) = Unit {0}
ScoreNumbered (Err why) = 0 < refusal_number why.reason

score_numbered : (matrix answer : List ℕ) → ScoreNumbered (score.scored matrix answer)
unfolding score.scored score.agreed
score_numbered matrix answer = go (check.checked matrix) refl
  where
    read : (n m : ℕ) (p : Passed) → Numbered p → ScoreNumbered (score.after_answer matrix answer n m p)
    read n m (Ok here) a = either_way ScoreNumbered (eqb (content_in answer).n n && eqb (content_in answer).m m) tt (lit< tt)
    read n m (Err why) a = a.above refl

    go : (k : Result Shape Refusal) → k ≡ check.checked matrix → ScoreNumbered (score.after_matrix matrix answer k)
    go (Err why) e = (refusal_small matrix e).1
    go (Ok it) e = read it.n it.m (reading.file_tests answer) (file_numbered answer)

-- ---- 0 is returned exactly on success

pub check_succeeds : {file : List ℕ} {r : Result Shape Refusal} → check.Checks file r → (check.returned r).number ≡ 0 ↔ ((n : ℕ) × (m : ℕ) × (r ≡ Ok (shape n m)))
check_succeeds {r = Ok it} x = (λ z. (it.n, it.m, refl), λ t. refl)
check_succeeds {file} {r = Err why} x = (λ z. absurd (omega (arith, z, (refusal_small file x.answers).1)), λ (n, m, t). absurd (let z : ◌≡◌ {A = ℕ} 0 1 = cc in omega arith))

pub build_succeeds : {file out : List ℕ} {ws : List ℤ} {r : Result Built Refusal} {ws' : List ℤ} {out' : List ℕ} → build.Builds file ws out r ws' out'
    → (build.returned r).number ≡ 0 ↔ ((size : ℕ) × (sum : ℕ) × (r ≡ Ok (record { size = size; total = sum })))
build_succeeds {r = Ok it} x = (λ z. (it.size, it.total, refl), λ t. refl)
build_succeeds {file} {out} {ws} {r = Err why} x =
    let some : 0 < refusal_number why.reason = rw (← x.answers) at (build_numbered file (length ws) (length out)) in
    (λ z. absurd (omega (arith, z, some)), λ (size, sum, t). absurd (let z : ◌≡◌ {A = ℕ} 0 1 = cc in omega arith))

pub split_succeeds : {file : List ℕ} {S : ℕ} {ws : List ℤ} {r : Result Split Refusal} {ws' : List ℤ} → split.Splits file S ws r ws'
    → (split.returned r).number ≡ 0 ↔ ((cost : ℕ) × (A : ℕ) × (t : ℕ) × (r ≡ Ok (record { cost = cost; side = A; other = t })))
split_succeeds {r = Ok it} x = (λ z. (it.cost, it.side, it.other, refl), λ q. refl)
split_succeeds {file} {S} {ws} {r = Err why} x =
    let some : 0 < refusal_number why.reason = rw (← x.answers) at (split_numbered file S (length ws)) in
    (λ z. absurd (omega (arith, z, some)), λ (cost, A, t, q). absurd (let z : ◌≡◌ {A = ℕ} 0 1 = cc in omega arith))

pub score_succeeds : {matrix answer : List ℕ} {r : Result Sums Refusal} → score.Scores matrix answer r
    → (score.returned r).number ≡ 0 ↔ ((raises : ℕ) × (lowers : ℕ) × (r ≡ Ok (record { raises = record { 0 = raises }; lowers = record { 0 = lowers } })))
score_succeeds {r = Ok it} x = (λ z. (it.raises.0, it.lowers.0, refl), λ t. refl)
score_succeeds {matrix} {answer} {r = Err why} x =
    let some : 0 < refusal_number why.reason = rw (← x.answers) at (score_numbered matrix answer) in
    (λ z. absurd (omega (arith, z, some)), λ (up, down, t). absurd (let z : ◌≡◌ {A = ℕ} 0 1 = cc in omega arith))

-- Reading, into three lists or into a list of entries.
pub reading_succeeds : (file : List ℕ) (room : ℕ) {r : Result Answer Refusal} → r ≡ reading.reading file room
    → (reading.returned r).number ≡ 0 ↔ ((a : Answer) × (r ≡ Ok a))
unfolding reading.reading
reading_succeeds file room e = rw e (go (reading.read_tests file room) (read_numbered file room))
  where
    go : (p : Passed) → Numbered p
        → (reading.returned (reading.answered (content_in file) p)).number ≡ 0 ↔ ((a : Answer) × (reading.answered (content_in file) p ≡ Ok a))
    go (Ok here) a = (λ z. (answer_of (content_in file), refl), λ t. refl)
    go (Err why) a = (λ z. absurd (omega (arith, z, a.above refl)), λ (v, t). absurd (let z : ◌≡◌ {A = ℕ} 0 1 = cc in omega arith))

pub read_succeeds : {file cs us ds : List ℕ} {r : Result Answer Refusal} {cs' us' ds' : List ℕ} → reading.Reads file cs us ds r cs' us' ds'
    → (reading.returned r).number ≡ 0 ↔ ((a : Answer) × (r ≡ Ok a))
read_succeeds {file} {cs} {us} {ds} x = reading_succeeds file (reading.listed cs us ds) x.answers

-- Writing, from either.
pub writing_succeeds : {c : Content} {entries : ℕ} {out : List ℕ} {r : Result ℕ Refusal} {out' : List ℕ} → writing.Writes c entries out r out'
    → (writing.returned r).number ≡ 0 ↔ ((size : ℕ) × (r ≡ Ok size))
unfolding writing.writing
writing_succeeds {r = Ok size} x = (λ z. (size, refl), λ t. refl)
writing_succeeds {c} {entries} {out} {r = Err why} x =
    (λ z. absurd (omega (arith, z, go (writing.write_tests c entries (length out)) (write_numbered c entries (length out)) x.answers)), λ (size, t). absurd (let z : ◌≡◌ {A = ℕ} 0 1 = cc in omega arith))
  where
    go : (p : Passed) → Numbered p → Err why ≡ writing.ended (length_of c) p → 0 < refusal_number why.reason
    go (Ok here) a e = absurd (let z : ◌≡◌ {A = ℕ} 0 1 = cc in omega arith)
    go (Err other) a e = let same : refusal_number why.reason ≡ refusal_number other.reason = cc in omega (arith, a.above refl)
