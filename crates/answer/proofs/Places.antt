-- An answer file is refused at places in the largest answer file or right after it, by the numbers 1 to 15 (`answer_by`); so are reading and writing
-- (`reading_small`, `writing_small`), and what is written is no longer than that file (`writing_size`).
use mathlib.Core.Path.{◌≡◌, refl}
use mathlib.Core.Bool.{Bool, true, false, ◌||◌, ◌&&◌, cond}
use mathlib.Core.List.{List, []}
use Prim.Native.Nat.{ℕ, zero, suc, ◌+◌, ◌*◌, ◌≤◌, ◌<◌}
use native.Mathlib.Omega.{arith}
use lib.Dec.{ltb, eqb, lit<, lit≤}
use lib.ListN.{get_or}
use Rattle.taxa.specs.Sets.{within, count, all}
use Rattle.record.specs.Records as records
use Rattle.record.specs.Records.{payload, left, onward, nothing_after, Passed}
use Rattle.record.specs.declared.Cursor.{Cursor}
use Rattle.record.specs.declared.refusal.Reason.{Reason}
use Rattle.record.specs.declared.refusal.Reason.TheVariants as reason
use Rattle.record.specs.declared.refusal.Refusal.{Refusal}
use Rattle.record.proofs.Passing.{through}
use Rattle.record.proofs.Steps.{either_way}
use Rattle.record.proofs.Places.{By, by_record}
use Rattle.answer.specs.Content.{Content, content_in, length_of, flip_count}
use Rattle.answer.specs.Rules.{head_fault, counted, group_fault, placed, compatible_all, entry_fault, kept, sum_of}
use Rattle.answer.specs.Tests.{judge, Meet, in_file, as_given, walk, start, head_test, group_test, entry_test, end_test, tests}
use Rattle.answer.specs.Reading.{file_tests, read_tests, answered, reading}
use Rattle.answer.specs.Writing.{write_tests, ended, writing}
use Rattle.answer.proofs.Kept.{HeadKept}
use Rattle.answer.proofs.Walks.{head_met, given_head}
use Rattle.answer.proofs.Stages.{head_of, groups_of, flips_of}
use Rattle.answer.proofs.Outcomes.{given_head_kept}
use Rattle.answer.proofs.RoundTrip.{wrote}
use Rattle.std.specs.Prelude.{Option, Some, None, Ok, Err}
use Rattle.record.specs.Refusals.{refusal_number}

-- The largest answer file has 20 + 16 · 63 + 22 · 256 bytes.
abbrev pub largest : ℕ
largest = 6660

-- The numbers of refusals: 0 is left for success.
abbrev pub Few : ℕ → Type 0
Few number = (0 < number) × (number ≤ 15)

-- ---- faults: a reason of such a number, or none

abbrev Fault : Option Reason → Type 0
Fault None = Unit {0}
Fault (Some why) = Few (refusal_number why)

head_few : (n m groups flips listed : ℕ) → Fault (head_fault n m groups flips listed)
unfolding head_fault
head_few n m groups flips listed =
    either_way Fault (eqb n 0 || ltb 64 n) (lit< tt, lit≤ tt)
    (either_way Fault (ltb 256 m) (lit< tt, lit≤ tt)
    (either_way Fault (counted n groups) (either_way Fault (ltb m flips || ltb listed flips) (lit< tt, lit≤ tt) tt) (lit< tt, lit≤ tt)))

group_few : (n : ℕ) (taxa : List ℕ) (i : ℕ) → Fault (group_fault n taxa i)
unfolding group_fault
group_few n taxa i =
    let x = get_or taxa i 0 in
    either_way Fault (within x (all n)) (either_way Fault (ltb 1 (count 64 x) && (placed n taxa i && compatible_all taxa x i)) tt (lit< tt, lit≤ tt)) (lit< tt, lit≤ tt)

entry_few : (n m floor column raised lowered : ℕ) → Fault (entry_fault n m floor column raised lowered)
unfolding entry_fault
entry_few n m floor column raised lowered =
    either_way Fault (within raised (all n) && within lowered (all n)) (either_way Fault (kept m floor column raised lowered) tt (lit< tt, lit≤ tt)) (lit< tt, lit≤ tt)

judge_by : (far : ℕ) (fault : Option Reason) (place : ℕ) (next : Cursor) → Fault fault → place ≤ far → next.at ≤ far → By Few far (judge fault place next)
unfolding judge
judge_by far None place next few l near = near
judge_by far (Some why) place next few l near = (l, few)

-- ---- records

-- However a record is met, judging it at its place ends by its own end, and a head that passes keeps its rules.
record Near (meet : Meet) : Type 0 where
  by : (kind far : ℕ) (fault : Option Reason) (here : Cursor) → Fault fault → here.at + (4 + payload kind) ≤ far → By Few far (meet kind here (judge fault here.at))
  keeps : (n m groups flips listed : ℕ) {next : Cursor} → Ok next ≡ head_test meet n m groups flips listed → HeadKept n m groups flips listed

file_near : (file : List ℕ) → Near (in_file file)
file_near file =
    record {
      by = λ kind far fault here few l.
          by_record Few (λ k some two. (some, omega arith)) here.at far _ (omega arith) file kind (λ b c e.
          judge_by far fault here.at c few (omega arith) (omega arith));
      keeps = λ n m groups flips listed e. (head_met file n m groups flips listed e).0;
    }

given_near : Near as_given
given_near =
    record {
      by = λ kind far fault here few l. judge_by far fault here.at _ few (omega arith) (omega arith);
      keeps = λ n m groups flips listed e. (given_head n m groups flips listed e).0;
    }

-- A reading that ends by `near`, and then another.
by_then : (near far : ℕ) → near ≤ far → (p : Passed) (go : Cursor → Passed) → By Few near p → ((c : Cursor) → Ok c ≡ p → c.at ≤ near → By Few far (go c))
    → By Few far (onward p go)
by_then near far l (Ok c) go b h = h c refl b
by_then near far l (Err why) go b h = (omega arith, b.1)

-- A walk over records of w bytes each ends by w for each.
walk_by : (one : ℕ → Cursor → Passed) (w : ℕ) → ((i far : ℕ) (here : Cursor) → here.at + w ≤ far → By Few far (one i here)) → (k : ℕ) (from : Cursor)
    → By Few (from.at + w * k) (walk one k from)
unfolding walk
walk_by one w h zero from = omega arith
walk_by one w h (suc k) from =
    let far = from.at + w * suc k in
    by_then (from.at + w * k) far (omega arith) (walk one k from) (one k) (walk_by one w h k from) (λ c e near. h k far c (omega arith))

tests_by : {meet : Meet} → Near meet → (c : Content) (listed : ℕ) → By Few largest (tests meet c listed)
unfolding tests head_test group_test entry_test end_test
tests_by {meet} near c listed =
    by_then 16 largest (lit≤ tt) (head_of meet c listed) _ (near.by records.answer_head 16 _ start (head_few _ _ _ _ _) (lit≤ tt)) (λ first e at.
    let kept = near.keeps c.n c.m c.groups c.flips listed e in
    by_then (first.at + 16 * c.groups) largest (omega arith) (groups_of meet c listed first) _
    (walk_by _ 16 (λ i far here. near.by records.group far _ here (group_few _ _ i)) c.groups first) (λ flips e at₂.
    by_then (flips.at + 22 * c.flips) largest (omega arith) (flips_of meet c listed flips) _
    (walk_by _ 22 (λ j far here. near.by records.flips far _ here (entry_few _ _ _ _ _ _)) c.flips flips) (λ end e at₃.
    near.by records.answer_end largest _ end (either_way Fault (eqb c.total (sum_of c.costs c.groups)) tt (lit< tt, lit≤ tt)) (omega arith))))

-- ---- the operations

pub answer_by : (file : List ℕ) → By Few largest (file_tests file)
unfolding file_tests nothing_after
answer_by file =
    by_then largest largest (omega arith) (tests (in_file file) (content_in file) (flip_count file)) _ (tests_by (file_near file) _ _) (λ c e near.
    either_way (By Few largest) (ltb 0 (left file c.at)) (near, (lit< tt, lit≤ tt)) near)

-- The last test, of a list or an output that may be too short.
room_by : (short : Bool) (p : Passed) → By Few largest p → By Few largest (onward p (judge (cond short (Some reason.Room) None) 0))
unfolding judge
room_by true (Ok c) b = (lit≤ tt, (lit< tt, lit≤ tt))
room_by false (Ok c) b = b
room_by short (Err why) b = b

pub read_by : (file : List ℕ) (room : ℕ) → By Few largest (read_tests file room)
unfolding read_tests
read_by file room = room_by (ltb room (flip_count file)) (file_tests file) (answer_by file)

pub write_by : (c : Content) (listed room : ℕ) → By Few largest (write_tests c listed room)
unfolding write_tests
write_by c listed room = room_by (ltb room (length_of c)) (tests as_given c listed) (tests_by given_near c listed)

-- A refusal that comes back is one of the tests'.
read_refused : {why : Refusal} (c : Content) (p : Passed) → Err why ≡ answered c p → Err why ≡ p
read_refused c (Ok here) e = cc
read_refused c (Err other) e = cc

write_refused : {why : Refusal} (c : Content) (p : Passed) → Err why ≡ ended (length_of c) p → Err why ≡ p
write_refused c (Ok here) e = cc
write_refused c (Err other) e = cc

pub reading_small : (file : List ℕ) (room : ℕ) {why : Refusal} → Err why ≡ reading file room → (why.place ≤ largest) × (refusal_number why.reason ≤ 15)
unfolding reading
reading_small file room e = let b = rw (← read_refused (content_in file) (read_tests file room) e) at (read_by file room) in (b.0, b.1.1)

pub writing_small : (c : Content) (listed room : ℕ) {why : Refusal} → Err why ≡ writing c listed room → (why.place ≤ largest) × (refusal_number why.reason ≤ 15)
unfolding writing
writing_small c listed room e = let b = rw (← write_refused c (write_tests c listed room) e) at (write_by c listed room) in (b.0, b.1.1)

pub writing_size : (c : Content) (listed room : ℕ) {size : ℕ} → Ok size ≡ writing c listed room → size ≤ largest
unfolding writing write_tests
writing_size c listed room e =
    let (here, passed, is) = wrote (write_tests c listed room) e in
    let kept = given_head_kept c listed [] (through (tests as_given c listed) passed).1 in
    omega arith
