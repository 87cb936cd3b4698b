-- The rows of the tables of the operations "build" and "tree": each return is one. What is lent is long enough, or the first of 9 and 10 says what is not
-- (`lacks_of`, `enough`).
use mathlib.Core.Path.{◌≡◌, refl, ap, ◌∙◌}
use mathlib.Core.Bool.{Bool, true, false, cond}
use mathlib.Core.List.{List}
use Prim.Native.Nat.{ℕ, ◌≤◌, ◌<◌}
use native.Mathlib.Omega.{arith}
use lib.Dec.{ltb, lit≤}
use lib.IntN.{ℤ}
use borrow.Author.Tests.{lt-ltb, le-ltb, ltb-false}
use Rattle.record.specs.Bytes.{over}
use Rattle.record.specs.Refusals.{refused, refusal_number}
use Rattle.record.specs.declared.refusal.Reason.TheVariants as reason
use Rattle.record.specs.declared.refusal.Refusal.{Refusal}
use Rattle.matrix.specs.Check.{checked}
use Rattle.answer.specs.Content.{Content, file_of}
use Rattle.method.specs.Tree.{one_entries}
use Rattle.search.specs.Workspace.{cleared}
use Rattle.split.specs.Columns.{matrix_in}
use Rattle.tree.specs.inner.Grow.{lent_checked}
use Rattle.tree.specs.Build.{tree_for, content_for, tree_room, room_for, written, taken_of, if_enough}
use Rattle.tree.specs.Build.{answered, built, holding, output_after, workspace_after, returned, build_numbers}
use Rattle.tree.specs.Tree.{tree_answered, tree_given, tree_output, tree_numbers}
use Rattle.std.specs.Prelude.{Result, Ok, Err, ⊤}
use Rattle.matrix.specs.Check.{shape}
use Rattle.matrix.specs.declared.Shape.{Shape}
use Rattle.tree.specs.declared.Built.{Built}

-- ---- what is lent

-- Nothing is too short.
abbrev long_enough : Result ⊤ Refusal
long_enough = Ok tt

module _ (space needed room wanted : ℕ) where
  pub short_space : space < needed → lent_checked space needed room wanted ≡ Err (refused reason.Workspace 0)
  unfolding lent_checked
  short_space l = rw (lt-ltb _ _ l)

  pub short_room : needed ≤ space → room < wanted → lent_checked space needed room wanted ≡ Err (refused reason.Room 0)
  unfolding lent_checked
  short_room l k = rw (le-ltb _ _ l, lt-ltb _ _ k)

  pub none_short : needed ≤ space → wanted ≤ room → lent_checked space needed room wanted ≡ long_enough
  unfolding lent_checked
  none_short l k = rw (le-ltb _ _ l, le-ltb _ _ k)

  -- What is refused, and what it takes that nothing is.
  pub record Lacks (why : Refusal) : Type 0 where
    pub few : refusal_number why.reason ≤ 10
    pub whatever : (r : Result Built Refusal) → Err why ≡ cond (ltb space needed) (Err (refused reason.Workspace 0)) (cond (ltb room wanted) (Err (refused reason.Room 0)) r)

  abbrev why_in : Refusal → Result ⊤ Refusal → Refusal
  why_in other (Ok t) = other
  why_in other (Err why) = why

  pub lacks_of : {why : Refusal} → Err why ≡ lent_checked space needed room wanted → Lacks why
  unfolding lent_checked
  lacks_of {why} = go (ltb space needed) (ltb room wanted) refl refl
    where
      go : (a b : Bool) → ltb space needed ≡ a → ltb room wanted ≡ b
          → Err why ≡ cond a (Err (refused reason.Workspace 0)) (cond b (Err (refused reason.Room 0)) long_enough) → Lacks why
      go true b p q e = let same : why ≡ refused reason.Workspace 0 = ap (why_in why) e in rw same (record { few = lit≤ tt; whatever = λ r. rw p })
      go false true p q e = let same : why ≡ refused reason.Room 0 = ap (why_in why) e in rw same (record { few = lit≤ tt; whatever = λ r. rw (p, q) })
      go false false p q e = absurd (let z : ◌≡◌ {A = ℕ} 0 1 = cc in omega arith)

  pub enough : long_enough ≡ lent_checked space needed room wanted → (needed ≤ space) × (wanted ≤ room)
  unfolding lent_checked
  enough = go (ltb space needed) (ltb room wanted) refl refl
    where
      go : (a b : Bool) → ltb space needed ≡ a → ltb room wanted ≡ b
          → long_enough ≡ cond a (Err (refused reason.Workspace 0)) (cond b (Err (refused reason.Room 0)) long_enough) → (needed ≤ space) × (wanted ≤ room)
      go true b p q e = absurd (let z : ◌≡◌ {A = ℕ} 0 1 = cc in omega arith)
      go false true p q e = absurd (let z : ◌≡◌ {A = ℕ} 0 1 = cc in omega arith)
      go false false p q e = (omega (arith, ltb-false space needed p), omega (arith, ltb-false room wanted q))

-- The same, where what is asked for was told in other words.
module _ (space room : ℕ) {needed wanted ones most : ℕ} (n : needed ≡ ones) (w : wanted ≡ most) where
  pub lent_lacks : {why : Refusal} → Err why ≡ lent_checked space needed room wanted → Err why ≡ lent_checked space ones room most
  lent_lacks e = e ∙ (λ i. lent_checked space (n i) room (w i))

  pub lent_enough : long_enough ≡ lent_checked space needed room wanted → (ones ≤ space) × (most ≤ room)
  lent_enough e = enough space ones room most (e ∙ (λ i. lent_checked space (n i) room (w i)))

module _ (file : List ℕ) (space room wanted : ℕ) (r : Result Built Refusal) where
  abbrev needed : ℕ
  needed = one_entries (matrix_in file)

  pub lacks : {why : Refusal} → Err why ≡ lent_checked space needed room wanted → Err why ≡ if_enough file space wanted room r
  lacks e = (lacks_of space needed room wanted e).whatever r

  pub has_enough : needed ≤ space → wanted ≤ room → r ≡ if_enough file space wanted room r
  has_enough l k = rw (le-ltb _ _ l, le-ltb _ _ k)

-- ---- what is left in it

-- A refusal changes no lent memory.
pub output_left : (file : List ℕ) (why : Refusal) (out : List ℕ) → out ≡ output_after file (Err why) out
unfolding output_after
output_left file why out = refl

pub tree_output_left : (file : List ℕ) (why : Refusal) (out : List ℕ) → out ≡ tree_output file (Err why) out
unfolding tree_output
tree_output_left file why out = refl

pub workspace_left : (file : List ℕ) (why : Refusal) (ws : List ℤ) → ws ≡ workspace_after file (Err why) ws
unfolding workspace_after
workspace_left file why ws = refl

-- Success writes, and leaves zeros.
pub holds : (c : Content) (out : List ℕ) {r : Result Built Refusal} {out' : List ℕ} → r ≡ written c → out' ≡ over (file_of c) 0 out → out' ≡ holding c r out
holds c out is e = rw is e

pub clears : (file : List ℕ) (c : Content) (ws : List ℤ) {r : Result Built Refusal} {ws' : List ℤ} → r ≡ written c → ws' ≡ cleared (one_entries (matrix_in file)) ws
    → ws' ≡ workspace_after file r ws
unfolding workspace_after
clears file c ws is e = rw is e

-- ---- a matrix that is taken

module _ (file : List ℕ) (n m space room : ℕ) where
  abbrev ones : ℕ
  ones = one_entries (matrix_in file)

  pub build_lacks : {why : Refusal} → Err why ≡ lent_checked space ones room (room_for n m) → Err why ≡ answered (Ok (shape n m)) file space room
  unfolding answered
  build_lacks e = lacks file space room (room_for n m) (taken_of file) e

  pub tree_lacks : {why : Refusal} → Err why ≡ lent_checked space ones room (tree_room n) → Err why ≡ tree_answered (Ok (shape n m)) file space room
  unfolding tree_answered
  tree_lacks e = lacks file space room (tree_room n) (written (tree_for (matrix_in file))) e

  module _ (out : List ℕ) (ws : List ℤ) {r : Result Built Refusal} {out' : List ℕ} {ws' : List ℤ} (long : ones ≤ space) (cleared-is : ws' ≡ cleared ones ws) where
    pub build_row : room_for n m ≤ room → (r ≡ taken_of file) × (out' ≡ over (file_of (content_for (matrix_in file))) 0 out)
        → (r ≡ answered (Ok (shape n m)) file space room) × (out' ≡ output_after file r out) × (ws' ≡ workspace_after file r ws)
    unfolding answered output_after
    build_row fits (is, output) =
        let c = content_for (matrix_in file) in
        (is ∙ has_enough file space room (room_for n m) (taken_of file) long fits, holds c out is output, clears file c ws is cleared-is)

    pub tree_row : tree_room n ≤ room → (r ≡ written (tree_for (matrix_in file))) × (out' ≡ over (file_of (tree_for (matrix_in file))) 0 out)
        → (r ≡ tree_answered (Ok (shape n m)) file space room) × (out' ≡ tree_output file r out) × (ws' ≡ workspace_after file r ws)
    unfolding tree_answered tree_output
    tree_row fits (is, output) =
        let c = tree_for (matrix_in file) in
        (is ∙ has_enough file space room (tree_room n) (written c) long fits, holds c out is output, clears file c ws is cleared-is)

-- ---- what the check says decides

module _ (file : List ℕ) (space room : ℕ) {k : Result Shape Refusal} {r : Result Built Refusal} (e : k ≡ checked file) where
  pub outcome : r ≡ answered k file space room → (r ≡ built file space room) × (returned r ≡ build_numbers file space room)
  unfolding built
  outcome is = let same = rw e at is in (same, ap returned same)

  pub tree_outcome : r ≡ tree_answered k file space room → (r ≡ tree_given file space room) × (returned r ≡ tree_numbers file space room)
  unfolding tree_given
  tree_outcome is = let same = rw e at is in (same, ap returned same)

module _ (file : List ℕ) (space room : ℕ) (why : Refusal) where
  pub refused_row : Err why ≡ answered (Err why) file space room
  unfolding answered
  refused_row = refl

  pub tree_refused_row : Err why ≡ tree_answered (Err why) file space room
  unfolding tree_answered
  tree_refused_row = refl
