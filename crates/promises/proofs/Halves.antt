-- C-18, of what people hold: the tree file has the groups and costs of the answer and no flips (`same_groups`), and reading takes it (`tree_read`); the flips
-- of it are the build, in every number and buffer (`flips_are_the_build`); any other file is refused with 26, exactly where nothing else refuses
-- (`other_tree_exactly`), and this one is taken (`own_tree_exactly`). And what demands 1 and 2 say of each operation: what a refusal leaves, 26 alone with a
-- workspace as after success (`refused_tree`, `refused_flips`, `flips_workspace_lem`), and that two results coincide.
use mathlib.Core.Path.{◌≡◌, refl, sym, ap, subst, ◌∙◌}
use mathlib.Core.Bool.{Bool, true, false, ◌&&◌, cond, true≢false}
use mathlib.Core.List.{List, []}
use mathlib.Core.Logic.{◌≢◌, ◌↔◌, ◌⊎◌, ⊎_elim}
use Prim.Native.Nat.{ℕ, ◌≤◌, ◌<◌}
use native.Mathlib.Omega.{arith}
use lib.Dec.{ltb, eqb}
use lib.IntN.{ℤ}
use lib.ListN.{length, take}
use borrow.Author.Tests.{eqb-true, ne_eqb, le-ltb, ltb-false}
use Rattle.record.specs.Bytes.{File, equal}
use Rattle.record.specs.Records.{Passed}
use Rattle.record.specs.declared.Cursor.{Cursor}
use Rattle.record.specs.declared.refusal.Refusal.{Refusal}
use Rattle.record.proofs.Equal.{equal_refl, equal_true}
use Rattle.matrix.specs.Check.{checked}
use Rattle.matrix.proofs.Places.{refusal_small}
use Rattle.answer.specs.Content.{Content, content_in, file_of, length_of}
use Rattle.answer.specs.Reading.{file_tests}
use Rattle.answer.proofs.Runs.{front_is}
use Rattle.answer.proofs.Pieces.{length_file}
use Rattle.answer.proofs.Places.{answer_by}
use Rattle.method.specs.Tree.{one_entries}
use Rattle.split.specs.Columns.{matrix_in}
use Rattle.tree.specs.Lists as lists
use Rattle.tree.specs.Build.{tree_for, content_for, with_flips, tree_room, room_for, written}
use Rattle.tree.specs.Build.{taken_of, built, output_after, workspace_after, Returned, returned, Builds}
use Rattle.tree.specs.Tree.{tree_answered, tree_given, tree_output, GivesTree}
use Rattle.tree.specs.Flips.{tree_file, agreed, after_tree, flips_answered, flips_given, flips_workspace, GivesFlips}
use Rattle.tree.proofs.Rules.{answer_of_tree}
use Rattle.tree.proofs.Halves as halves
use Rattle.tree.proofs.Halves.{tree_content, tree_passes, flips_of_tree}
use Rattle.tree.proofs.Places.{Small, build_small}
use Rattle.flipcut.specs.Packed.{packed_build, GivesTreePacked, GivesFlipsPacked}
use Rattle.flipcut.specs.Unpacked.{number_in}
use Rattle.flipcut.proofs.Unpacking.{tree_unpacks, flips_unpack}
use Rattle.promises.specs.Held.{Leaves, groups_in, flips_in, total_in}
use Rattle.promises.specs.Pairs.{AcceptedPair}
use Rattle.promises.specs.Halves.{LeavesTree, Comparable}
use Rattle.promises.specs.Lent.{OneForEach1}
use Rattle.promises.proofs.Lent.{one_for_each}
use Rattle.promises.proofs.Answers.{leaves_file, answer_content, flips_are}
use Rattle.std.specs.Prelude.{Result, Ok, Err}
use Rattle.matrix.specs.Check.{shape}
use Rattle.record.specs.declared.refusal.Reason.TheVariants as reason
use Rattle.record.specs.Refusals.{refused, refusal_number}
use Rattle.matrix.specs.declared.Shape.{Shape}
use Rattle.tree.specs.declared.Built.{Built}

-- ---- what the tree of a file comes to

data Grows (file : List ℕ) (space room : ℕ) : Result Built Refusal → Type 0 where
  refuses : (why : Refusal) → 0 < refusal_number why.reason → Grows file space room (Err why)
  gives : (n m : ℕ) → Ok (shape n m) ≡ checked file → one_entries (matrix_in file) ≤ space → Grows file space room (written (tree_for (matrix_in file)))

grows : (file : List ℕ) (space room : ℕ) → Grows file space room (tree_given file space room)
unfolding tree_given tree_answered
grows file space room = go (checked file) refl
  where
    tested : (n m : ℕ) → Ok (shape n m) ≡ checked file → (a b : Bool) → ltb space (one_entries (matrix_in file)) ≡ a
        → Grows file space room (cond a (Err (refused reason.Workspace 0)) (cond b (Err (refused reason.Room 0)) (written (tree_for (matrix_in file)))))
    tested n m t true b e = refuses (refused reason.Workspace 0) (omega arith)
    tested n m t false true e = refuses (refused reason.Room 0) (omega arith)
    tested n m t false false e = gives n m t (omega (arith, ltb-false space (one_entries (matrix_in file)) e))

    go : (k : Result Shape Refusal) → k ≡ checked file → Grows file space room (tree_answered k file space room)
    go (Err why) e = refuses why (refusal_small file e).1
    go (Ok it) e = tested it.n it.m e (ltb space (one_entries (matrix_in file))) (ltb room (tree_room it.n)) refl

module _ {file : List ℕ} {ws : List ℤ} {out : List ℕ} {r : Result Built Refusal} {ws' : List ℤ} {out' : List ℕ} (x : GivesTree file ws out r ws' out') where
  grew : Grows file (length ws) (length out) r
  grew = subst (Grows file (length ws) (length out)) (sym x.answers) (grows file (length ws) (length out))

pub tree_succeeds : {file : List ℕ} {ws : List ℤ} {out : List ℕ} {r : Result Built Refusal} {ws' : List ℤ} {out' : List ℕ} → GivesTree file ws out r ws' out'
    → (returned r).number ≡ 0 ↔ ((size : ℕ) × (sum : ℕ) × (r ≡ Ok (record { size = size; total = sum })))
tree_succeeds x = go (grew x)
  where
    go : {file : List ℕ} {space room : ℕ} {r : Result Built Refusal} → Grows file space room r → (returned r).number ≡ 0 ↔ ((size : ℕ) × (sum : ℕ) × (r ≡ Ok (record { size = size; total = sum })))
    go (refuses why some) = (λ z. absurd (omega arith), λ (size, sum, t). absurd (let z : ◌≡◌ {A = ℕ} 0 1 = cc in omega arith))
    go {file} (gives n m t long) = (λ z. (_, _, refl), λ t. refl)

pub refused_tree : {file : List ℕ} {ws : List ℤ} {out : List ℕ} {r : Result Built Refusal} {ws' : List ℤ} {out' : List ℕ} → GivesTree file ws out r ws' out'
    → (returned r).number ≢ 0
    → ((returned r).size ≡ 0) × ((returned r).sum ≡ 0) × (ws' ≡ ws) × (out' ≡ out)
unfolding tree_output workspace_after
refused_tree {r = Ok it} x some = absurd (some refl)
refused_tree {r = Err why} x some = (refl, refl, x.workspace, x.output)

-- After success the workspace has zeros, one for each 1 of the matrix.
pub tree_workspace : {file : List ℕ} {ws : List ℤ} {out : List ℕ} {r : Result Built Refusal} {ws' : List ℤ} {out' : List ℕ} → GivesTree file ws out r ws' out'
    → (returned r).number ≡ 0
    → OneForEach1 (matrix_in file) ws ws'
unfolding workspace_after
tree_workspace x none = go (grew x) none x.workspace
  where
    go : {file : List ℕ} {ws : List ℤ} {room : ℕ} {r : Result Built Refusal} {ws' : List ℤ} → Grows file (length ws) room r → (returned r).number ≡ 0
        → ws' ≡ workspace_after file r ws
        → OneForEach1 (matrix_in file) ws ws'
    go (refuses why some) z e = absurd (omega arith)
    go {file} {ws} (gives n m t long) z e = rw e (one_for_each (matrix_in file) ws long)

pub one_tree : {file out : List ℕ} {ws : List ℤ} {r r' : Result Built Refusal} {ws' ws'' : List ℤ} {out' out'' : List ℕ} → GivesTree file ws out r ws' out'
    → GivesTree file ws out r' ws'' out''
    → (r ≡ r') × (ws' ≡ ws'') × (out' ≡ out'')
one_tree {file} {out} {ws} x y =
    let same = x.answers ∙ sym y.answers in (
      same,
      x.workspace ∙ ap (λ (r : Result Built Refusal). workspace_after file r ws) same ∙ sym y.workspace,
      x.output ∙ ap (λ (r : Result Built Refusal). tree_output file r out) same ∙ sym y.output,
    )

-- ---- what the tree leaves

module _ {file tree : List ℕ} (l : LeavesTree file tree) where
  -- The check took the file, and the tree is the method's.
  record Took (r : Result Built Refusal) : Type 0 where
    n : ℕ
    m : ℕ
    taken : Ok (shape n m) ≡ checked file
    is : r ≡ written (tree_for (matrix_in file))

  it : Took l.r
  it = go (grew l.gives) l.success
    where
      go : {r : Result Built Refusal} → Grows file (length l.ws) (length l.out) r → (returned r).number ≡ 0 → Took r
      go (refuses why some) z = absurd (omega arith)
      go (gives n m t long) z = record { n = n; m = m; taken = t; is = refl }

  pub tree_leaves_file : tree ≡ tree_file file
  unfolding tree_output
  tree_leaves_file =
      let c = tree_for (matrix_in file) in
      let output = l.gives.output ∙ ap (λ (r : Result Built Refusal). tree_output file r l.out) it.is in
      l.bytes ∙ (λ i. take (returned (it.is i)).size (output i)) ∙ front_is (file_of c) l.out (length_of c) (length_file c)

  -- The two numbers that are returned are that file's length and the method's total.
  pub tree_leaves_numbers : ((returned l.r).size ≡ length tree) × ((returned l.r).sum ≡ (content_for (matrix_in file)).total)
  unfolding tree_for content_for
  tree_leaves_numbers = (
    ap (λ (r : Result Built Refusal). (returned r).size) it.is ∙ sym (ap length tree_leaves_file ∙ length_file (tree_for (matrix_in file))),
    ap (λ (r : Result Built Refusal). (returned r).sum) it.is,
  )

  -- Reading takes what is left.
  pub tree_read : File file → (here : Cursor) × (Ok here ≡ file_tests tree)
  tree_read f = (_, tree_passes f it.taken ∙ ap file_tests (sym tree_leaves_file))

  -- It has the groups, with their costs, and the total of the answer that the build leaves, and no flips.
  pub same_groups : {answerFile : List ℕ} → File file → Leaves file answerFile
      → (groups_in tree ≡ groups_in answerFile) × (total_in tree ≡ total_in answerFile) × (flips_in tree ≡ [])
  unfolding tree_for content_for lists.first_flips
  same_groups f b =
      let mine = ap content_in tree_leaves_file ∙ tree_content f it.taken in
      let whole = answer_content f b in (
        ap (λ (c : Content). lists.first_groups c.taxa c.costs c.groups) mine
            ∙ sym (ap (λ (c : Content). lists.first_groups c.taxa c.costs c.groups) whole),
        ap (λ (c : Content). c.total) mine ∙ sym (ap (λ (c : Content). c.total) whole),
        ap (λ (c : Content). lists.first_flips c.columns c.raised c.lowered c.flips) mine,
      )

  -- Where the build has no flips, its answer is this file.
  pub same_without_flips : {answerFile : List ℕ} → File file → Leaves file answerFile → flips_in answerFile ≡ [] → answerFile ≡ tree
  unfolding tree_for
  same_without_flips f b none =
      let M = matrix_in file in
      leaves_file b ∙ ap file_of (answer_of_tree M ∙ ap (with_flips (tree_for M)) (sym (flips_are f b) ∙ none)) ∙ sym tree_leaves_file

-- There is such a file for each that the check takes, given enough of what is lent.
pub tree_leaves : {file : List ℕ} {n m : ℕ} → Ok (shape n m) ≡ checked file → (ws : List ℤ) (out : List ℕ) → one_entries (matrix_in file) ≤ length ws
    → tree_room n ≤ length out
    → LeavesTree file (tree_file file)
unfolding tree_given tree_answered tree_output
tree_leaves {file} {n} {m} taken ws out l k =
    let c = tree_for (matrix_in file) in
    let answers : written c ≡ tree_given file (length ws) (length out) = rw (← taken, le-ltb _ _ l, le-ltb _ _ k) in
    record {
      ws = ws;
      out = out;
      r = written c;
      ws' = workspace_after file (written c) ws;
      out' = tree_output file (written c) out;
      gives = record { answers = answers; numbers = ap returned answers; output = refl; workspace = refl };
      success = refl;
      bytes = sym (front_is (file_of c) out (length_of c) (length_file c));
    }

-- ---- what the flips of two files come to

data Comes (file tree : List ℕ) (space room : ℕ) : Result Built Refusal → Type 0 where
  refuses : (why : Refusal) → 0 < refusal_number why.reason → (refusal_number why.reason) ≢ 26 → Comes file tree space room (Err why)
  differs : Comparable file tree space room → equal tree (tree_file file) ≡ false → Comes file tree space room (Err (refused reason.OtherTree 0))
  whole : Comparable file tree space room → equal tree (tree_file file) ≡ true → Comes file tree space room (taken_of file)

and_true : (a b : Bool) → a && b ≡ true → (a ≡ true) × (b ≡ true)
and_true true b e = (refl, e)
and_true false b e = absurd (true≢false (sym e))

comes : (file tree : List ℕ) (space room : ℕ) → Comes file tree space room (flips_given file tree space room)
unfolding flips_given flips_answered agreed
comes file tree space room = go (checked file) refl
  where
    compared : Comparable file tree space room → (d : Bool) → equal tree (tree_file file) ≡ d
        → Comes file tree space room (cond d (taken_of file) (Err (refused reason.OtherTree 0)))
    compared c true e = whole c e
    compared c false e = differs c e

    tested : (p : AcceptedPair file tree) (a b : Bool) → ltb space (one_entries (matrix_in file)) ≡ a → ltb room (room_for p.n p.m) ≡ b
        → Comes file tree space room
        (cond a (Err (refused reason.Workspace 0)) (cond b (Err (refused reason.Room 0)) (cond (equal tree (tree_file file)) (taken_of file) (Err (refused reason.OtherTree 0)))))
    tested p true b e e' = refuses (refused reason.Workspace 0) (omega arith) (λ z. omega arith)
    tested p false true e e' = refuses (refused reason.Room 0) (omega arith) (λ z. omega arith)
    tested p false false e e' =
        let long = ltb-false space (one_entries (matrix_in file)) e in
        let fits = ltb-false room (room_for p.n p.m) e' in
        compared (record { pair = p; long = omega arith; fits = omega arith }) (equal tree (tree_file file)) refl

    alike : (n m : ℕ) → Ok (shape n m) ≡ checked file → (here : Cursor) → Ok here ≡ file_tests tree → (a : Bool)
        → (eqb (content_in tree).n n && eqb (content_in tree).m m) ≡ a
        → Comes file tree space room (cond a
        (cond (ltb space (one_entries (matrix_in file))) (Err (refused reason.Workspace 0))
        (cond (ltb room (room_for n m)) (Err (refused reason.Room 0)) (cond (equal tree (tree_file file)) (taken_of file) (Err (refused reason.OtherTree 0)))))
        (Err (refused reason.Differ 0)))
    alike n m t here p false e = refuses (refused reason.Differ 0) (omega arith) (λ z. omega arith)
    alike n m t here p true e =
        let (same_n, same_m) = and_true (eqb (content_in tree).n n) (eqb (content_in tree).m m) e in
        tested (record { n = n; m = m; accepted = record { taken = t; here = here; passes = p }; same_n = eqb-true _ _ same_n; same_m = eqb-true _ _ same_m })
        (ltb space (one_entries (matrix_in file))) (ltb room (room_for n m)) refl refl

    read : (n m : ℕ) → Ok (shape n m) ≡ checked file → (p : Passed) → p ≡ file_tests tree → Comes file tree space room (after_tree file tree n m space room p)
    read n m t (Err why) e = let few = rw (← e) at (answer_by tree) in refuses why few.1.0 (λ z. omega (arith, few.1.1))
    read n m t (Ok here) e = alike n m t here e (eqb (content_in tree).n n && eqb (content_in tree).m m) refl

    go : (k : Result Shape Refusal) → k ≡ checked file → Comes file tree space room (flips_answered k file tree space room)
    go (Err why) e = refuses why (refusal_small file e).1 (λ z. omega (arith, (refusal_small file e).2))
    go (Ok it) e = read it.n it.m e (file_tests tree) refl

module _ {file tree : List ℕ} {ws : List ℤ} {out : List ℕ} {r : Result Built Refusal} {ws' : List ℤ} {out' : List ℕ} (x : GivesFlips file tree ws out r ws' out') where
  came : Comes file tree (length ws) (length out) r
  came = subst (Comes file tree (length ws) (length out)) (sym x.answers) (comes file tree (length ws) (length out))

  pub flips_succeed : (returned r).number ≡ 0 ↔ ((size : ℕ) × (sum : ℕ) × (r ≡ Ok (record { size = size; total = sum })))
  flips_succeed = go came
    where
      go : {r : Result Built Refusal} → Comes file tree (length ws) (length out) r → (returned r).number ≡ 0 ↔ ((size : ℕ) × (sum : ℕ) × (r ≡ Ok (record { size = size; total = sum })))
      go (refuses why some other) = (λ z. absurd (omega arith), λ (size, sum, t). absurd (let z : ◌≡◌ {A = ℕ} 0 1 = cc in omega arith))
      go (differs c d) = (λ z. absurd (omega arith), λ (size, sum, t). absurd (let z : ◌≡◌ {A = ℕ} 0 1 = cc in omega arith))
      go (whole c d) = (λ z. (_, _, refl), λ t. refl)

  -- A refusal leaves the output as it was, and the workspace too unless it is 26.
  pub refused_flips : (returned r).number ≢ 0 → ((returned r).size ≡ 0) × ((returned r).sum ≡ 0) × (out' ≡ out) × ((returned r).number ≢ 26 → ws' ≡ ws)
  unfolding output_after flips_workspace
  refused_flips some = go r some x.output x.workspace
    where
      go : (r : Result Built Refusal) → (returned r).number ≢ 0 → out' ≡ output_after file r out → ws' ≡ flips_workspace file r ws
          → ((returned r).size ≡ 0) × ((returned r).sum ≡ 0) × (out' ≡ out) × ((returned r).number ≢ 26 → ws' ≡ ws)
      go (Ok it) some o w = absurd (some refl)
      go (Err why) some o w = (refl, refl, o, λ other. w ∙ rw (ne_eqb (refusal_number why.reason) 26 other))

  -- After success and after 26 the workspace has zeros, one for each 1 of the matrix.
  pub flips_workspace_lem : ((returned r).number ≡ 0) ⊎ ((returned r).number ≡ 26) → OneForEach1 (matrix_in file) ws ws'
  unfolding flips_workspace
  flips_workspace_lem either = go came either x.workspace
    where
      go : {r : Result Built Refusal} → Comes file tree (length ws) (length out) r → ((returned r).number ≡ 0) ⊎ ((returned r).number ≡ 26) → ws' ≡ flips_workspace file r ws
          → OneForEach1 (matrix_in file) ws ws'
      go (refuses why some other) e w = absurd (⊎_elim (λ z. omega arith) other e)
      go (differs c d) e w = rw w (one_for_each (matrix_in file) ws c.long)
      go (whole c d) e w = rw w (one_for_each (matrix_in file) ws c.long)

  module _ {own : List ℕ} (l : LeavesTree file own) where
    -- The files are told apart as bytes.
    same_file : equal tree (tree_file file) ≡ true → tree ≡ own
    same_file e = equal_true tree (tree_file file) e ∙ sym (tree_leaves_file l)

    other_file : equal tree (tree_file file) ≡ false → tree ≢ own
    other_file e same = true≢false (sym (ap (λ (t : List ℕ). equal t (tree_file file)) (same ∙ tree_leaves_file l) ∙ equal_refl (tree_file file)) ∙ e)

    -- "26 where that file is not the first's": exactly there, if nothing else refuses.
    pub other_tree_exactly : (returned r).number ≡ 26 ↔ (Comparable file tree (length ws) (length out) × (tree ≢ own))
    other_tree_exactly = (
      go came,
      λ (c, d). ap (λ (r : Result Built Refusal). (returned r).number)
          (x.answers ∙ halves.other_file file tree c.pair.accepted.taken c.pair.accepted.passes c.pair.same_n c.pair.same_m c.long
          c.fits (λ e. d (e ∙ sym (tree_leaves_file l)))),
    )
      where
        go : {r : Result Built Refusal} → Comes file tree (length ws) (length out) r → (returned r).number ≡ 26 → Comparable file tree (length ws) (length out) × (tree ≢ own)
        go (refuses why some other) z = absurd (other z)
        go (differs c d) z = (c, other_file d)
        go (whole c d) z = absurd (omega arith)

    -- And the first's is taken, exactly there.
    pub own_tree_exactly : (returned r).number ≡ 0 ↔ (Comparable file tree (length ws) (length out) × (tree ≡ own))
    own_tree_exactly = (
      go came,
      λ (c, e). ap (λ (r : Result Built Refusal). (returned r).number)
          (x.answers ∙ halves.own_file file tree c.pair.accepted.taken c.pair.accepted.passes c.pair.same_n c.pair.same_m c.long c.fits
          (e ∙ tree_leaves_file l)),
    )
      where
        go : {r : Result Built Refusal} → Comes file tree (length ws) (length out) r → (returned r).number ≡ 0 → Comparable file tree (length ws) (length out) × (tree ≡ own)
        go (refuses why some other) z = absurd (omega arith)
        go (differs c d) z = absurd (omega arith)
        go (whole c d) z = (c, same_file d)

pub one_flips : {file tree out : List ℕ} {ws : List ℤ} {r r' : Result Built Refusal} {ws' ws'' : List ℤ} {out' out'' : List ℕ} → GivesFlips file tree ws out r ws' out'
    → GivesFlips file tree ws out r' ws'' out'' → (r ≡ r') × (ws' ≡ ws'') × (out' ≡ out'')
one_flips {file} {tree} {out} {ws} x y =
    let same = x.answers ∙ sym y.answers in (
      same,
      x.workspace ∙ ap (λ (r : Result Built Refusal). flips_workspace file r ws) same ∙ sym y.workspace,
      x.output ∙ ap (λ (r : Result Built Refusal). output_after file r out) same ∙ sym y.output,
    )

-- ---- "the old build becomes one after the other"

-- The flips of what the tree leaves are the build, in every number and every buffer.
pub flips_are_the_build : {file tree out : List ℕ} {ws : List ℤ} {r r' : Result Built Refusal} {ws' ws'' : List ℤ} {out' out'' : List ℕ} → File file → LeavesTree file tree
    → GivesFlips file tree ws out r ws' out' → Builds file ws out r' ws'' out'' → (r ≡ r') × (ws' ≡ ws'') × (out' ≡ out'')
unfolding flips_workspace workspace_after
flips_are_the_build {file} {tree} {out} {ws} f l x y =
    let same = x.answers ∙ ap (λ (t : List ℕ). flips_given file t (length ws) (length out)) (tree_leaves_file l) ∙ flips_of_tree f (length ws) (length out) in (
      same ∙ sym y.answers,
      x.workspace ∙ ap (λ (r : Result Built Refusal). flips_workspace file r ws) same
          ∙ left (built file (length ws) (length out)) (build_small file (length ws) (length out))
          ∙ sym (y.workspace ∙ ap (λ (r : Result Built Refusal). workspace_after file r ws) y.answers),
      x.output ∙ ap (λ (r : Result Built Refusal). output_after file r out) (same ∙ sym y.answers) ∙ sym y.output,
    )
  where
    -- The build never refuses with 26.
    left : (r : Result Built Refusal) → Small 21 file r → flips_workspace file r ws ≡ workspace_after file r ws
    left (Ok it) small = refl
    left (Err why) (near, few) = rw (ne_eqb (refusal_number why.reason) 26 (λ e. omega arith))

-- ---- as C calls them

pub refused_tree_from_c : {file : List ℕ} → File file → {ws ws' : List ℤ} {out out' : List ℕ} {v : ℕ} → GivesTreePacked file ws out v ws' out' → number_in v ≢ 0
    → (ws' ≡ ws) × (out' ≡ out)
refused_tree_from_c f p some =
    let same = ap (λ (x : Returned). x.number) (tree_unpacks f p ∙ sym p.promised.numbers) in
    let (size, sum, workspace, output) = refused_tree p.promised (λ none. some (same ∙ none)) in
    (workspace, output)

pub refused_flips_from_c : {file tree : List ℕ} → File file → {ws ws' : List ℤ} {out out' : List ℕ} {v : ℕ} → GivesFlipsPacked file tree ws out v ws' out'
    → number_in v ≢ 0
    → (out' ≡ out) × (number_in v ≢ 26 → ws' ≡ ws)
refused_flips_from_c f p some =
    let same = ap (λ (x : Returned). x.number) (flips_unpack f p ∙ sym p.promised.numbers) in
    let (size, sum, output, workspace) = refused_flips p.promised (λ none. some (same ∙ none)) in
    (output, λ other. workspace (λ is. other (same ∙ is)))

pub one_tree_from_c : {file out : List ℕ} {ws : List ℤ} {v v' : ℕ} {ws' ws'' : List ℤ} {out' out'' : List ℕ} → GivesTreePacked file ws out v ws' out'
    → GivesTreePacked file ws out v' ws'' out'' → (v ≡ v') × (ws' ≡ ws'') × (out' ≡ out'')
one_tree_from_c p q =
    let (same, workspace, output) = one_tree p.promised q.promised in
    (p.packs ∙ ap packed_build same ∙ sym q.packs, workspace, output)

pub one_flips_from_c : {file tree out : List ℕ} {ws : List ℤ} {v v' : ℕ} {ws' ws'' : List ℤ} {out' out'' : List ℕ} → GivesFlipsPacked file tree ws out v ws' out'
    → GivesFlipsPacked file tree ws out v' ws'' out'' → (v ≡ v') × (ws' ≡ ws'') × (out' ≡ out'')
one_flips_from_c p q =
    let (same, workspace, output) = one_flips p.promised q.promised in
    (p.packs ∙ ap packed_build same ∙ sym q.packs, workspace, output)
