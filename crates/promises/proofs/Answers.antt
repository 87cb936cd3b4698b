-- What the build leaves of a file is the answer file of the method's answer (`leaves_file`); there is one for each file that the check takes
-- (`build_leaves`); it reads back (`answer_content`, `answer_reads_back`); its groups, flips and total are the method's (`groups_are`, `flips_are`, `total_is`).
use mathlib.Core.Path.{◌≡◌, refl, sym, ap, ◌∙◌, subst}
use mathlib.Core.Bool.{Bool, true, false, cond}
use mathlib.Core.List.{List, map}
use Prim.Native.Nat.{ℕ, zero, suc, ◌≤◌}
use native.Mathlib.Omega.{arith}
use lib.Dec.{ltb}
use lib.IntN.{ℤ}
use lib.ListN.{length, take, get_or-map}
use lib.Seq.{take-suc, take-length}
use borrow.Author.Tests.{le-ltb}
use Rattle.record.specs.Bytes.{File}
use Rattle.record.specs.Refusals.{refused}
use Rattle.record.specs.declared.refusal.Refusal.{Refusal}
use Rattle.matrix.specs.Check.{checked}
use Rattle.answer.specs.Content.{Content, content_in, content_of, answer_of, file_of, length_of}
use Rattle.answer.specs.Lawful.{Lawful}
use Rattle.answer.specs.Reading.{reading, listed, Reads}
use Rattle.answer.specs.declared.Answer.{Answer}
use Rattle.answer.proofs.Runs.{front_is}
use Rattle.answer.proofs.Pieces.{length_file}
use Rattle.answer.proofs.Encoding.{file_holds}
use Rattle.answer.proofs.RoundTrip.{reads_back, read_content}
use Rattle.method.specs.Tree.{Group, Flips, Matrix, one_entries, Sound, answer}
use Rattle.split.specs.Columns.{matrix_in}
use Rattle.split.proofs.Soundness.{taken_sound}
use Rattle.tree.specs.Lists as lists
use Rattle.tree.specs.Build.{content_for, room_for, taken_of, answered, built, output_after, workspace_after, returned}
use Rattle.tree.proofs.Rules.{answer_lawful}
use Rattle.promises.specs.Held.{Leaves, groups_in, flips_in, total_in}
use Rattle.promises.proofs.Bytes.{file_bytes}
use Rattle.promises.proofs.Numbers.{build_succeeds}
use Rattle.std.specs.Prelude.{Result, Ok, Err}
use Rattle.matrix.specs.Check.{shape}
use Rattle.record.specs.declared.refusal.Reason.TheVariants as reason
use Rattle.matrix.specs.declared.Shape.{Shape}
use Rattle.tree.specs.declared.Built.{Built}

-- ---- lists of groups and flips, apart and together again

groups_whole : (gs : List Group) (k : ℕ) → k ≤ length gs → lists.first_groups (map (λ (g : Group). g.taxa) gs) (map (λ (g : Group). g.cost) gs) k ≡ take k gs
unfolding lists.first_groups
groups_whole gs zero l = refl
groups_whole gs (suc k) l =
    let none : Group = record { taxa = 0; cost = 0 } in
    rw (groups_whole gs k (omega arith), get_or-map (λ (g : Group). g.taxa) gs k none, get_or-map (λ (g : Group). g.cost) gs k none)
    (sym (take-suc gs k none l))

flips_whole : (fs : List Flips) (k : ℕ) → k ≤ length fs
    → lists.first_flips (map (λ (f : Flips). f.column) fs) (map (λ (f : Flips). f.raised) fs) (map (λ (f : Flips). f.lowered) fs) k ≡ take k fs
unfolding lists.first_flips
flips_whole fs zero l = refl
flips_whole fs (suc k) l =
    let none : Flips = record { column = 0; raised = 0; lowered = 0 } in
    rw (
      flips_whole fs k (omega arith),
      get_or-map (λ (f : Flips). f.column) fs k none,
      get_or-map (λ (f : Flips). f.raised) fs k none,
      get_or-map (λ (f : Flips). f.lowered) fs k none,
    )
    (sym (take-suc fs k none l))

-- ---- a build that took a file

-- The check took the file too, and there was room.
record Took (file : List ℕ) (space room : ℕ) (r : Result Built Refusal) : Type 0 where
  n : ℕ
  m : ℕ
  taken : Ok (shape n m) ≡ checked file
  is : r ≡ taken_of file

took : (file : List ℕ) (space room : ℕ) {b : Built} → Ok b ≡ built file space room → Took file space room (Ok b)
unfolding built answered
took file space room {b} e = go (checked file) refl e
  where
    none : {why : Refusal} → ◌≡◌ {A = Result Built Refusal} (Ok b) (Err why) → Took file space room (Ok b)
    none w = absurd (let z : ◌≡◌ {A = ℕ} 0 1 = cc in omega arith)

    tested : (n m : ℕ) → Ok (shape n m) ≡ checked file → (p q : Bool) → Ok b ≡ cond p (Err (refused reason.Workspace 0)) (cond q (Err (refused reason.Room 0)) (taken_of file)) → Took file space room (Ok b)
    tested n m t true b w = none w
    tested n m t false true w = none w
    tested n m t false false w = record { n = n; m = m; taken = t; is = w }

    go : (k : Result Shape Refusal) → k ≡ checked file → Ok b ≡ answered k file space room → Took file space room (Ok b)
    go (Err why) t w = none w
    go (Ok it) t w = tested it.n it.m t (ltb space (one_entries (matrix_in file))) (ltb room (room_for it.n it.m)) w

module _ {file answerFile : List ℕ} (b : Leaves file answerFile) where
  it : Took file (length b.ws) (length b.out) b.r
  it =
      let (size, sum, e) = (build_succeeds b.builds).0 b.success in
      subst (λ (r : Result Built Refusal). Took file (length b.ws) (length b.out) r) (sym e) (took file (length b.ws) (length b.out) (sym e ∙ b.builds.answers))

  -- The build takes only what the check takes.
  pub leaves_taken : (n : ℕ) × (m : ℕ) × (Ok (shape n m) ≡ checked file)
  leaves_taken = (it.n, it.m, it.taken)

  -- What it leaves is the file of the method's answer to the matrix in the file.
  pub leaves_file : answerFile ≡ file_of (content_for (matrix_in file))
  unfolding output_after
  leaves_file =
      let c = content_for (matrix_in file) in
      let output = b.builds.output ∙ ap (λ (r : Result Built Refusal). output_after file r b.out) it.is in
      b.bytes ∙ (λ i. take (returned (it.is i)).size (output i)) ∙ front_is (file_of c) b.out (length_of c) (length_file c)

  -- The two numbers that the build returned are that file's length and the method's total.
  pub leaves_numbers : ((returned b.r).size ≡ length answerFile) × ((returned b.r).sum ≡ (content_for (matrix_in file)).total)
  leaves_numbers = (
    ap (λ (r : Result Built Refusal). (returned r).size) it.is ∙ sym (ap length leaves_file ∙ length_file (content_for (matrix_in file))),
    ap (λ (r : Result Built Refusal). (returned r).sum) it.is,
  )

-- There is such an answer file for each file that the check takes, given the workspace that document 02 asks (C-13), and the room that document 01 does.
pub build_leaves : {file : List ℕ} {n m : ℕ} → Ok (shape n m) ≡ checked file → (ws : List ℤ) (out : List ℕ) → one_entries (matrix_in file) ≤ length ws → room_for n m ≤ length out
    → Leaves file (file_of (content_for (matrix_in file)))
unfolding built answered output_after
build_leaves {file} {n} {m} taken ws out l k =
    let c = content_for (matrix_in file) in
    let answers : taken_of file ≡ built file (length ws) (length out) = rw (← taken, le-ltb _ _ l, le-ltb _ _ k) in
    record {
      ws = ws;
      out = out;
      r = taken_of file;
      ws' = workspace_after file (taken_of file) ws;
      out' = output_after file (taken_of file) out;
      builds = record { answers = answers; numbers = ap returned answers; output = refl; workspace = refl };
      success = refl;
      bytes = sym (front_is (file_of c) out (length_of c) (length_file c));
    }

-- ---- what it holds

module _ {file answerFile : List ℕ} (f : File file) (b : Leaves file answerFile) where
  abbrev M : Matrix
  M = matrix_in file

  pub sound : Sound M
  sound = taken_sound f (leaves_taken b).2

  pub lawful : Lawful (content_for M)
  lawful = answer_lawful M sound

  -- "Answer files read back to what was written": its content is the method's answer,
  pub answer_content : content_in answerFile ≡ content_for M
  answer_content = ap content_in (leaves_file b) ∙ file_holds lawful

  -- and reading takes it, given a list with room for its flips: what it returns and leaves in the list is that content.
  pub answer_taken : (room : ℕ) → (content_in answerFile).flips ≤ room → reading answerFile room ≡ Ok (answer_of (content_for M))
  answer_taken room l =
      ap (λ (x : List ℕ). reading x room) (leaves_file b)
      ∙ reads_back lawful room (omega (arith, ap (λ (c : Content). c.flips) answer_content))

  pub answer_reads_back : {cs us ds : List ℕ} {r : Result Answer Refusal} {cs' us' ds' : List ℕ} → Reads answerFile cs us ds r cs' us' ds' → (content_in answerFile).flips ≤ listed cs us ds
      → (a : Answer) × (r ≡ Ok a) × (content_of a cs' us' ds' ≡ content_for M)
  answer_reads_back {cs} {us} {ds} x l =
      let taken = x.answers ∙ answer_taken (listed cs us ds) l in
      (answer_of (content_for M), taken, read_content (rw (leaves_file b) (file_bytes (content_for M))) x taken ∙ answer_content)

  -- "The groups, costs and flips are those of the FlipCut method with document 01's ties."

  pub groups_are : groups_in answerFile ≡ (answer M).groups
  unfolding content_for
  groups_are =
      let gs = (answer M).groups in
      ap (λ (c : Content). lists.first_groups c.taxa c.costs c.groups) answer_content
      ∙ groups_whole gs (length gs) (omega arith) ∙ take-length gs

  pub flips_are : flips_in answerFile ≡ (answer M).flips
  unfolding content_for
  flips_are =
      let fs = (answer M).flips in
      ap (λ (c : Content). lists.first_flips c.columns c.raised c.lowered c.flips) answer_content
      ∙ flips_whole fs (length fs) (omega arith) ∙ take-length fs

  pub total_is : total_in answerFile ≡ (answer M).total
  unfolding content_for answer
  total_is = ap (λ (c : Content). c.total) answer_content
