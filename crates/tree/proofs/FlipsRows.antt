-- The rows of the table of the operation "flips": each return is one, and the workspace is left as it was but after success and after 26 (`flips_left`,
-- `flips_cleared`).
use mathlib.Core.Path.{◌≡◌, refl, ap, ◌∙◌}
use mathlib.Core.Bool.{Bool, true, false, ◌&&◌}
use mathlib.Core.List.{List}
use mathlib.Core.Logic.{◌≢◌}
use Prim.Native.Nat.{ℕ, ◌≤◌}
use native.Mathlib.Omega.{arith}
use lib.Dec.{eqb}
use lib.IntN.{ℤ}
use lib.ListN.{length}
use borrow.Author.Tests.{ne_eqb, le-ltb}
use Rattle.record.specs.Bytes.{equal, over}
use Rattle.record.specs.declared.Cursor.{Cursor}
use Rattle.record.specs.declared.refusal.Refusal.{Refusal}
use Rattle.matrix.specs.Check.{checked}
use Rattle.matrix.proofs.Places.{refusal_small}
use Rattle.answer.specs.Content.{content_in, file_of}
use Rattle.answer.specs.Reading.{file_tests}
use Rattle.answer.proofs.Places.{answer_by}
use Rattle.method.specs.Tree.{one_entries}
use Rattle.search.specs.Workspace.{cleared}
use Rattle.split.specs.Columns.{matrix_in}
use Rattle.tree.specs.inner.Grow.{lent_checked}
use Rattle.tree.specs.Build.{content_for, room_for, taken_of, output_after, returned}
use Rattle.tree.specs.Flips.{tree_file, if_firsts, agreed, flips_given, flips_answered, flips_workspace, GivesFlips}
use Rattle.tree.proofs.Rows.{lacks, lacks_of, holds, output_left}
use Rattle.std.specs.Prelude.{Result, Ok, Err}
use Rattle.matrix.specs.Check.{shape}
use Rattle.record.specs.declared.refusal.Reason.TheVariants as reason
use Rattle.record.specs.Refusals.{refused, refusal_number}
use Rattle.tree.specs.declared.Built.{Built}

-- ---- the workspace

pub flips_left : (file : List ℕ) (why : Refusal) (ws : List ℤ) → (refusal_number why.reason) ≢ 26 → ws ≡ flips_workspace file (Err why) ws
unfolding flips_workspace
flips_left file why ws d = rw (ne_eqb (refusal_number why.reason) 26 d)

pub flips_cleared : (file : List ℕ) (ws : List ℤ) → cleared (one_entries (matrix_in file)) ws ≡ flips_workspace file (Err (refused reason.OtherTree 0)) ws
unfolding flips_workspace
flips_cleared file ws = refl

-- ---- two files that were read

module _ (file tree : List ℕ) (n m space room : ℕ) where
  abbrev ones : ℕ
  ones = one_entries (matrix_in file)

  -- Whether they have the same n and m.
  abbrev agree : Bool
  agree = eqb (content_in tree).n n && eqb (content_in tree).m m

  module _ (out : List ℕ) (ws : List ℤ) where
    -- What a return comes to.
    abbrev Row : Result Built Refusal → List ℕ → List ℤ → Type 0
    Row r out' ws' = (r ≡ agreed file tree n m space room) × (out' ≡ output_after file r out) × (ws' ≡ flips_workspace file r ws)

    pub disagree_row : agree ≡ false → Row (Err (refused reason.Differ 0)) out ws
    unfolding agreed
    disagree_row e = (rw e, output_left file _ out, flips_left file _ ws (λ d. omega arith))

    module _ (e : agree ≡ true) where
      pub lack_row : {why : Refusal} → Err why ≡ lent_checked space ones room (room_for n m) → Row (Err why) out ws
      unfolding agreed
      lack_row is = (
        rw e (lacks file space room (room_for n m) (if_firsts file tree (taken_of file)) is),
        output_left file _ out,
        flips_left file _ ws (λ d. omega (arith, (lacks_of space ones room (room_for n m) is).few)),
      )

      module _ (long : ones ≤ space) (fits : room_for n m ≤ room) {ws' : List ℤ} (clear : ws' ≡ cleared ones ws) where
        pub differs_row : equal tree (tree_file file) ≡ false → Row (Err (refused reason.OtherTree 0)) out ws'
        unfolding agreed
        differs_row d = (rw (e, le-ltb _ _ long, le-ltb _ _ fits, d), output_left file _ out, clear ∙ flips_cleared file ws)

        pub whole_row : equal tree (tree_file file) ≡ true → {r : Result Built Refusal} {out' : List ℕ}
            → (r ≡ taken_of file) × (out' ≡ over (file_of (content_for (matrix_in file))) 0 out) → Row r out' ws'
        unfolding agreed output_after flips_workspace
        whole_row same (is, output) = (is ∙ rw (e, le-ltb _ _ long, le-ltb _ _ fits, same), holds (content_for (matrix_in file)) out is output, rw is clear)

-- ---- the operation

module _ (file tree : List ℕ) (ws : List ℤ) (out : List ℕ) where
  all_of : {r : Result Built Refusal} {ws' : List ℤ} {out' : List ℕ}
      → (r ≡ flips_given file tree (length ws) (length out)) × (out' ≡ output_after file r out) × (ws' ≡ flips_workspace file r ws)
      → GivesFlips file tree ws out r ws' out'
  all_of (is, output, clear) = record { answers = is; numbers = ap returned is; output = output; workspace = clear }

  pub matrix_refused : {why : Refusal} → Err why ≡ checked file → GivesFlips file tree ws out (Err why) ws out
  unfolding flips_given flips_answered
  matrix_refused {why} e = all_of (rw (← e), output_left file why out, flips_left file why ws (λ d. omega (arith, (refusal_small file e).2)))

  module _ {n m : ℕ} (taken : Ok (shape n m) ≡ checked file) where
    pub tree_refused : {why : Refusal} → Err why ≡ file_tests tree → GivesFlips file tree ws out (Err why) ws out
    unfolding flips_given flips_answered
    tree_refused {why} e =
        let few : (refusal_number why.reason) ≤ 15 = (rw (← e) at (answer_by tree)).1.1 in
        all_of (rw (← taken, ← e), output_left file why out, flips_left file why ws (λ d. omega arith))

    pub both_read : {here : Cursor} {r : Result Built Refusal} {ws' : List ℤ} {out' : List ℕ} → Ok here ≡ file_tests tree
        → (r ≡ agreed file tree n m (length ws) (length out)) × (out' ≡ output_after file r out) × (ws' ≡ flips_workspace file r ws)
        → GivesFlips file tree ws out r ws' out'
    unfolding flips_given flips_answered
    both_read e (is, output, clear) = all_of (rw (← taken, ← e) is, output, clear)
