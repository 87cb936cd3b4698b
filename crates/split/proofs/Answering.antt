-- The operation "split": the rows of its table, what the search is given and finds, and what is left of the workspace.
use mathlib.Core.Path.{◌≡◌, refl, sym, ap, ◌∙◌, subst}
use mathlib.Core.Bool.{Bool, true, false, ◌||◌}
use mathlib.Core.List.{List}
use Prim.Native.Nat.{ℕ, ◌^◌, ◌≤◌, ◌<◌}
use native.Mathlib.Omega.{arith}
use lib.Dec.{ltb}
use lib.IntN.{ℤ}
use lib.ListN.{length}
use borrow.Author.Tests.{lt-ltb, le-ltb}
use Rattle.taxa.specs.Sets.{within, count, all, Positive}
use Rattle.taxa.proofs.Members.{⊆-≤, all_<, within_⊆}
use Rattle.taxa.proofs.Counts.{count_width}
use Rattle.record.specs.Bytes.{File}
use Rattle.record.specs.Refusals.{refused}
use Rattle.record.specs.declared.refusal.Refusal.{Refusal}
use Rattle.matrix.specs.Check.{checked}
use Rattle.method.specs.Split.{Column, side, split_cost, parted}
use Rattle.method.specs.Tree.{one_entries}
use Rattle.method.proofs.Arcs.{arcs_ones}
use Rattle.search.specs.Workspace.{cleared}
use Rattle.search.proofs.Workspace.{clear_less, cleared_clear}
use Rattle.split.specs.inner.Handing.{Splittable}
use Rattle.split.specs.inner.On as on
use Rattle.split.specs.declared.loaded.Loaded.{Loaded}
use Rattle.split.specs.Columns.{matrix_in}
use Rattle.split.specs.Groups.{IsSplit}
use Rattle.split.specs.Operation.{split_of, no_group, answered, divided, workspace_after, returned, split_numbers}
use Rattle.split.proofs.Soundness.{taken_count, few_taxa, few_columns, taken_sound}
use Rattle.std.specs.Prelude.{Result, Ok, Err}
use Rattle.matrix.specs.Check.{shape}
use Rattle.record.specs.declared.refusal.Reason.TheVariants as reason
use Rattle.matrix.specs.declared.Shape.{Shape}
use Rattle.search.specs.declared.Split.{Split}

-- ---- the rows of the table

module _ (n m : ℕ) (file : List ℕ) (S room : ℕ) where
  no_group_lem : no_group n S ≡ true → Err (refused reason.GroupToSplit 0) ≡ answered (Ok (shape n m)) file S room
  unfolding answered
  no_group_lem e = rw e

  pub one_taxon : count 64 S < 2 → Err (refused reason.GroupToSplit 0) ≡ answered (Ok (shape n m)) file S room
  one_taxon l = no_group_lem (rw (lt-ltb (count 64 S) 2 l))

  pub unknown_taxon : within S (all n) ≡ false → Err (refused reason.GroupToSplit 0) ≡ answered (Ok (shape n m)) file S room
  unknown_taxon e = no_group_lem (rw e (either (ltb (count 64 S) 2)))
    where
      either : (p : Bool) → (p || true) ≡ true
      either true = refl
      either false = refl

  a_group : 2 ≤ count 64 S → within S (all n) ≡ true → no_group n S ≡ false
  a_group two known = rw (le-ltb (count 64 S) 2 two, known)

  pub no_room : 2 ≤ count 64 S → within S (all n) ≡ true → room < one_entries (matrix_in file) → Err (refused reason.Workspace 0) ≡ answered (Ok (shape n m)) file S room
  unfolding answered
  no_room two known l = rw (a_group two known, lt-ltb room (one_entries (matrix_in file)) l)

  pub all_tested : Splittable file S n m room → split_of (matrix_in file) S ≡ answered (Ok (shape n m)) file S room
  unfolding answered
  all_tested s = rw (a_group s.two ((within_⊆ S (all n)).1 s.known), le-ltb room (one_entries (matrix_in file)) s.long)

-- ---- what the search is given, and what it finds

module _ {file : List ℕ} {S n m room : ℕ} (f : File file) (s : Splittable file S n m room) where
  taxa_few : n ≤ 64
  taxa_few = few_taxa f s.taken

  below_n : S < 2 ^ n
  below_n = omega (arith, ⊆-≤ s.known, all_< n)

  two_of_n : 1 < count n S
  two_of_n = omega (arith, s.two, count_width taxa_few below_n)

  module _ {x : Loaded} (h : on.Holds file n m x) where
    pub given : on.Given x S
    given =
        record {
          taxa = x.few_taxa;
          columns = omega (arith, h.sized, few_columns f s.taken);
          weights = omega arith;
          ones = omega (arith, h.parallel.ones);
          zeros = omega (arith, h.parallel.zeros);
          group = rw h.taxa_are below_n;
          two = rw h.taxa_are two_of_n;
          positive = subst Positive (sym h.stand_for) (taken_sound f s.taken).positive;
          tabled = h.tabled;
        }

    -- The search uses no more numbers than there are 1s.
    pub arcs_fit : {k : ℕ} → k ≡ one_entries (matrix_in file) → on.arcs x S ≤ k
    unfolding one_entries
    arcs_fit many =
        let long = h.sized ∙ sym (taken_count f s.taken) in
        rw (many, ← long, ← h.is) (arcs_ones (length (on.weights x)) (on.columns x) S)

  -- The method's answer for multiplicities and columns.
  abbrev taken_of : (ℕ → ℕ) → ℕ → (ℕ → Column) → Result Split Refusal
  taken_of μ k cols = Ok (record { cost = split_cost 64 μ k cols S; side = side 64 μ k cols S; other = parted 64 S (side 64 μ k cols S) })

  pub found : {x : Loaded} {cost t A : ℕ} → on.Holds file n m x → IsSplit (on.multiplicities x) x.m (on.columns x) S cost A t
      → Ok (record { cost = cost; side = A; other = t }) ≡ split_of (matrix_in file) S
  unfolding split_of
  found {x} h d =
      (λ i. Ok (record { cost = d.is_cost i; side = d.is_side i; other = d.is_parted i }))
      ∙ (λ i. taken_of (h.stand_for i) ((h.columns_are ∙ sym (taken_count f s.taken)) i) (h.is i))

-- ---- what is left of the workspace

-- Of numbers that were cleared, fewer are cleared again.
pub still_cleared : {j k : ℕ} (ws : List ℤ) {ws' ws'' : List ℤ} → j ≤ k → k ≤ length ws → ws' ≡ cleared k ws → ws'' ≡ cleared j ws' → ws'' ≡ cleared k ws
still_cleared {j} {k} ws l long first e = e ∙ ap (cleared j) first ∙ (clear_less l (cleared_clear k ws long)).is

pub cleared_after : (file : List ℕ) (S : ℕ) (ws : List ℤ) {k : ℕ} {r : Result Split Refusal} → k ≡ one_entries (matrix_in file) → r ≡ split_of (matrix_in file) S
    → cleared k ws ≡ workspace_after file r ws
unfolding workspace_after split_of
cleared_after file S ws many e = rw e (ap (λ (k : ℕ). cleared k ws) many)

pub left_alone : (file : List ℕ) (why : Refusal) (ws : List ℤ) → ws ≡ workspace_after file (Err why) ws
unfolding workspace_after
left_alone file why ws = refl

-- ---- the whole answer

module _ (file : List ℕ) (S room : ℕ) where
  pub file_refused : (why : Refusal) → Err why ≡ answered (Err why) file S room
  unfolding answered
  file_refused why = refl

  pub outcome : {k : Result Shape Refusal} {r : Result Split Refusal} → k ≡ checked file → r ≡ answered k file S room → (r ≡ divided file S room) × (returned r ≡ split_numbers file S room)
  unfolding divided
  outcome e a = let whole = a ∙ ap (λ (k : Result Shape Refusal). answered k file S room) e in (whole, ap returned whole)
