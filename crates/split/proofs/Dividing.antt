-- What the search finds with n taxa is the method's split with sets of 64 (`found_split`); with its flips and its parts it is what a group hands on
-- (`handed_on`). And what is left of the workspace (`used_cleared`).
use mathlib.Core.Path.{◌≡◌, sym, ap, ap₂, ◌∙◌, subst}
use mathlib.Core.List.{List, ◌++◌}
use Prim.Native.Nat.{ℕ, ◌^◌, ◌<◌}
use native.Mathlib.Omega.{arith}
use lib.IntN.{ℤ}
use lib.ListN.{length, drop}
use Rattle.taxa.specs.Sets.{◌⊆◌, ◌∖◌, Positive, multiplicity_in}
use Rattle.taxa.proofs.Members.{low_bound}
use Rattle.method.specs.Split.{Column, side, parted, division_cost, flipped, parts}
use Rattle.method.proofs.Listing.{side_rule}
use Rattle.method.proofs.Width.{cost_width, side_width, parted_width}
use Rattle.search.specs.Search.{cols_of, Given, DividedByFlow}
use Rattle.search.specs.Workspace.{cleared, Kept}
use Rattle.search.proofs.Workspace.{cleared_again}
use Rattle.split.specs.inner.Handing.{Parallel, HandsOn}
use Rattle.split.specs.inner.Parts.{Listed}
use Rattle.split.specs.Groups.{IsSplit}

module _ {ws P os zs : List ℕ} {S n m : ℕ} (g : Given ws P os zs S n m) where
  pub found_split : {flows : List ℤ} {cost t A : ℕ} → DividedByFlow ws P os zs S n m flows cost t A → IsSplit (multiplicity_in P) m (cols_of ws os zs) S cost A t
  found_split {A = A} d = record {
    is_cost = d.is_cost ∙ cost_width (multiplicity_in P) g.taxa g.group m cols inside ∙ ap (division_cost 64 (multiplicity_in P) m cols S) same;
    is_side = same;
    is_parted = d.is_parted ∙ ap (parted n S) d.is_side ∙ parted_width (multiplicity_in P) g.taxa g.group g.two m cols;
  }
    where
      cols : ℕ → Column
      cols = cols_of ws os zs

      inside : A ⊆ S
      inside = subst (λ (X : ℕ). X ⊆ S) (sym d.is_side) (side_rule n (multiplicity_in P) m cols S g.group g.two).is_division.inside

      same : A ≡ side 64 (multiplicity_in P) m cols S
      same = d.is_side ∙ side_width (multiplicity_in P) g.taxa g.group g.two m cols

pub t_small : {μ : ℕ → ℕ} {m : ℕ} {cols : ℕ → Column} {S cost A t : ℕ} → IsSplit μ m cols S cost A t → t < 2 ^ 32
t_small {μ} {m} {cols} {S} s = omega (arith, s.is_parted, low_bound 64 (S ∖ side 64 μ m cols S))

-- The numbers that the search changed are cleared, as many as it says.
pub used_cleared : {arcs k : ℕ} {ws ws' ws'' : List ℤ} → arcs ≡ k → Kept k ws ws' → ws'' ≡ cleared arcs ws' → ws'' ≡ cleared k ws
used_cleared {ws' = ws'} many kept e = e ∙ ap (λ (j : ℕ). cleared j ws') many ∙ cleared_again kept

module _ {ws P os zs os' zs' : List ℕ} {S cost A t : ℕ} (pos : Positive (multiplicity_in P)) (s : IsSplit (multiplicity_in P) (length ws) (cols_of ws os zs) S cost A t) where
  pub handed_on : {list list' : List ℕ} {number : ℕ} → cols_of ws os' zs' ≡ flipped 64 (multiplicity_in P) (length ws) (cols_of ws os zs) S A → Parallel ws os' zs' → Listed os' zs' S list list' number
      → HandsOn ws P os zs os' zs' S list list' cost number
  handed_on {list} {number = number} flips p l =
      let made = flips ∙ ap (flipped 64 (multiplicity_in P) (length ws) (cols_of ws os zs) S) s.is_side in
      let remain = ap₂ (λ (m : ℕ) (cols : ℕ → Column). parts 64 (multiplicity_in P) m cols S) p.ones made in
      record {
        is_cost = s.is_cost;
        columns = made;
        parallel = p;
        many = l.many (multiplicity_in P) pos ws ∙ ap length remain;
        parts = l.list (multiplicity_in P) pos ws ∙ ap (λ (Ps : List ℕ). Ps ++ drop number list) remain;
      }
