-- A lawful answer: the rules that document 01 states of an answer ("Records", and refusals 3, 4, 6, 12, 13, 14), said of its content.
use Rattle.std.specs.Prelude.{◌≡◌, ℕ, ◌-◌, ◌^◌, ◌≤◌, ◌<◌, length, get_or}
use Rattle.taxa.specs.Sets.{◌⊆◌, Disjoint, count, all}
use Rattle.taxa.specs.Groups.{NestedOrDisjoint, Before}
use Rattle.taxa.specs.Sum.{sum}
use Rattle.answer.specs.Content.{Content}

-- The lists are as long as the counts say, and the total fits its 4 bytes.
pub record Sized (c : Content) : Type 0 where
  pub taxa_sized : length c.taxa ≡ c.groups
  pub costs_sized : length c.costs ≡ c.groups
  pub columns_sized : length c.columns ≡ c.flips
  pub raised_sized : length c.raised ≡ c.flips
  pub lowered_sized : length c.lowered ≡ c.flips
  pub total_fits : c.total < 2 ^ 32

-- "n is 1 to 64, m is 0 to 256"; no group for n = 1, 1 to n - 1 groups for larger n; no more flipped columns than m.
pub record LawfulHead (c : Content) : Type 0 where
  pub some_taxa : 1 ≤ c.n
  pub few_taxa : c.n ≤ 64
  pub few_columns : c.m ≤ 256
  pub none_for_one : c.n ≡ 1 → c.groups ≡ 0
  pub some_groups : 2 ≤ c.n → 1 ≤ c.groups
  pub few_groups : 2 ≤ c.n → c.groups ≤ c.n - 1
  pub few_flips : c.flips ≤ c.m

-- "Groups have two or more taxa", none n or above; they stand in order, "none twice"; "any two are nested or disjoint", "the first is all n taxa".
pub record LawfulGroups (c : Content) : Type 0 where
  pub two_or_more : (i : ℕ) → i < c.groups → 2 ≤ count 64 (get_or c.taxa i 0)
  pub known : (i : ℕ) → i < c.groups → get_or c.taxa i 0 ⊆ all c.n
  pub in_order : (i j : ℕ) → i < j → j < c.groups → Before 64 (get_or c.taxa i 0) (get_or c.taxa j 0)
  pub nested_or_disjoint : (i j : ℕ) → i < c.groups → j < c.groups → NestedOrDisjoint (get_or c.taxa i 0) (get_or c.taxa j 0)
  pub first_is_all : 2 ≤ c.n → get_or c.taxa 0 0 ≡ all c.n

-- "Flips stand by rising column, only columns with a flip; raised and lowered share no taxon"; no column m or above, no taxon n or above.
pub record LawfulFlips (c : Content) : Type 0 where
  pub rising : (i j : ℕ) → i < j → j < c.flips → get_or c.columns i 0 < get_or c.columns j 0
  pub column_known : (j : ℕ) → j < c.flips → get_or c.columns j 0 < c.m
  pub not_both_empty : (j : ℕ) → j < c.flips → (get_or c.raised j 0 ≡ 0) × (get_or c.lowered j 0 ≡ 0) → ⊥
  pub apart : (j : ℕ) → j < c.flips → Disjoint (get_or c.raised j 0) (get_or c.lowered j 0)
  pub raised_known : (j : ℕ) → j < c.flips → get_or c.raised j 0 ⊆ all c.n
  pub lowered_known : (j : ℕ) → j < c.flips → get_or c.lowered j 0 ⊆ all c.n

-- A content that keeps all rules; "total is the sum of the split costs".
pub record Lawful (c : Content) : Type 0 where
  pub sized : Sized c
  pub head_lawful : LawfulHead c
  pub groups_lawful : LawfulGroups c
  pub flips_lawful : LawfulFlips c
  pub total_is_sum : c.total ≡ sum c.groups (λ i. get_or c.costs i 0)
