-- Lists of groups and of flips, as the parallel lists of numbers that hold them.
use Rattle.std.specs.Prelude.{List, [], ◌∷◌, ◌++◌, ℕ, zero, suc, get_or}
use Rattle.method.specs.Tree.{Group, Flips}
use Rattle.tree.specs.declared.group_list.Groups.{Groups}

-- The first k groups of two lists.
unfoldable pub first_groups : List ℕ → List ℕ → ℕ → List Group
first_groups taxa costs zero = []
first_groups taxa costs (suc k) = first_groups taxa costs k ++ (record { taxa = get_or taxa k 0; cost = get_or costs k 0 } ∷ [])

-- The groups that a value holds.
abbrev pub listed : Groups → List Group
listed groups = first_groups groups.taxa groups.costs groups.count

-- The first k flips of three lists.
unfoldable pub first_flips : List ℕ → List ℕ → List ℕ → ℕ → List Flips
first_flips columns raised lowered zero = []
first_flips columns raised lowered (suc k) =
    first_flips columns raised lowered k ++ (record { column = get_or columns k 0; raised = get_or raised k 0; lowered = get_or lowered k 0 } ∷ [])
