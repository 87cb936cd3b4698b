-- The rules of an answer as tests (document 01, the table of refusals): for each record the first refusal that it meets,
-- "by number", or none. Groups and flips are judged against the records before them. proofs/Meaning.antt has that these are the rules of Lawful.antt.
use Rattle.std.specs.Prelude.{Bool, true, ◌||◌, ◌&&◌, not, cond, List, ℕ, zero, suc, ◌+◌, ltb, eqb, get_or, Option, Some, None}
use Rattle.taxa.specs.Sets.{◌∩◌, ◌∪◌, within, count, low, all}
use Rattle.taxa.specs.Sum.{sum}
use Rattle.record.specs.declared.refusal.Reason.{Reason}
use Rattle.record.specs.declared.refusal.Reason.TheVariants.{TaxonCount, ColumnCount, UnknownTaxon, Groups, Flips, Total}

-- "The head counts any for n = 1, or outside 1 to n-1 for larger n": whether it does not.
unfoldable pub counted : ℕ → ℕ → Bool
counted n groups = cond (eqb n 1) (eqb groups 0) (ltb 0 groups && ltb groups n)

-- The head: 3, 4, 12, and 13 if it counts more flips than columns, or than there are entries of the list.
unfoldable pub head_fault : ℕ → ℕ → ℕ → ℕ → ℕ → Option Reason
head_fault n m groups flips listed =
    cond (eqb n 0 || ltb 64 n) (Some TaxonCount)
    (cond (ltb 256 m) (Some ColumnCount)
    (cond (counted n groups)
    (cond (ltb m flips || ltb listed flips) (Some Flips) None)
    (Some Groups)))

-- "By lowest taxon, larger first where that is equal, none twice": whether x may stand right after y.
unfoldable pub follows : ℕ → ℕ → Bool
follows y x = ltb (low 64 y) (low 64 x) || (eqb (low 64 y) (low 64 x) && ltb (count 64 x) (count 64 y))

-- "Where n is 2 or more the first is all n taxa": whether group i may stand where it does.
unfoldable pub placed : ℕ → List ℕ → ℕ → Bool
placed n taxa zero = eqb (get_or taxa 0 0) (all n)
placed n taxa (suc i) = follows (get_or taxa i 0) (get_or taxa (suc i) 0)

-- "Any two are nested or disjoint."
unfoldable pub compatible : ℕ → ℕ → Bool
compatible x y = within x y || (within y x || eqb (x ∩ y) 0)

-- Whether x is compatible with each of the first k groups.
unfoldable pub compatible_all : List ℕ → ℕ → ℕ → Bool
compatible_all taxa x zero = true
compatible_all taxa x (suc k) = compatible_all taxa x k && compatible (get_or taxa k 0) x

-- Group i: 6 for "a taxon n or above", 12 for "groups break their rules" ("groups have two or more taxa").
unfoldable pub group_fault : ℕ → List ℕ → ℕ → Option Reason
group_fault n taxa i =
    cond (within (get_or taxa i 0) (all n))
    (cond (ltb 1 (count 64 (get_or taxa i 0)) && (placed n taxa i && compatible_all taxa (get_or taxa i 0) i)) None (Some Groups))
    (Some UnknownTaxon)

-- "Flips stand by rising column": the least column that entry j may have.
unfoldable pub floor_of : List ℕ → ℕ → ℕ
floor_of columns zero = 0
floor_of columns (suc j) = get_or columns j 0 + 1

-- "Column m or above, not rising, both sets empty, shared taxon": whether none of these.
unfoldable pub kept : ℕ → ℕ → ℕ → ℕ → ℕ → Bool
kept m floor column raised lowered =
    (ltb column m && not (ltb column floor)) && (not (eqb (raised ∪ lowered) 0) && eqb (raised ∩ lowered) 0)

-- One flips record: 6 for "a taxon n or above", 13 for "flips break their rules".
unfoldable pub entry_fault : ℕ → ℕ → ℕ → ℕ → ℕ → ℕ → Option Reason
entry_fault n m floor column raised lowered =
    cond (within raised (all n) && within lowered (all n))
    (cond (kept m floor column raised lowered) None (Some Flips))
    (Some UnknownTaxon)

-- The sum of the split costs of the first groups.
abbrev pub sum_of : List ℕ → ℕ → ℕ
sum_of costs groups = sum groups (λ i. get_or costs i 0)

-- The end record: 14 where "total is not the sum of costs".
abbrev pub total_fault : ℕ → List ℕ → ℕ → Option Reason
total_fault total costs groups = cond (eqb total (sum_of costs groups)) None (Some Total)
