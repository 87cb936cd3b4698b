-- The packed numbers that C gets, one of 64 bits for each call. Bit 63 says whether the call was refused. If it was, bits 0 to 7 are the refusal's number
-- and bits 8 to 62 its place. If not: of the check, n is in bits 0 to 15 and m in bits 16 to 31; of the build, the tree and the flips, the total is in bits 0
-- to 31 and the length written in bits 32 to 62, where every writing has it; of the score, lowers are in bits 0 to 30 and raises in bits 31 to 61. Of source
-- trees the matrix file's length is in bits 32 to 62 and the name list's in bits 0 to 31; of the check of a name list, bits 0 to 62 are how many names there
-- are. What the split and the reading of an answer find does not fit, and is put into numbers that are lent for it.
use Rattle.std.specs.Prelude.{◌≡◌, List, ℕ, zero, suc, ◌+◌, ◌-◌, ◌*◌, ◌^◌, min, ℤ, get_or, set, Result, Ok, Err}
use Rattle.record.specs.declared.refusal.Refusal.{Refusal}
use Rattle.answer.specs.declared.Answer.{Answer}
use Rattle.entries.specs.declared.Flip.{Flip}
use Rattle.entries.specs.Entries.{ReadsEntries, WritesEntries}
use Rattle.split.specs.Operation.{Splits}
use Rattle.tree.specs.Build.{Builds}
use Rattle.tree.specs.Tree.{GivesTree}
use Rattle.tree.specs.Flips.{GivesFlips}
use Rattle.newick.specs.Read as newick
use Rattle.spelling.specs.Write.{Spells}
use Rattle.record.specs.Refusals.{refusal_number}
use Rattle.matrix.specs.declared.Shape.{Shape}
use Rattle.search.specs.declared.Split.{Split}
use Rattle.tree.specs.declared.Built.{Built}
use Rattle.score.specs.declared.Sums.{Sums}
use Rattle.newick.specs.declared.Derived.{Derived}

-- A refusal, packed.
abbrev pub packed_refusal : Refusal → ℕ
packed_refusal why = 2 ^ 63 + (refusal_number why.reason + 256 * why.place)

-- What the check answers, packed.
abbrev pub packed : Result Shape Refusal → ℕ
packed (Ok it) = it.n + 65536 * it.m
packed (Err why) = packed_refusal why

-- What the build answers, and the tree and the flips.
abbrev pub packed_build : Result Built Refusal → ℕ
packed_build (Ok it) = it.total + 2 ^ 32 * it.size
packed_build (Err why) = packed_refusal why

-- What the split answers: 0, and the rest where it is lent.
abbrev pub packed_split : Result Split Refusal → ℕ
packed_split (Ok it) = 0
packed_split (Err why) = packed_refusal why

-- What reading answers: 0, and the rest where it is lent.
abbrev pub packed_read : Result Answer Refusal → ℕ
packed_read (Ok answer) = 0
packed_read (Err why) = packed_refusal why

-- What writing answers.
abbrev pub packed_write : Result ℕ Refusal → ℕ
packed_write (Ok size) = 2 ^ 32 * size
packed_write (Err why) = packed_refusal why

-- What the score answers.
abbrev pub packed_score : Result Sums Refusal → ℕ
packed_score (Ok it) = it.lowers.0 + 2 ^ 31 * it.raises.0
packed_score (Err why) = packed_refusal why

-- No bound is set to a text or a name list. A refusal so far out that 55 bits cannot hold its place is told at the last place that they can.
abbrev pub last_place : ℕ
last_place = 2 ^ 55 - 1

abbrev pub told : Refusal → Refusal
told why = record { reason = why.reason; place = min why.place last_place }

-- What the check of a name list answers.
abbrev pub packed_names : Result ℕ Refusal → ℕ
packed_names (Ok count) = count
packed_names (Err why) = packed_refusal (told why)

-- What reading source trees answers.
abbrev pub packed_trees : Result Derived Refusal → ℕ
packed_trees (Ok it) = it.names + 2 ^ 32 * it.matrix
packed_trees (Err why) = packed_refusal (told why)

-- What writing as Newick answers.
abbrev pub packed_text : Result ℕ Refusal → ℕ
packed_text (Ok size) = 2 ^ 32 * size
packed_text (Err why) = packed_refusal (told why)

-- What a split's three lent numbers are at the end: its cost, its side A and t; on a refusal what they were.
abbrev pub result_after : Result Split Refusal → List ℕ → List ℕ
result_after (Ok it) result = set (set (set result 0 it.cost) 1 it.side) 2 it.other
result_after (Err why) result = result

-- Where the groups start among a reading's numbers, and where their costs do.
abbrev pub groups_at : ℕ
groups_at = 5

abbrev pub costs_at : ℕ
costs_at = 68

-- The first k groups, and their costs, in their places.
unfoldable pub with_groups : ℕ → List ℕ → List ℕ → List ℕ → List ℕ
with_groups zero taxa costs result = result
with_groups (suc k) taxa costs result = set (set (with_groups k taxa costs result) (groups_at + k) (get_or taxa k 0)) (costs_at + k) (get_or costs k 0)

-- What a reading's 131 lent numbers are at the end: n, m, the two counts and the total, then the value's 63 groups, then its 63 costs; on a refusal what
-- they were.
abbrev pub value_after : Result Answer Refusal → List ℕ → List ℕ
value_after (Ok a) result =
    with_groups 63 a.taxa a.costs (set (set (set (set (set result 0 a.n) 1 a.m) 2 a.groups) 3 a.flips) 4 a.total)
value_after (Err why) result = result

-- A number that is some answer of an operation, packed, with what the operation promises of that answer.
pub record Packs {A : Type 0} (pack : A → ℕ) (Promised : A → Type 0) (v : ℕ) : Type 0 where
  pub answer : A
  pub packs : v ≡ pack answer
  pub promised : Promised answer

-- What the build promises C.
abbrev pub BuildsPacked : List ℕ → List ℤ → List ℕ → ℕ → List ℤ → List ℕ → Type 0
BuildsPacked file ws out v ws' out' = Packs packed_build (λ r. Builds file ws out r ws' out') v

-- What the tree promises C; its answer is packed as the build's.
abbrev pub GivesTreePacked : List ℕ → List ℤ → List ℕ → ℕ → List ℤ → List ℕ → Type 0
GivesTreePacked file ws out v ws' out' = Packs packed_build (λ r. GivesTree file ws out r ws' out') v

-- What the flips promise C, the same way.
abbrev pub GivesFlipsPacked : List ℕ → List ℕ → List ℤ → List ℕ → ℕ → List ℤ → List ℕ → Type 0
GivesFlipsPacked file tree ws out v ws' out' = Packs packed_build (λ r. GivesFlips file tree ws out r ws' out') v

-- What the split promises C; three numbers are lent for what it finds.
abbrev pub SplitsPacked : List ℕ → ℕ → List ℤ → List ℕ → ℕ → List ℤ → List ℕ → Type 0
SplitsPacked file S ws result v ws' result' = Packs packed_split (λ r. Splits file S ws r ws' × (result' ≡ result_after r result)) v

-- What reading promises C; 131 numbers are lent for what it reads beside the flips.
abbrev pub ReadsPacked : List ℕ → List Flip → List ℕ → ℕ → List Flip → List ℕ → Type 0
ReadsPacked file list result v list' result' =
    Packs packed_read (λ r. ReadsEntries file list r list' × (result' ≡ value_after r result)) v

-- What writing promises C.
abbrev pub WritesPacked : Answer → List Flip → List ℕ → ℕ → List ℕ → Type 0
WritesPacked answer list out v out' = Packs packed_write (λ r. WritesEntries answer list out r out') v

-- What reading source trees promises C.
abbrev pub ReadsNewickPacked : List ℕ → List ℕ → List ℕ → ℕ → List ℕ → List ℕ → Type 0
ReadsNewickPacked text matrix names v matrix' names' = Packs packed_trees (λ r. newick.Reads text matrix names r matrix' names') v

-- What writing as Newick promises C.
abbrev pub WritesNewickPacked : List ℕ → List ℕ → List ℕ → ℕ → List ℕ → Type 0
WritesNewickPacked answer names out v out' = Packs packed_text (λ r. Spells answer names out r out') v
