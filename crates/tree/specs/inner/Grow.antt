-- What the functions of the walk hand to each other.
use Rattle.std.specs.Prelude.{◌≡◌, cond, List, [], ◌++◌, ℕ, ◌+◌, ◌*◌, ◌^◌, ◌≤◌, ◌<◌, ltb, ℤ, length, get_or, Result, Ok, Err, ⊤}
use Rattle.taxa.specs.Sets.{Positive, multiplicity_in, Tabled, count}
use Rattle.matrix.specs.Matrix.{columns_at}
use Rattle.matrix.specs.Check.{checked}
use Rattle.method.specs.Split.{Column}
use Rattle.method.specs.Flow.{arc_count}
use Rattle.method.specs.Tree.{Group, Walk, build, Turn, walked, ordered, total, one_entries, column, flip_list, answer}
use Rattle.answer.specs.declared.Answer.{Answer}
use Rattle.answer.specs.Content.{Content, content_of, file_of}
use Rattle.answer.specs.Writing.{writing, put}
use Rattle.search.specs.inner.Places.{Clear}
use Rattle.search.specs.Search.{cols_of}
use Rattle.split.specs.inner.Handing.{Parallel}
use Rattle.split.specs.Columns.{matrix_in}
use Rattle.tree.specs.Lists.{first_groups}
use Rattle.tree.specs.Build.{tree_for}
use Rattle.tree.specs.inner.Lists.{unweighed}
use Rattle.record.specs.Refusals.{refused}
use Rattle.record.specs.declared.refusal.Reason.TheVariants as reason
use Rattle.record.specs.declared.refusal.Refusal.{Refusal}
use Rattle.matrix.specs.Check.{shape}
use Rattle.tree.specs.declared.Built.{Built}

-- What has been tested where a tree grows.
pub record Growable (file : List ℕ) (n m space : ℕ) : Type 0 where
  pub taken : Ok (shape n m) ≡ checked file
  pub places : one_entries (matrix_in file) ≤ space

-- At most 256 columns of at most 64 taxa in three lists, and multiplicities of which none is 0, with their table.
pub record Loaded (ws P os zs : List ℕ) (n : ℕ) : Type 0 where
  pub parallel : Parallel ws os zs
  pub columns : length ws ≤ 256
  pub positive : Positive (multiplicity_in P)
  pub tabled : Tabled P
  pub taxa : n ≤ 64

-- How many arcs the network of a group has.
abbrev pub arcs_in : List ℕ → List ℕ → List ℕ → ℕ → ℕ
arcs_in ws os zs S = arc_count (length ws) (cols_of ws os zs) S

-- And a group of taxa below n, and a workspace whose first numbers, one for each of these arcs, are 0.
pub record Ready (ws P os zs : List ℕ) (S n : ℕ) (space : List ℤ) : Type 0 where
  pub loaded : Loaded ws P os zs n
  pub group : S < 2 ^ n
  pub clear : Clear (arcs_in ws os zs S) space

-- In a walk over sets that holds of the workspace at every turn, with the columns as they are then.
pub record TurnsClear (ws P os zs Ps : List ℕ) (space : List ℤ) : Type 0 where
  pub clear : (mid : ℕ → Column) (Q : ℕ) → Turn 64 (multiplicity_in P) (length ws) (cols_of ws os zs) Ps mid Q → Clear (arc_count (length ws) mid Q) space

-- The walk from a group, on columns in three lists and multiplicities in planes.
abbrev pub walk_from : List ℕ → List ℕ → List ℕ → List ℕ → ℕ → Walk
walk_from ws P os zs S = build 64 (multiplicity_in P) (length ws) (cols_of ws os zs) S

-- The walk over sets, one after the other.
abbrev pub walk_over : List ℕ → List ℕ → List ℕ → List ℕ → List ℕ → Walk
walk_over ws P os zs Ps = walked (build 64 (multiplicity_in P) (length ws)) (cols_of ws os zs) Ps

-- A walk was made: the columns are those that it leaves, its groups stand after those before, and the workspace is as it was.
pub record Grown (ws os zs : List ℕ) (before after : List ℤ) (walk : Walk) (old new : List Group) (at end : ℕ) : Type 0 where
  pub columns : cols_of ws os zs ≡ walk.columns
  pub parallel : Parallel ws os zs
  pub groups : new ≡ old ++ walk.groups
  pub many : end ≡ at + length walk.groups
  pub workspace : after ≡ before

-- Sets of taxa below n, each of fewer than bound, and the lists of parts of all groups below one of them have room.
pub record AllSmall (Ps : List ℕ) (n bound room : ℕ) : Type 0 where
  pub short : (i : ℕ) → i < length Ps → get_or Ps i 0 < 2 ^ n
  pub small : (i : ℕ) → i < length Ps → count 64 (get_or Ps i 0) < bound
  pub fits : (i : ℕ) → i < length Ps → 2 * count 64 (get_or Ps i 0) ≤ room

-- k groups as walked, whose list in file order fits 63 places and whose total fits 4 bytes.
pub record Walked (n : ℕ) (walked paid : List ℕ) (k : ℕ) : Type 0 where
  pub few : length (ordered 64 n (first_groups walked paid k)) ≤ 63
  pub small : total (ordered 64 n (first_groups walked paid k)) < 2 ^ 32

-- A file's m columns.
pub record Flipped (file : List ℕ) (m : ℕ) : Type 0 where
  pub columns : m ≡ length (matrix_in file).columns
  pub few_columns : m ≤ 256
  pub whole : columns_at file + 22 * m ≤ length file

-- The tree that an answer's value holds, whatever flips it counts.
abbrev pub tree_of : Answer → Content
tree_of a = content_of (record { n = a.n; m = a.m; groups = a.groups; flips = 0; total = a.total; taxa = a.taxa; costs = a.costs }) [] [] []

-- A file's tree has grown: a value holds its groups and costs and no flips, and the flips are those that the columns show.
pub record Grew (file : List ℕ) (a : Answer) (os zs : List ℕ) : Type 0 where
  pub tree : tree_of a ≡ tree_for (matrix_in file)
  pub none : a.flips ≡ 0
  pub flips : flip_list a.m (column (matrix_in file).columns) (unweighed os zs) ≡ (answer (matrix_in file)).flips
  pub flipped : Flipped file a.m

-- What writing answers, with the total, as the build's answer.
abbrev pub written_as : ℕ → Result ℕ Refusal → Result Built Refusal
written_as total (Ok size) = Ok (record { size = size; total = total })
written_as total (Err why) = Err why

-- A content was handed to the writing of answers, with room for so many flips.
pub record Answers (c : Content) (entries : ℕ) (out : List ℕ) (r : Result Built Refusal) (out' : List ℕ) : Type 0 where
  pub answers : r ≡ written_as c.total (writing c entries (length out))
  pub output : out' ≡ put (writing c entries (length out)) (file_of c) out

-- What is lent and too short: the workspace (9), or else the output (10).
unfoldable pub lent_checked : ℕ → ℕ → ℕ → ℕ → Result ⊤ Refusal
lent_checked space needed room wanted =
    cond (ltb space needed) (Err (refused reason.Workspace 0)) (cond (ltb room wanted) (Err (refused reason.Room 0)) (Ok tt))
