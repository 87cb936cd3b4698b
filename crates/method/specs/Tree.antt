-- The build (document 01): "The tree starts with all taxa: a group hands its parts on, and each part is again a group, until one taxon is left."
use Rattle.std.specs.Prelude.{◌≡◌, Bool, true, false, ◌&&◌, cond, ◌↔◌, ◌⊎◌, ℕ, zero, suc, ◌+◌, ◌*◌, ◌^◌, ◌≤◌, ◌<◌, ltb, eqb, length, get_or}
use mathlib.Core.List.{List, [], ◌∷◌, ◌++◌, Memᴰ}
use Rattle.taxa.specs.Sum.{sum}
use Rattle.taxa.specs.Sets.{◌∈◌, ◌∉◌, ◌⊆◌, Disjoint, ◌∩◌, ◌∖◌, mass, Positive, multiplicity, count, sizes, low, all}
use Rattle.taxa.specs.Groups.{NestedOrDisjoint, Before}
use Rattle.method.specs.Split.{Column, raise, lower, Linked, split_cost, after, split_parts}

-- ---- the walk

-- "group: taxa (8), split cost (4)".
pub record Group : Type 0 where
  pub taxa : ℕ
  pub cost : ℕ

-- What a walk leaves: the columns, and the groups that it came to, each before those below it.
pub record Walk : Type 0 where
  pub columns : ℕ → Column
  pub groups : List Group

-- A walk that comes to no group.
abbrev pub leaf : (ℕ → Column) → Walk
leaf cols = record { columns = cols; groups = [] }

-- Each set of a list walked by g, from the columns that the one before left.
unfoldable pub walked : ((ℕ → Column) → ℕ → Walk) → (ℕ → Column) → List ℕ → Walk
walked g cols [] = leaf cols
walked g cols (P ∷ Ps) =
    let one = g cols P in
    let rest = walked g one.columns Ps in
    record { columns = rest.columns; groups = one.groups ++ rest.groups }

module _ (k : ℕ) (μ : ℕ → ℕ) (m : ℕ) where
  -- "a group hands its parts on": S split, and its parts walked by g. "Only a split changes a column."
  unfoldable pub node : ((ℕ → Column) → ℕ → Walk) → (ℕ → Column) → ℕ → Walk
  node g cols S =
      let below = walked g (after k μ m cols S) (split_parts k μ m cols S) in
      record { columns = below.columns; groups = record { taxa = S; cost = split_cost k μ m cols S } ∷ below.groups }

  -- "each part is again a group, until one taxon is left", at most f deep.
  unfoldable pub grown : ℕ → (ℕ → Column) → ℕ → Walk
  grown zero cols S = leaf cols
  grown (suc f) cols S = elim (ltb 1 (count k S)) [ false ↦ leaf cols | true ↦ node (grown f) cols S ]

  -- The build of S: as deep as it has taxa, which is enough (`build_node`).
  unfoldable pub build : (ℕ → Column) → ℕ → Walk
  build cols S = grown (count k S) cols S

  -- In a walk over sets the turn comes to P, with the columns cols' as left by those before it.
  pub data Turn : (ℕ → Column) → List ℕ → (ℕ → Column) → ℕ → Type 0 where
    now : {cols : ℕ → Column} {P : ℕ} {Ps : List ℕ} → Turn cols (P ∷ Ps) cols P
    later : {cols cols' : ℕ → Column} {P Q : ℕ} {Ps : List ℕ} → Turn (build cols P).columns Ps cols' Q → Turn cols (P ∷ Ps) cols' Q

  -- The split of S hands P on, whose turn comes with the columns mid.
  pub record HandsOn (cols : ℕ → Column) (S : ℕ) (mid : ℕ → Column) (P : ℕ) : Type 0 where
    pub two : 1 < count k S
    pub turn : Turn (after k μ m cols S) (split_parts k μ m cols S) mid P

  -- The build of S from the columns cols comes to S' with the columns cols', "as flipped so far": to S itself, and to all that the build of a part does.
  pub data Comes : (ℕ → Column) → ℕ → (ℕ → Column) → ℕ → Type 0 where
    here : {cols : ℕ → Column} {S : ℕ} → Comes cols S cols S
    below : {cols mid cols' : ℕ → Column} {S P S' : ℕ} → HandsOn cols S mid P → Comes mid P cols' S' → Comes cols S cols' S'

-- ---- the order of groups

-- The groups of a list that a test keeps.
unfoldable pub kept : (Group → Bool) → List Group → List Group
kept p [] = []
kept p (g ∷ gs) = cond (p g) (g ∷ kept p gs) (kept p gs)

-- "They stand by lowest taxon, larger first where that is equal": for each taxon below n, rising, the groups of which it is the lowest, as walked.
unfoldable pub ordered : ℕ → ℕ → List Group → List Group
ordered k zero gs = []
ordered k (suc i) gs = ordered k i gs ++ kept (λ g. eqb (low k g.taxa) i) gs

-- Each element of a list stands in the relation R to all after it.
pub data Line {A : Type 0} (R : A → A → Type 0) : List A → Type 0 where
  end : Line R []
  and : {x : A} {xs : List A} → ((y : A) → Memᴰ y xs → R x y) → Line R xs → Line R (x ∷ xs)

-- What that sentence says of two groups, the first before the second.
abbrev pub InFileOrder : ℕ → Group → Group → Type 0
InFileOrder k g h = Before k g.taxa h.taxa

-- ---- the answer

-- "flips: column (2), raised set (8), lowered set (8)".
pub record Flips : Type 0 where
  pub column : ℕ
  pub raised : ℕ
  pub lowered : ℕ

-- Of a column before and after: what was 0 and is 1, and what was 1 and is 0.
abbrev pub flips_of : ℕ → Column → Column → Flips
flips_of c old new = record { column = c; raised = old.zeros ∩ new.ones; lowered = old.ones ∩ new.zeros }

-- "Flips stand by rising column, only columns with a flip": those of the first m columns.
unfoldable pub flip_list : ℕ → (ℕ → Column) → (ℕ → Column) → List Flips
flip_list zero old new = []
flip_list (suc c) old new =
    let f = flips_of c (old c) (new c) in
    flip_list c old new ++ cond (eqb f.raised 0 && eqb f.lowered 0) [] (f ∷ [])

-- "Total is the sum of the split costs."
unfoldable pub total : List Group → ℕ
total [] = 0
total (g ∷ gs) = g.cost + total gs

-- A matrix: n, its multiplicities, "one multiplicity per taxon", none "where it's absent", and its columns.
pub record Matrix : Type 0 where
  pub taxa : ℕ
  pub multiplicities : List ℕ
  pub columns : List Column

-- An answer: its groups in file order, its flips, and its total.
pub record Answer : Type 0 where
  pub groups : List Group
  pub flips : List Flips
  pub total : ℕ

-- Column c of a list; past its end, one of unknowns.
unfoldable pub column : List Column → ℕ → Column
column cs c = get_or cs c (record { weight = 0; ones = 0; zeros = 0 })

-- "one number for each 1 in the matrix" (document 02, C-13): how many 1-entries there are.
unfoldable pub one_entries : Matrix → ℕ
one_entries M = sizes (length M.columns) (λ c. (column M.columns c).ones)

-- The answer to a matrix.
unfoldable pub answer : Matrix → Answer
answer M =
    let n = M.taxa in
    let m = length M.columns in
    let cols = column M.columns in
    let walk = build 64 (multiplicity M.multiplicities) m cols (all n) in
    let groups = ordered 64 n walk.groups in
    record { groups = groups; flips = flip_list m cols walk.columns; total = total groups }

-- ---- words of the promises

-- What the check of a matrix file sees to (refusals 3 to 7 and 21).
pub record Sound (M : Matrix) : Type 0 where
  pub some : 0 < M.taxa
  pub few : M.taxa ≤ 64
  pub positive : Positive (multiplicity M.multiplicities)
  pub merged : sum M.taxa (multiplicity M.multiplicities) ≤ 127
  pub columns_few : length M.columns ≤ 256
  pub weighs : (c : ℕ) → c < length M.columns → 0 < (column M.columns c).weight
  pub light : (c : ℕ) → c < length M.columns → (column M.columns c).weight ≤ 65535
  pub ones_in : (c : ℕ) → c < length M.columns → (column M.columns c).ones ⊆ all M.taxa
  pub zeros_in : (c : ℕ) → c < length M.columns → (column M.columns c).zeros ⊆ all M.taxa
  pub proper : (c : ℕ) → c < length M.columns → Disjoint (column M.columns c).ones (column M.columns c).zeros

-- The build of a matrix comes to the group S, of two or more taxa, with the columns cols.
pub record ComesTo (M : Matrix) (cols : ℕ → Column) (S : ℕ) : Type 0 where
  pub comes : Comes 64 (multiplicity M.multiplicities) (length M.columns) (column M.columns) (all M.taxa) cols S
  pub two : 1 < count 64 S

-- What document 01 says of the parts Ps of S that a division with the side A leaves, by the columns after it: "the connected components of what remains",
-- none empty, no two with a common taxon, together all of S; they are at least two, and each lies on one side.
pub record Components (k m : ℕ) (cols : ℕ → Column) (S A : ℕ) (Ps : List ℕ) : Type 0 where
  pub linked : {P i j : ℕ} → Memᴰ P Ps → i ∈ P → j ∈ P ↔ Linked k m cols S i j
  pub some : {P : ℕ} → Memᴰ P Ps → 0 < P
  pub disjoint : Line Disjoint Ps
  pub inside : {P : ℕ} → Memᴰ P Ps → P ⊆ S
  pub cover : {i : ℕ} → i ∈ S → (P : ℕ) × Memᴰ P Ps × i ∈ P
  pub two : 2 ≤ length Ps
  pub sides : {P : ℕ} → Memᴰ P Ps → P ⊆ A ⊎ P ⊆ S ∖ A

-- The columns with the flips of a list made.
unfoldable pub made : List Flips → (ℕ → Column) → ℕ → Column
made [] cols = cols
made (f ∷ fs) cols = made fs (λ c. cond (eqb c f.column) (lower f.lowered (raise f.raised (cols c))) (cols c))

-- The flips of a list: an entry's "weighs the column's weight times the taxon's multiplicity".
unfoldable pub weighed_flips : ℕ → (ℕ → ℕ) → (ℕ → Column) → List Flips → ℕ
weighed_flips k μ cols [] = 0
weighed_flips k μ cols (f ∷ fs) = (cols f.column).weight * (mass k μ f.raised + mass k μ f.lowered) + weighed_flips k μ cols fs

-- "A clade is a group or a single taxon", of the taxa X.
pub data Clade (X : ℕ) (gs : List Group) (Y : ℕ) : Type 0 where
  group : (g : Group) → Memᴰ g gs → Y ≡ g.taxa → Clade X gs Y
  single : (i : ℕ) → i ∈ X → Y ≡ 2 ^ i → Clade X gs Y

-- A column's unknowns in X can be chosen so that its 1s in X are those of F.
pub record Fills (X : ℕ) (c : Column) (F : ℕ) : Type 0 where
  pub ones : {i : ℕ} → i ∈ X → i ∈ c.ones → i ∈ F
  pub zeros : {i : ℕ} → i ∈ X → i ∈ F → i ∉ c.zeros

-- They can be so that its 1-set in X is empty or a clade.
abbrev pub Filled : (ℕ → Type 0) → ℕ → Column → Type 0
Filled clade X c = (F : ℕ) × (F ≡ 0 ⊎ clade F) × F ⊆ X × Fills X c F

-- Any two of a family of sets are so.
pub record Laminar (family : ℕ → Type 0) : Type 0 where
  pub pair : {X Y : ℕ} → family X → family Y → NestedOrDisjoint X Y

-- A rooted tree over the taxa X, as its clades: the root is X, each taxon is a leaf, none is empty or has another taxon, any two are nested or disjoint.
pub record RootedTree (X : ℕ) (clade : ℕ → Type 0) : Type 0 where
  pub root : clade X
  pub leaf : {i : ℕ} → i ∈ X → clade (2 ^ i)
  pub some : {Y : ℕ} → clade Y → 0 < Y
  pub inside : {Y : ℕ} → clade Y → Y ⊆ X
  pub laminar : Laminar clade

-- It fits m columns: each can be filled to the empty set or a clade of it.
abbrev pub Fits : (ℕ → Type 0) → ℕ → ℕ → (ℕ → Column) → Type 0
Fits clade m X cols = (c : ℕ) → c < m → Filled clade X (cols c)
