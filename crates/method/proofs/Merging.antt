-- The same column twice (C-19): merging changes no group, split cost or total, and the flips of the merged column are those of each copy
-- (`merging_same_answer`). A list can be merged until no column stands twice (`all_merged`); one where none does is as it was (`once_stays`).
use mathlib.Core.Path.{◌≡◌, refl, sym, ap, ap₂, ◌∙◌, subst₂}
use mathlib.Core.Logic.{◌↔◌, ◌⊎◌, inl, inr}
use mathlib.Core.List.Memᴰ
use mathlib.Core.List.{List, [], ◌∷◌, ◌++◌, Memᴰ}
use Prim.Native.Nat.{ℕ, zero, suc, ◌+◌, ◌-◌, ◌<◌}
use native.Mathlib.Decide.{dec_lt, ℕ_discrete}
use native.Mathlib.Omega.{arith}
use lib.ListN.{length, length-append}
use lib.Seq.{get_or-append_seam, get_or-append-add}
use Rattle.taxa.specs.Sum.{sum}
use Rattle.taxa.specs.Sets.{◌∩◌, all, multiplicity}
use Rattle.taxa.proofs.Sums.{sum_0, sum_first, sum_some, term_≤}
use Rattle.method.specs.Split.{Column}
use Rattle.method.specs.Tree.{Group, build, ordered, Flips, flip_list, total, Matrix, column, answer}
use Rattle.method.specs.Merging.{Alike, together, PairMerged, pair, Merged, done, more, Once, with_columns, SameAnswer}
use Rattle.method.proofs.FlipList.{flips_are, flips_listed}
use Rattle.method.proofs.Agree.{alike_sym, merged_alike, Adds, Shared, Agree, build_agrees}

-- ---- a list and the list merged

-- What is added up over a list of columns.
abbrev over : (Column → ℕ) → List Column → ℕ
over q cs = sum (length cs) (λ c. q (column cs c))

over-∷ : (q : Column → ℕ) (c : Column) (cs : List Column) → over q (c ∷ cs) ≡ q c + over q cs
unfolding column
over-∷ q c cs = sum_first (length cs) (λ i. q (column (c ∷ cs) i))

over_++ : (q : Column → ℕ) (cs ds : List Column) → over q (cs ++ ds) ≡ over q cs + over q ds
unfolding sum
over_++ q [] ds = omega arith
over_++ q (c ∷ cs) ds = omega (arith, over-∷ q c (cs ++ ds), over_++ q cs ds, over-∷ q c cs)

-- Beside the pair nothing changes.
pair_over : (q : Column → ℕ) {cs ds : List Column} → PairMerged cs ds
    → (rest : ℕ) × (c : Column) × (d : Column) × Alike c d × (over q cs ≡ rest + (q c + q d)) × (over q ds ≡ rest + q (together c d))
pair_over q (pair before c between d after e) = (
  over q before + (over q between + over q after),
  c,
  d,
  e,
  omega (
    arith,
    over_++ q before (c ∷ (between ++ d ∷ after)),
    over-∷ q c (between ++ d ∷ after),
    over_++ q between (d ∷ after),
    over-∷ q d after,
  ),
  omega (arith, over_++ q before (together c d ∷ (between ++ after)), over-∷ q (together c d) (between ++ after), over_++ q between after),
)

merged_sums : {cs ds : List Column} → Merged cs ds → (q : Column → ℕ) → Adds q → over q cs ≡ over q ds
merged_sums done q adds = refl
merged_sums (more p r) q adds = let (rest, c, d, e, l, n) = pair_over q p in omega (arith, adds c d e, merged_sums r q adds)

merged_none : {cs ds : List Column} → Merged cs ds → (q : Column → ℕ) → Shared q → (over q cs ≡ 0) ↔ (over q ds ≡ 0)
merged_none done q shared = (λ h. h, λ h. h)
merged_none (more p r) q shared =
    let (rest, c, d, e, l, n) = pair_over q p in
    let first = shared (together c d) c (merged_alike c d) in
    let second = shared c d e in
    let s = merged_none r q shared in
    (λ h. s.0 (omega arith), λ h. let z = s.1 h in omega arith)

merged_agrees : {cs ds : List Column} → Merged cs ds → Agree (length cs) (length ds) (column cs) (column ds) (column cs) (column ds)
merged_agrees p = record { sums = merged_sums p; none = merged_none p; alike = λ e. e }

-- ---- each column has one that is alike

-- 1 for a column that is alike to d, 0 for any other.
abbrev like : Column → Column → ℕ
like d c = 1 - ((c.ones - d.ones) + (d.ones - c.ones) + ((c.zeros - d.zeros) + (d.zeros - c.zeros)))

like_is : {c d : Column} → 0 < like d c → Alike d c
like_is h = record { ones = omega arith; zeros = omega arith }

-- Where what is shared is 0 in all of the ones if it is in all of the others, each of the ones has one that is alike among the others.
found : (m m' : ℕ) (cols cols' : ℕ → Column)
    → ((q : Column → ℕ) → Shared q → sum m' (λ c. q (cols' c)) ≡ 0 → sum m (λ c. q (cols c)) ≡ 0)
    → (c : ℕ) → c < m → (c' : ℕ) × (c' < m') × Alike (cols c) (cols' c')
found m m' cols cols' none c b =
    let (c', b', l) = sum_some m' (λ i. 0) (λ i. q (cols' i)) (omega (arith, sum_0 m', some (dec_lt 0 (sum m' (λ i. q (cols' i)))))) in
    (c', b', like_is l)
  where
    q : Column → ℕ
    q = like (cols c)

    shared : Shared q
    shared x y e = ap₂ (λ (o z : ℕ). q (record { weight = 0; ones = o; zeros = z })) e.ones e.zeros

    some : Dec (0 < sum m' (λ i. q (cols' i))) → 0 < sum m' (λ i. q (cols' i))
    some (yes h) = h
    some (no h) =
        let itself : q (cols c) ≡ 1 = omega arith in
        absurd (omega (arith, none q shared (omega arith), term_≤ m (λ i. q (cols i)) b))

-- ---- their flips

-- Flips of column c are in the list of m columns: what is up, and what is down.
abbrev Listed : ℕ → (ℕ → Column) → (ℕ → Column) → ℕ → ℕ → ℕ → Type 0
Listed m old new c up down = Memᴰ (record { column = c; raised = up; lowered = down }) (flip_list m old new)

module _ (old new old' new' : ℕ → Column) (m m' : ℕ) where
  -- Columns that are alike before and after have the same flips.
  flips_go : {c c' up down : ℕ} → c' < m' → Alike (old c) (old' c') → Alike (new c) (new' c') → Listed m old new c up down
      → Listed m' old' new' c' up down
  flips_go {c} {c'} {up} {down} b was is l =
      let (a, _, e, s) = flips_are old new m l in
      let at : c ≡ a = ap (λ (f : Flips). f.column) e in
      let raised : up ≡ (old a).zeros ∩ (new a).ones = ap (λ (f : Flips). f.raised) e in
      let lowered : down ≡ (old a).ones ∩ (new a).zeros = ap (λ (f : Flips). f.lowered) e in
      put s (cc (was.zeros, is.ones)) (cc (was.ones, is.zeros))
    where
      put : (0 < up) ⊎ (0 < down) → up ≡ (old' c').zeros ∩ (new' c').ones → down ≡ (old' c').ones ∩ (new' c').zeros → Listed m' old' new' c' up down
      put s raised lowered =
          Memᴰ.cast (ap₂ (λ (x y : ℕ). record { column = c'; raised = x; lowered = y }) raised lowered)
          (flips_listed old' new' m' b (subst₂ (λ (x y : ℕ). (0 < x) ⊎ (0 < y)) raised lowered s))

-- ---- the answer

pub merging_same_answer : (M : Matrix) {cs : List Column} → Merged M.columns cs → SameAnswer M (with_columns M cs)
unfolding answer
merging_same_answer M {cs} p =
    record {
      groups = sym (ap (ordered 64 n) same);
      total = sym (ap (λ (gs : List Group). total (ordered 64 n gs)) same);
      goes = λ c b.
          let (c', b', e) = found m m' cols cols' (λ q shared. (start.none q shared).1) c b in
          (c', record { before = b; after = b'; alike = e });
      comes = λ c' b'.
          let (c, b, e) = found m' m cols' cols (λ q shared. (start.none q shared).0) c' b' in
          (c, record { before = b; after = b'; alike = alike_sym e });
      flips = λ c c' raised lowered r.
          let e = end.alike r.alike in (
            flips_go cols new cols' new' m m' r.after r.alike e,
            flips_go cols' new' cols new m' m r.before (alike_sym r.alike) (alike_sym e),
          );
    }
  where
    n : ℕ
    n = M.taxa

    m : ℕ
    m = length M.columns

    m' : ℕ
    m' = length cs

    cols : ℕ → Column
    cols = column M.columns

    cols' : ℕ → Column
    cols' = column cs

    μ : ℕ → ℕ
    μ = multiplicity M.multiplicities

    start : Agree m m' cols cols' cols cols'
    start = merged_agrees p

    new : ℕ → Column
    new = (build 64 μ m cols (all n)).columns

    new' : ℕ → Column
    new' = (build 64 μ m' cols' (all n)).columns

    same : (build 64 μ m cols (all n)).groups ≡ (build 64 μ m' cols' (all n)).groups
    same = (build_agrees m m' cols cols' 64 μ start (all n)).0

    end : Agree m m' cols cols' new new'
    end = (build_agrees m m' cols cols' 64 μ start (all n)).1

-- ---- all merged

alike? : (c d : Column) → Dec (Alike c d)
alike? c d = go (ℕ_discrete c.ones d.ones) (ℕ_discrete c.zeros d.zeros)
  where
    go : Dec (c.ones ≡ d.ones) → Dec (c.zeros ≡ d.zeros) → Dec (Alike c d)
    go (yes p) (yes q) = yes (record { ones = p; zeros = q })
    go (yes p) (no q) = no (λ e. q e.zeros)
    go (no p) q = no (λ e. p e.ones)

-- A column of a list is alike to c,
data Again (c : Column) : List Column → Type 0 where
  again : (between : List Column) (d : Column) (after : List Column) → Alike c d → Again c (between ++ d ∷ after)

-- or none is.
abbrev New : Column → List Column → Type 0
New c cs = (j : ℕ) → j < length cs → ¬ Alike c (column cs j)

again? : (c : Column) (cs : List Column) → Again c cs ⊎ New c cs
unfolding column
again? c [] = inr (λ j b. absurd (omega arith))
again? c (d ∷ cs) = go (alike? c d) (again? c cs)
  where
    later : {xs : List Column} → Again c xs → Again c (d ∷ xs)
    later (again between x after e) = again (d ∷ between) x after e

    both : ¬ Alike c d → New c cs → New c (d ∷ cs)
    both n h zero b = n
    both n h (suc j) b = h j (omega arith)

    go : Dec (Alike c d) → Again c cs ⊎ New c cs → Again c (d ∷ cs) ⊎ New c (d ∷ cs)
    go (yes e) h = inl (again [] d cs e)
    go (no n) (inl a) = inl (later a)
    go (no n) (inr h) = inr (both n h)

-- A list has a pair to merge, or no column of it stands twice.
abbrev Pair : List Column → Type 0
Pair cs = (ds : List Column) × PairMerged cs ds

pair? : (cs : List Column) → Pair cs ⊎ Once cs
unfolding column
pair? [] = inr (record { differ = λ i j l b. absurd (omega arith) })
pair? (c ∷ cs) = go (again? c cs) (pair? cs)
  where
    first : {xs : List Column} → Again c xs → Pair (c ∷ xs)
    first (again between d after e) = (together c d ∷ (between ++ after), pair [] c between d after e)

    later : {xs ds : List Column} → PairMerged xs ds → PairMerged (c ∷ xs) (c ∷ ds)
    later (pair before x between d after e) = pair (c ∷ before) x between d after e

    both : New c cs → Once cs → (i j : ℕ) → i < j → j < suc (length cs) → ¬ Alike (column (c ∷ cs) i) (column (c ∷ cs) j)
    both h o i zero l b = absurd (omega arith)
    both h o zero (suc j) l b = h j (omega arith)
    both h o (suc i) (suc j) l b = o.differ i j (omega arith) (omega arith)

    go : Again c cs ⊎ New c cs → Pair cs ⊎ Once cs → Pair (c ∷ cs) ⊎ Once (c ∷ cs)
    go (inl a) p = inl (first a)
    go (inr h) (inl p) = inl (c ∷ p.0, later p.1)
    go (inr h) (inr o) = inr (record { differ = both h o })

-- Each merging leaves a column less.
shorter : {cs ds : List Column} → PairMerged cs ds → length cs ≡ suc (length ds)
shorter (pair before c between d after e) = simp length-append (omega arith)

-- So it ends.
abbrev AllMerged : List Column → Type 0
AllMerged cs = (ds : List Column) × Merged cs ds × Once ds

within : (f : ℕ) (cs : List Column) → length cs < f → AllMerged cs
within zero cs l = absurd (omega arith)
within (suc f) cs l = go (pair? cs) (λ ds p. within f ds (omega (arith, shorter p)))
  where
    go : Pair cs ⊎ Once cs → ((ds : List Column) → PairMerged cs ds → AllMerged ds) → AllMerged cs
    go (inl p) rest = let (es, r, o) = rest p.0 p.1 in (es, more p.1 r, o)
    go (inr o) rest = (cs, done, o)

pub all_merged : (cs : List Column) → (ds : List Column) × Merged cs ds × Once ds
all_merged cs = within (suc (length cs)) cs (omega arith)

-- Where no column stands twice, there is nothing to merge.
twice : {cs ds : List Column} → PairMerged cs ds → ¬ Once cs
unfolding column
twice (pair before c between d after e) o =
    o.differ (length before) (length before + suc (length between)) (omega arith) (simp length-append (omega arith))
    (subst₂ Alike (sym (get_or-append_seam before c (between ++ d ∷ after) _))
    (sym (get_or-append-add before (c ∷ (between ++ d ∷ after)) (suc (length between)) _ ∙ get_or-append_seam between d after _)) e)

pub once_stays : {cs ds : List Column} → Merged cs ds → Once cs → ds ≡ cs
once_stays done o = refl
once_stays (more p r) o = absurd (twice p o)
