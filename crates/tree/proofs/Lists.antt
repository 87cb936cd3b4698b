-- Lists of groups and of flips in parallel lists of numbers: one more at the end (`put_group`, `put_flips`), what a test keeps of one more
-- (`kept_next`), file order as two loops meet it (`ordered_next`), and the flip list one column further (`list_next`).
use mathlib.Core.Path.{◌≡◌, refl, ap, ◌∙◌, subst}
use mathlib.Core.Bool.{Bool, true, false, cond}
use mathlib.Core.Logic.{⊎_elim}
use mathlib.Core.List.Memᴰ
use mathlib.Core.List.{List, [], ◌∷◌, ◌++◌, map, map-append, Memᴰ}
use Prim.Native.Nat.{ℕ, zero, suc, ◌+◌, ◌≤◌, ◌<◌}
use native.Mathlib.Nat.{eq-or-lt_of_le, le_of_suc-le-suc}
use native.Mathlib.Numerals.{add-one}
use native.Mathlib.Decide.{le_ind}
use native.Mathlib.Omega.{arith}
use lib.ListN.{length, get_or, take, set, length-append}
use lib.Seq.{get_or-set_same, get_or-set_other, take-suc}
use Rattle.taxa.specs.Sum.{sum}
use Rattle.taxa.specs.Sets.{◌∩◌}
use Rattle.method.specs.Split.{Column}
use Rattle.method.specs.Tree.{Group, Flips, kept, ordered, flips_of, flip_list, total}
use Rattle.method.proofs.Walks.{total_++}
use Rattle.tree.specs.Lists.{first_groups, first_flips}
use Rattle.tree.specs.inner.Lists.{starts_at, FlipRoom, SameFrom, unflipped}

-- ---- groups

pub groups_next : (ts cs : List ℕ) (k : ℕ) → first_groups ts cs (k + 1) ≡ first_groups ts cs k ++ (record { taxa = get_or ts k 0; cost = get_or cs k 0 } ∷ [])
unfolding first_groups
groups_next ts cs k = rw add-one

pub length_groups : (ts cs : List ℕ) (k : ℕ) → length (first_groups ts cs k) ≡ k
unfolding first_groups
length_groups ts cs zero = refl
length_groups ts cs (suc k) = length-append (first_groups ts cs k) _ ∙ omega (arith, length_groups ts cs k)

-- Its groups are those of the first k places.
pub group_at : (ts cs : List ℕ) (k i : ℕ) → i < k → Memᴰ (record { taxa = get_or ts i 0; cost = get_or cs i 0 }) (first_groups ts cs k)
unfolding first_groups
group_at ts cs zero i l = absurd (omega arith)
group_at ts cs (suc k) i l =
    ⊎_elim
    (λ e. Memᴰ.append_right (first_groups ts cs k) (Memᴰ.head (ap (λ (j : ℕ). record { taxa = get_or ts j 0; cost = get_or cs j 0 }) e)))
    (λ b. Memᴰ.append_left _ (group_at ts cs k i b))
    (eq-or-lt_of_le (le_of_suc-le-suc l))

pub place_of : (ts cs : List ℕ) (k : ℕ) {g : Group} → Memᴰ g (first_groups ts cs k) → (i : ℕ) × (i < k) × (g.taxa ≡ get_or ts i 0)
unfolding first_groups
place_of ts cs zero l = absurd (Memᴰ.not-nil l)
place_of ts cs (suc k) l =
    ⊎_elim
    (λ h. let (i, b, e) = place_of ts cs k h in (i, omega arith, e))
    (λ h. (k, omega arith, ap (λ (g : Group). g.taxa) (Memᴰ.eq_of_singleton h)))
    (Memᴰ.append_cases (first_groups ts cs k) l)

-- Stores past the first k change none of them.
past_groups : (ts cs : List ℕ) (at g c k : ℕ) → k ≤ at → first_groups (set ts at g) (set cs at c) k ≡ first_groups ts cs k
unfolding first_groups
past_groups ts cs at g c zero l = refl
past_groups ts cs at g c (suc k) l =
    rw (past_groups ts cs at g c k (omega arith), get_or-set_other ts at k g 0 (omega arith), get_or-set_other cs at k c 0 (omega arith))

pub put_group : (ts cs : List ℕ) (at g c : ℕ) → at < length ts → at < length cs
    → first_groups (set ts at g) (set cs at c) (at + 1) ≡ first_groups ts cs at ++ (record { taxa = g; cost = c } ∷ [])
put_group ts cs at g c l l' =
    rw (groups_next (set ts at g) (set cs at c) at, past_groups ts cs at g c at (omega arith), get_or-set_same ts at g 0 l, get_or-set_same cs at c 0 l')

-- Its sets and its costs apart, and the sum of the costs.
pub taxa_of : (ts cs : List ℕ) (k : ℕ) → k ≤ length ts → take k ts ≡ map (λ (g : Group). g.taxa) (first_groups ts cs k)
unfolding first_groups
taxa_of ts cs zero l = refl
taxa_of ts cs (suc k) l = take-suc ts k 0 l ∙ rw (taxa_of ts cs k (omega arith), map-append)

pub costs_of : (ts cs : List ℕ) (k : ℕ) → k ≤ length cs → take k cs ≡ map (λ (g : Group). g.cost) (first_groups ts cs k)
unfolding first_groups
costs_of ts cs zero l = refl
costs_of ts cs (suc k) l = take-suc cs k 0 l ∙ rw (costs_of ts cs k (omega arith), map-append)

pub total_of : (ts cs : List ℕ) (k : ℕ) → total (first_groups ts cs k) ≡ sum k (λ i. get_or cs i 0)
unfolding first_groups sum total
total_of ts cs zero = refl
total_of ts cs (suc k) = omega (arith, total_++ (first_groups ts cs k) (record { taxa = get_or ts k 0; cost = get_or cs k 0 } ∷ []), total_of ts cs k)

-- ---- what a test keeps

length_cond : {A : Type 0} (b : Bool) (x : A) → length (cond b (x ∷ []) []) ≡ cond b 1 0
length_cond true x = refl
length_cond false x = refl

length_unless : {A : Type 0} (b : Bool) (x : A) → length (cond b [] (x ∷ [])) ≡ cond b 0 1
length_unless true x = refl
length_unless false x = refl

at_most_one : (b : Bool) → cond b 0 1 ≤ 1
at_most_one true = omega arith
at_most_one false = omega arith

kept_++ : (p : Group → Bool) (gs : List Group) (g : Group) → kept p (gs ++ (g ∷ [])) ≡ kept p gs ++ cond (p g) (g ∷ []) []
unfolding kept
kept_++ p [] g = refl
kept_++ p (x ∷ gs) g = go (p x) (kept_++ p gs g)
  where
    go : (b : Bool) → kept p (gs ++ (g ∷ [])) ≡ kept p gs ++ cond (p g) (g ∷ []) []
        → cond b (x ∷ kept p (gs ++ (g ∷ []))) (kept p (gs ++ (g ∷ []))) ≡ cond b (x ∷ kept p gs) (kept p gs) ++ cond (p g) (g ∷ []) []
    go true ih = ap (◌∷◌ x) ih
    go false ih = ih

module _ (p : Group → Bool) (ts cs : List ℕ) where
  pub kept_next : (k : ℕ) → kept p (first_groups ts cs (k + 1)) ≡ kept p (first_groups ts cs k) ++ cond (p (record { taxa = get_or ts k 0; cost = get_or cs k 0 })) (record { taxa = get_or ts k 0; cost = get_or cs k 0 } ∷ []) []
  kept_next k = rw (groups_next ts cs k) (kept_++ p (first_groups ts cs k) _)

  pub kept_size : (k : ℕ) → length (kept p (first_groups ts cs (k + 1))) ≡ length (kept p (first_groups ts cs k)) + cond (p (record { taxa = get_or ts k 0; cost = get_or cs k 0 })) 1 0
  kept_size k = rw (kept_next k, length-append) (ap (◌+◌ (length (kept p (first_groups ts cs k)))) (length_cond (p (record { taxa = get_or ts k 0; cost = get_or cs k 0 })) _))

  pub kept_more : {j k : ℕ} → j ≤ k → length (kept p (first_groups ts cs j)) ≤ length (kept p (first_groups ts cs k))
  kept_more {j} {k} l =
      le_ind (λ (i : ℕ). length (kept p (first_groups ts cs j)) ≤ length (kept p (first_groups ts cs i))) (omega arith)
      (λ i h ih. rw (← add-one i) (omega (arith, kept_size i))) k l

  -- One that is kept is among all that are.
  pub kept_room : {j k : ℕ} → j < k → p (record { taxa = get_or ts j 0; cost = get_or cs j 0 }) ≡ true → length (kept p (first_groups ts cs j)) < length (kept p (first_groups ts cs k))
  kept_room {j} {k} l e = let more = rw e at (kept_size j) in omega (arith, kept_more {j = j + 1} {k = k} (omega arith))

-- ---- file order

pub ordered_next : (i : ℕ) (gs : List Group) → ordered 64 (i + 1) gs ≡ ordered 64 i gs ++ kept (starts_at i) gs
unfolding ordered
ordered_next i gs = rw add-one

pub ordered_size : (i : ℕ) (gs : List Group) → length (ordered 64 (i + 1) gs) ≡ length (ordered 64 i gs) + length (kept (starts_at i) gs)
ordered_size i gs = rw (ordered_next i gs) (length-append (ordered 64 i gs) (kept (starts_at i) gs))

pub ordered_more : {j k : ℕ} (gs : List Group) → j ≤ k → length (ordered 64 j gs) ≤ length (ordered 64 k gs)
ordered_more {j} {k} gs l =
    le_ind (λ (i : ℕ). length (ordered 64 j gs) ≤ length (ordered 64 i gs)) (omega arith)
    (λ i h ih. rw (← add-one i) (omega (arith, ordered_size i gs))) k l

-- ---- flips

pub flips_next : (ns us ds : List ℕ) (k : ℕ) → first_flips ns us ds (k + 1) ≡ first_flips ns us ds k ++ (record { column = get_or ns k 0; raised = get_or us k 0; lowered = get_or ds k 0 } ∷ [])
unfolding first_flips
flips_next ns us ds k = rw add-one

pub length_flips : (ns us ds : List ℕ) (k : ℕ) → length (first_flips ns us ds k) ≡ k
unfolding first_flips
length_flips ns us ds zero = refl
length_flips ns us ds (suc k) = length-append (first_flips ns us ds k) _ ∙ omega (arith, length_flips ns us ds k)

past_flips : (ns us ds : List ℕ) (at n u d k : ℕ) → k ≤ at → first_flips (set ns at n) (set us at u) (set ds at d) k ≡ first_flips ns us ds k
unfolding first_flips
past_flips ns us ds at n u d zero l = refl
past_flips ns us ds at n u d (suc k) l =
    rw (past_flips ns us ds at n u d k (omega arith), get_or-set_other ns at k n 0 (omega arith), get_or-set_other us at k u 0 (omega arith), get_or-set_other ds at k d 0 (omega arith))

pub put_flips : (ns us ds : List ℕ) (at n u d : ℕ) → FlipRoom (at + 1) ns us ds
    → first_flips (set ns at n) (set us at u) (set ds at d) (at + 1) ≡ first_flips ns us ds at ++ (record { column = n; raised = u; lowered = d } ∷ [])
put_flips ns us ds at n u d r =
    rw (
      flips_next (set ns at n) (set us at u) (set ds at d) at,
      past_flips ns us ds at n u d at (omega arith),
      get_or-set_same ns at n 0 (omega (arith, r.columns_room)),
      get_or-set_same us at u 0 (omega (arith, r.raised_room)),
      get_or-set_same ds at d 0 (omega (arith, r.lowered_room)),
    )

-- What stands from a place on: a store before it changes nothing there.
pub same_all : (k : ℕ) (xs : List ℕ) → SameFrom k xs xs
same_all k xs = record { same = λ i l. refl }

pub same_past : (xs : List ℕ) (at x : ℕ) → SameFrom (at + 1) xs (set xs at x)
same_past xs at x = record { same = λ i l. get_or-set_other xs at i x 0 (omega arith) }

pub same_on : {j k l : ℕ} {xs ys zs : List ℕ} → SameFrom j xs ys → SameFrom k ys zs → j ≤ l → k ≤ l → SameFrom l xs zs
same_on a b j k = record { same = λ i h. b.same i (omega arith) ∙ a.same i (omega arith) }

-- Its columns, raised sets and lowered sets apart.
module _ (ns us ds : List ℕ) where
  pub columns_of : (k : ℕ) → k ≤ length ns → take k ns ≡ map (λ (f : Flips). f.column) (first_flips ns us ds k)
  unfolding first_flips
  columns_of zero l = refl
  columns_of (suc k) l = take-suc ns k 0 l ∙ rw (columns_of k (omega arith), map-append)

  pub raised_of : (k : ℕ) → k ≤ length us → take k us ≡ map (λ (f : Flips). f.raised) (first_flips ns us ds k)
  unfolding first_flips
  raised_of zero l = refl
  raised_of (suc k) l = take-suc us k 0 l ∙ rw (raised_of k (omega arith), map-append)

  pub lowered_of : (k : ℕ) → k ≤ length ds → take k ds ≡ map (λ (f : Flips). f.lowered) (first_flips ns us ds k)
  unfolding first_flips
  lowered_of zero l = refl
  lowered_of (suc k) l = take-suc ds k 0 l ∙ rw (lowered_of k (omega arith), map-append)

module _ (old new : ℕ → Column) where
  pub list_next : (c : ℕ) → flip_list (c + 1) old new ≡ flip_list c old new ++ cond (unflipped ((old c).zeros ∩ (new c).ones) ((old c).ones ∩ (new c).zeros)) [] (flips_of c (old c) (new c) ∷ [])
  unfolding flip_list
  list_next c = rw add-one

  pub list_size : (c : ℕ) → length (flip_list (c + 1) old new) ≡ length (flip_list c old new) + cond (unflipped ((old c).zeros ∩ (new c).ones) ((old c).ones ∩ (new c).zeros)) 0 1
  list_size c = rw (list_next c, length-append) (ap (◌+◌ (length (flip_list c old new))) (length_unless (unflipped ((old c).zeros ∩ (new c).ones) ((old c).ones ∩ (new c).zeros)) _))

  -- No more flipped columns than columns.
  pub list_few : (c : ℕ) → length (flip_list c old new) ≤ c
  unfolding flip_list
  list_few zero = omega arith
  list_few (suc c) =
      subst (λ (k : ℕ). length (flip_list k old new) ≤ k) (add-one c)
      (omega (arith, list_size c, list_few c, at_most_one (unflipped ((old c).zeros ∩ (new c).ones) ((old c).ones ∩ (new c).zeros))))
