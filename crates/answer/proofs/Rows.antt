-- The rows of the rules: what a record's tests come to, in the order in which the code makes them.
use mathlib.Core.Path.{◌≡◌, refl, ◌∙◌}
use mathlib.Core.Bool.{Bool, true, false, ◌&&◌}
use mathlib.Core.List.{List}
use mathlib.Core.Logic.{◌≢◌}
use Prim.Native.Nat.{ℕ, zero, suc, ◌+◌, ◌-◌, ◌≤◌, ◌<◌}
use native.Mathlib.Numerals.{add-one, sub-one}
use native.Mathlib.Omega.{arith}
use lib.Dec.{eqb, ltb}
use lib.ListN.{length, get_or, take}
use borrow.Author.Count.{below_more}
use borrow.Author.Tests.{lt-ltb, le-ltb, eq-eqb, ne_eqb}
use Rattle.std.specs.Prelude.{Some, None}
use Rattle.std.specs.List.{sum_by}
use Rattle.std.proofs.lemmas.List.Sums.{sum_by_more}
use Rattle.taxa.specs.Sum.{sum}
use Rattle.taxa.specs.Sets.{◌∩◌, ◌∪◌, within, count, low, all}
use Rattle.record.specs.declared.refusal.Reason.TheVariants as reason
use Rattle.answer.specs.Rules.{counted, head_fault, follows, placed, compatible, compatible_all, group_fault, kept, floor_of, entry_fault, sum_of}

module _ (n m groups flips listed : ℕ) where
  pub no_taxa : n ≡ 0 → Some reason.TaxonCount ≡ head_fault n m groups flips listed
  unfolding head_fault
  no_taxa h = rw (eq-eqb _ _ h)

  pub many_taxa : n ≢ 0 → 64 < n → Some reason.TaxonCount ≡ head_fault n m groups flips listed
  unfolding head_fault
  many_taxa h l = rw (ne_eqb _ _ h, lt-ltb _ _ l)

  module _ (h : n ≢ 0) (l : n ≤ 64) where
    pub many_columns : 256 < m → Some reason.ColumnCount ≡ head_fault n m groups flips listed
    unfolding head_fault
    many_columns k = rw (ne_eqb _ _ h, le-ltb _ _ l, lt-ltb _ _ k)

    module _ (k : m ≤ 256) where
      pub not_counted : counted n groups ≡ false → Some reason.Groups ≡ head_fault n m groups flips listed
      unfolding head_fault
      not_counted g = rw (ne_eqb _ _ h, le-ltb _ _ l, le-ltb _ _ k, g)

      module _ (g : counted n groups ≡ true) where
        pub many_flips : m < flips → Some reason.Flips ≡ head_fault n m groups flips listed
        unfolding head_fault
        many_flips f = rw (ne_eqb _ _ h, le-ltb _ _ l, le-ltb _ _ k, g, lt-ltb _ _ f)

        pub few_listed : flips ≤ m → listed < flips → Some reason.Flips ≡ head_fault n m groups flips listed
        unfolding head_fault
        few_listed f e = rw (ne_eqb _ _ h, le-ltb _ _ l, le-ltb _ _ k, g, le-ltb _ _ f, lt-ltb _ _ e)

        pub head_kept : flips ≤ m → flips ≤ listed → None ≡ head_fault n m groups flips listed
        unfolding head_fault
        head_kept f e = rw (ne_eqb _ _ h, le-ltb _ _ l, le-ltb _ _ k, g, le-ltb _ _ f, le-ltb _ _ e)

module _ (y x : ℕ) where
  pub lower_before : low 64 y < low 64 x → true ≡ follows y x
  unfolding follows
  lower_before h = rw (lt-ltb _ _ h)

  pub lower_after : low 64 x ≤ low 64 y → low 64 y ≢ low 64 x → false ≡ follows y x
  unfolding follows
  lower_after h d = rw (le-ltb _ _ h, ne_eqb _ _ d)

  pub same_lowest : low 64 y ≡ low 64 x → ltb (count 64 x) (count 64 y) ≡ follows y x
  unfolding follows
  same_lowest e = rw (le-ltb (low 64 y) (low 64 x) (omega arith), eq-eqb _ _ e)

module _ (n : ℕ) (taxa : List ℕ) (i : ℕ) where
  pub first_placed : i ≡ 0 → eqb (get_or taxa i 0) (all n) ≡ placed n taxa i
  unfolding placed
  first_placed e = rw e

  pub next_placed : i ≢ 0 → follows (get_or taxa (i - 1) 0) (get_or taxa i 0) ≡ placed n taxa i
  unfolding placed
  next_placed d = go i d
    where
      go : (k : ℕ) → k ≢ 0 → follows (get_or taxa (k - 1) 0) (get_or taxa k 0) ≡ placed n taxa k
      go zero d = absurd (d refl)
      go (suc k) d = let e : suc k - 1 ≡ k = omega arith in rw e

-- The last of the groups before, and the others.
one_less : (taxa : List ℕ) (x k : ℕ) → 0 < k → compatible_all taxa x k ≡ (compatible_all taxa x (k - 1) && compatible (get_or taxa (k - 1) 0) x)
unfolding compatible_all
one_less taxa x zero l = absurd (omega arith)
one_less taxa x (suc k) l = rw sub-one

and-false : (a : Bool) → (a && false) ≡ false
and-false true = refl
and-false false = refl

and_true : (a : Bool) → (a && true) ≡ a
and_true true = refl
and_true false = refl

module _ (taxa : List ℕ) (x k : ℕ) (l : 0 < k) where
  pub last_crosses : compatible (get_or taxa (k - 1) 0) x ≡ false → compatible_all taxa x k ≡ false
  last_crosses e = one_less taxa x k l ∙ rw e (and-false (compatible_all taxa x (k - 1)))

  pub last_compatible : compatible (get_or taxa (k - 1) 0) x ≡ true → compatible_all taxa x k ≡ compatible_all taxa x (k - 1)
  last_compatible e = one_less taxa x k l ∙ rw e (and_true (compatible_all taxa x (k - 1)))

-- One of the groups before.
pub one_crosses : (taxa : List ℕ) (x k i : ℕ) → i < k → compatible (get_or taxa i 0) x ≡ false → compatible_all taxa x k ≡ false
unfolding compatible_all
one_crosses taxa x zero i l e = absurd (omega arith)
one_crosses taxa x (suc k) i l e =
    below_more
    (λ i. compatible (get_or taxa i 0) x ≡ false → compatible_all taxa x (suc k) ≡ false) k
    (λ i l e. rw (one_crosses taxa x k i l e))
    (λ e. last_crosses taxa x (suc k) (omega arith) (rw sub-one e))
    i (omega arith) e

-- The first costs, as a list.
pub sum_first : (costs : List ℕ) (k : ℕ) → k ≤ length costs → sum_by (λ x. x) (take k costs) ≡ sum_of costs k
unfolding sum
sum_first costs zero l = refl
sum_first costs (suc k) l =
    let more = rw add-one at (sum_by_more (λ x. x) costs k 0 (omega arith)) in
    more ∙ rw (sum_first costs k (omega arith))

module _ (n : ℕ) (taxa : List ℕ) (i : ℕ) where
  pub group_unknown : within (get_or taxa i 0) (all n) ≡ false → Some reason.UnknownTaxon ≡ group_fault n taxa i
  unfolding group_fault
  group_unknown w = rw w

  module _ (w : within (get_or taxa i 0) (all n) ≡ true) where
    pub small : count 64 (get_or taxa i 0) ≤ 1 → Some reason.Groups ≡ group_fault n taxa i
    unfolding group_fault
    small s = rw (w, le-ltb _ _ s)

    module _ (s : 1 < count 64 (get_or taxa i 0)) where
      pub misplaced : placed n taxa i ≡ false → Some reason.Groups ≡ group_fault n taxa i
      unfolding group_fault
      misplaced p = rw (w, lt-ltb _ _ s, p)

      pub crossing : placed n taxa i ≡ true → compatible_all taxa (get_or taxa i 0) i ≡ false → Some reason.Groups ≡ group_fault n taxa i
      unfolding group_fault
      crossing p a = rw (w, lt-ltb _ _ s, p, a)

      pub group_kept : placed n taxa i ≡ true → compatible_all taxa (get_or taxa i 0) i ≡ true → None ≡ group_fault n taxa i
      unfolding group_fault
      group_kept p a = rw (w, lt-ltb _ _ s, p, a)

module _ (m floor column raised lowered : ℕ) where
  pub no_column : m ≤ column → false ≡ kept m floor column raised lowered
  unfolding kept
  no_column h = rw (le-ltb _ _ h)

  pub not_rising : column < m → column < floor → false ≡ kept m floor column raised lowered
  unfolding kept
  not_rising h f = rw (lt-ltb _ _ h, lt-ltb _ _ f)

  module _ (h : column < m) (f : floor ≤ column) where
    pub both_empty : raised ∪ lowered ≡ 0 → false ≡ kept m floor column raised lowered
    unfolding kept
    both_empty e = rw (lt-ltb _ _ h, le-ltb _ _ f, eq-eqb _ _ e)

    pub some_flip : raised ∪ lowered ≢ 0 → eqb (raised ∩ lowered) 0 ≡ kept m floor column raised lowered
    unfolding kept
    some_flip e = rw (lt-ltb _ _ h, le-ltb _ _ f, ne_eqb _ _ e)

module _ (n m floor column raised lowered : ℕ) where
  pub raised_unknown : within raised (all n) ≡ false → Some reason.UnknownTaxon ≡ entry_fault n m floor column raised lowered
  unfolding entry_fault
  raised_unknown r = rw r

  pub lowered_unknown : within raised (all n) ≡ true → within lowered (all n) ≡ false → Some reason.UnknownTaxon ≡ entry_fault n m floor column raised lowered
  unfolding entry_fault
  lowered_unknown r l = rw (r, l)

  module _ (r : within raised (all n) ≡ true) (l : within lowered (all n) ≡ true) where
    pub flips_broken : kept m floor column raised lowered ≡ false → Some reason.Flips ≡ entry_fault n m floor column raised lowered
    unfolding entry_fault
    flips_broken k = rw (r, l, k)

    pub flips_kept : kept m floor column raised lowered ≡ true → None ≡ entry_fault n m floor column raised lowered
    unfolding entry_fault
    flips_kept k = rw (r, l, k)

-- ---- a group is judged by itself and those before it alone

module _ (a b : List ℕ) where
  compatible_same : (x k : ℕ) → ((j : ℕ) → j < k → get_or a j 0 ≡ get_or b j 0) → compatible_all a x k ≡ compatible_all b x k
  unfolding compatible_all
  compatible_same x zero e = refl
  compatible_same x (suc k) e = rw (compatible_same x k (λ j l. e j (omega arith)), e k (omega arith))

  placed_same : (n i : ℕ) → ((j : ℕ) → j < i + 1 → get_or a j 0 ≡ get_or b j 0) → placed n a i ≡ placed n b i
  unfolding placed
  placed_same n zero e = rw (e 0 (omega arith))
  placed_same n (suc i) e = rw (e i (omega arith), e (suc i) (omega arith))

  pub group_same : (n i : ℕ) → ((j : ℕ) → j < i + 1 → get_or a j 0 ≡ get_or b j 0) → group_fault n a i ≡ group_fault n b i
  unfolding group_fault
  group_same n i e = rw (e i (omega arith), placed_same n i e, compatible_same (get_or b i 0) i (λ j l. e j (omega arith)))

pub floor_same : (a b : List ℕ) (j : ℕ) → ((i : ℕ) → i < j → get_or a i 0 ≡ get_or b i 0) → floor_of a j ≡ floor_of b j
unfolding floor_of
floor_same a b zero e = refl
floor_same a b (suc j) e = rw (e j (omega arith))

pub floor_next : (columns : List ℕ) (j : ℕ) → get_or columns j 0 + 1 ≡ floor_of columns (j + 1)
unfolding floor_of
floor_next columns j = rw (add-one j)
