-- What ties the taxa of a group to the lower ones, column by column and taxon by taxon, in a list behind the limits; and a bound of what it costs to part one alone.
use Prim.Native.Nat.{ℕ, ◌+◌, ◌*◌, ◌^◌, ◌≤◌, ◌<◌, min}
use mathlib.Core.Path.{◌≡◌, refl, sym, ap, ◌∙◌}
use mathlib.Core.Bool.{Bool, true, false, cond, true≢false}
use mathlib.Core.List.{List}
use mathlib.Core.Logic.{◌≢◌, ⊎_elim}
use native.Mathlib.Nat.{mul-le-mul_right}
use native.Mathlib.Decide.{dec_lt}
use native.Mathlib.Omega.{arith}
use lib.Dec.{ltb}
use lib.ListN.{length, set, length-set}
use lib.Seq.{get_or-set_same, get_or-set_other}
use borrow.Author.Tests.{ltb-true, lt-ltb}
use Rattle.taxa.specs.Sum.{sum}
use Rattle.taxa.specs.Sets.{has, all, ◌∈◌, ◌∩◌, ◌∖◌, count, low, multiplicity_in}
use Rattle.taxa.proofs.Sums.{sum_next, sum_bound}
use Rattle.taxa.proofs.Digits.{has_none}
use Rattle.taxa.proofs.Members.{all_<, in_all, in_pos, out, in∩, ∩-≤, in_remove, below, low_in, low_≤, same_bool, ⊆-≤, ∩-⊆}
use Rattle.taxa.proofs.Counts.{count_pos, count_remove}
use Rattle.taxa.proofs.Planes.{in_small}
use Rattle.method.proofs.Carry.{same?}
use Rattle.search.specs.Search.{nth}
use Rattle.search.specs.inner.Network.{flow_most, weight_most, Unused}
use Rattle.search.specs.inner.Trying.{Limits, tie, Ties, Weighed, Few, SameLimits, ColumnAdded, Added, Loose}
use Rattle.search.proofs.Reaching.{still_in}

cond_most : (p : Bool) (w : ℕ) → cond p w 0 ≤ w
cond_most true w = omega arith
cond_most false w = omega arith

-- ---- nothing is tied

-- The numbers behind the limits are 0 to below p.
pub record Blank (L L' : List ℕ) (p : ℕ) : Type 0 where
  pub limits : SameLimits L L'
  pub none : (q : ℕ) → 256 ≤ q → q < p → nth L' q ≡ 0

pub blank_start : {L : List ℕ} → length L ≡ 320 → Blank L L 256
blank_start l = record { limits = record { long = l; same = λ c b. refl }; none = λ q a b. absurd (omega arith) }

pub blank_one : {L L' : List ℕ} {p : ℕ} → Blank L L' p → 256 ≤ p → p < 320 → Blank L (set L' p 0) (p + 1)
blank_one {L} {L'} {p} k a b = record {
  limits = record { long = length-set L' p 0 ∙ k.limits.long; same = λ c l. get_or-set_other L' p c 0 0 (λ e. omega arith) ∙ k.limits.same c l };
  none = λ q c d. ⊎_elim (λ e. rw e (get_or-set_same L' p 0 0 (omega (arith, k.limits.long)))) (λ ne. get_or-set_other L' p q 0 0 ne ∙ k.none q c (omega arith)) (same? q p);
}

-- ---- the taxa of a column, one after the other

-- The taxa of x are tied by w, but those of l.
pub record AddedBut (x l w : ℕ) (L L' : List ℕ) : Type 0 where
  pub limits : SameLimits L L'
  pub at : (u : ℕ) → u < 64 → nth L' (256 + u) + cond (has l u) w 0 ≡ nth L (256 + u) + cond (has x u) w 0

pub but_start : (x w : ℕ) {L : List ℕ} → length L ≡ 320 → AddedBut x x w L L
but_start x w l = record { limits = record { long = l; same = λ c b. refl }; at = λ u b. refl }

module _ {x l w : ℕ} {L L' : List ℕ} (k : AddedBut x l w L L') {i : ℕ} (h : has l i ≡ true) (bi : i < 64) where
  -- A taxon that is left is as it was.
  pub but_was : has x i ≡ true → nth L' (256 + i) ≡ nth L (256 + i)
  but_was g = omega (arith, k.at i bi, ap (λ (p : Bool). cond p w 0) h, ap (λ (p : Bool). cond p w 0) g)

  pub but_one : {l' v : ℕ} → l' ≡ l ∖ 2 ^ i → v ≡ nth L' (256 + i) + w → AddedBut x l' w L (set L' (256 + i) v)
  but_one {l'} {v} q e = record {
    limits = record { long = length-set L' (256 + i) v ∙ k.limits.long; same = λ c b. get_or-set_other L' (256 + i) c v 0 (λ f. omega arith) ∙ k.limits.same c b };
    at = λ u b. ⊎_elim (λ f. rw f here) (λ ne. there u b ne) (same? u i);
  }
    where
      gone : has l' i ≡ false
      gone = out {i = i} {x = l'} (λ y. (still_in l i i (ap (λ (z : ℕ). has z i) (sym q) ∙ y.is)).1 refl)

      here : nth (set L' (256 + i) v) (256 + i) + cond (has l' i) w 0 ≡ nth L (256 + i) + cond (has x i) w 0
      here = omega (arith, get_or-set_same L' (256 + i) v 0 (omega (arith, k.limits.long)), e, k.at i bi, ap (λ (p : Bool). cond p w 0) h, ap (λ (p : Bool). cond p w 0) gone)

      there : (u : ℕ) → u < 64 → u ≢ i → nth (set L' (256 + i) v) (256 + u) + cond (has l' u) w 0 ≡ nth L (256 + u) + cond (has x u) w 0
      there u b ne =
          omega (
            arith,
            get_or-set_other L' (256 + i) (256 + u) v 0 (λ f. ne (omega arith)),
            k.at u b,
            ap (λ (p : Bool). cond p w 0) (ap (λ (z : ℕ). has z u) q ∙ same_bool (λ y. ((in_remove l i).0 y).0) (λ y. (in_remove l i).1 (y, ne))),
          )

pub but_end : {x w : ℕ} {L L' : List ℕ} → AddedBut x 0 w L L' → Added x w L L'
but_end {w = w} k = record { limits = k.limits; ties_at = λ u b. omega (arith, k.at u b, ap (λ (p : Bool). cond p w 0) (has_none u)) }

-- ---- a column

-- It joins nobody, or
pub column_none : {w : ℕ} {L B : List ℕ} → length L ≡ 320 → length B ≡ 256 → ColumnAdded 0 w L L B B
column_none {w} l v = record {
  tied = record { limits = record { long = l; same = λ c b. refl }; ties_at = λ u b. omega (arith, ap (λ (p : Bool). cond p w 0) (off u)) };
  long = v;
  own_at = λ u b. omega (arith, ap (λ (p : Bool). cond p w 0) (off u), ap (λ (p : Bool). cond p w 0) (has_none u));
}
  where
    off : (u : ℕ) → has (0 ∖ 2 ^ low 64 0) u ≡ false
    off u = out {i = u} {x = 0 ∖ 2 ^ low 64 0} (λ h. true≢false (sym ((in_remove 0 (low 64 0)).0 h).0.is ∙ has_none u))

-- all but its lowest taxon are tied, and it is the lowest's own.
pub column_added : {x r w v : ℕ} {L L' B : List ℕ} → x < 2 ^ 64 → 0 < x → r ≡ x ∖ 2 ^ low 64 x → Added r w L L' → length B ≡ 256 → v ≡ nth B (low 64 x) + w → ColumnAdded x w L L' B (set B (low 64 x) v)
column_added {x} {r} {w} {v} {L} {L'} {B} f some q k long e = record { tied = rw q at k; long = length-set B (low 64 x) v ∙ long; own_at = λ u b. ⊎_elim (λ p. rw p here) (λ ne. there u ne) (same? u (low 64 x)) }
  where
    in_s : low 64 x ∈ x
    in_s = low_in 64 some f

    bs : low 64 x < 64
    bs = below 64 f in_s

    here : nth (set B (low 64 x) v) (low 64 x) + cond (has (x ∖ 2 ^ low 64 x) (low 64 x)) w 0 ≡ nth B (low 64 x) + cond (has x (low 64 x)) w 0
    here =
        omega (
          arith,
          get_or-set_same B (low 64 x) v 0 (omega (arith, long, bs)),
          e,
          ap (λ (p : Bool). cond p w 0) in_s.is,
          ap (λ (p : Bool). cond p w 0) (out {i = low 64 x} {x = x ∖ 2 ^ low 64 x} (λ h. ((in_remove x (low 64 x)).0 h).1 refl)),
        )

    there : (u : ℕ) → u ≢ low 64 x → nth (set B (low 64 x) v) u + cond (has (x ∖ 2 ^ low 64 x) u) w 0 ≡ nth B u + cond (has x u) w 0
    there u ne =
        omega (
          arith,
          get_or-set_other B (low 64 x) u v 0 ne,
          ap (λ (p : Bool). cond p w 0) (same_bool {i = u} {x = x ∖ 2 ^ low 64 x} {y = x} (λ h. ((in_remove x (low 64 x)).0 h).0) (λ h. (in_remove x (low 64 x)).1 (h, ne))),
        )

-- ---- the columns one after the other

pub few_next : {k k' x w : ℕ} {L L' B B' : List ℕ} → Few k L B → ColumnAdded x w L L' B B' → k + w ≤ k' → Few k' L' B'
few_next {x = x} {w} f a l = record {
  ties_few = λ u b. omega (arith, f.ties_few u b, a.tied.ties_at u b, cond_most (has (x ∖ 2 ^ low 64 x) u) w);
  own_few = λ u b. omega (arith, f.own_few u b, a.own_at u b, cond_most (has x u) w);
}

pub few_more : {k k' : ℕ} {L B : List ℕ} → Few k L B → k ≤ k' → Few k' L B
few_more f l = record { ties_few = λ u b. omega (arith, f.ties_few u b); own_few = λ u b. omega (arith, f.own_few u b) }

pub limits_still : {W P Z : List ℕ} {S m : ℕ} {L L' : List ℕ} → m ≤ 256 → SameLimits L L' → Limits W P Z S m L → Limits W P Z S m L'
limits_still few s l = record { long = s.long; is = λ c b. s.same c (omega arith) ∙ l.is c b }

pub same_then : {L L' L'' : List ℕ} → SameLimits L L' → SameLimits L' L'' → SameLimits L L''
same_then p q = record { long = q.long; same = λ c b. q.same c b ∙ p.same c b }

module _ {L B : List ℕ} (none : (u : ℕ) → u < 64 → nth L (256 + u) ≡ 0) (own : Unused B 64) where
  pub few_none : Few 0 L B
  few_none = record { ties_few = λ u b. omega (arith, none u b); own_few = λ u b. omega (arith, own.is u b) }

  pub weighed_start : (W J : List ℕ) (S : ℕ) → S < 2 ^ 64 → Weighed W J 0 S L B
  unfolding sum
  weighed_start W J S f = record { long = own.long; weighs_at = λ u h. let b : u < 64 = below 64 f (record { is = h }) in omega (arith, none u b, own.is u b) }

pub ties_start : (W J : List ℕ) (S : ℕ) {L : List ℕ} → S < 2 ^ 64 → length L ≡ 320 → ((u : ℕ) → u < 64 → nth L (256 + u) ≡ 0) → Ties W J 0 S L
unfolding sum
ties_start W J S f l none = record { long = l; ties_at = λ u h. none u (below 64 f (record { is = h })) }

-- A column ties a taxon of S to a lower one exactly where it joins it and it is not the lowest there.
both : (p q r : Bool) (w : ℕ) → (p ≡ true → q ≡ true → r ≡ true) → (r ≡ true → (p ≡ true) × (q ≡ true)) → cond p (cond q w 0) 0 ≡ cond r w 0
both true true true w a b = refl
both true true false w a b = absurd (true≢false (sym (a refl refl)))
both true false true w a b = absurd (true≢false (sym (b refl).1))
both true false false w a b = refl
both false q true w a b = absurd (true≢false (sym (b refl).0))
both false q false w a b = refl

module _ (j S u : ℕ) (f : S < 2 ^ 64) (h : has S u ≡ true) where
  fits : j ∩ S < 2 ^ 64
  fits = omega (arith, ∩-≤ j S)

  tied : has j u ≡ true → ltb 0 (j ∩ (S ∩ all u)) ≡ true → has ((j ∩ S) ∖ 2 ^ low 64 (j ∩ S)) u ≡ true
  tied p q =
      let i = low 64 (j ∩ (S ∩ all u)) in
      let (a, b) = (in∩ j (S ∩ all u)).0 (low_in 64 (ltb-true 0 (j ∩ (S ∩ all u)) q) (omega (arith, ∩-≤ j (S ∩ all u), ⊆-≤ (∩-⊆ S (all u))))) in
      let (c, d) = (in∩ S (all u)).0 b in
      let l : i < u = below u (all_< u) d in
      ((in_remove (j ∩ S) (low 64 (j ∩ S))).1 ((in∩ j S).1 (record { is = p }, record { is = h }), λ e. omega (arith, low_≤ 64 fits ((in∩ j S).1 (a, c))))).is

  untied : has ((j ∩ S) ∖ 2 ^ low 64 (j ∩ S)) u ≡ true → (has j u ≡ true) × (ltb 0 (j ∩ (S ∩ all u)) ≡ true)
  untied q =
      let (x, ne) = (in_remove (j ∩ S) (low 64 (j ∩ S))).0 (record { is = q }) in
      let (a, b) = (in∩ j S).0 (low_in 64 (in_pos x) fits) in
      let l : low 64 (j ∩ S) < u = omega (arith, low_≤ 64 fits x) in
      (((in∩ j S).0 x).0.is, lt-ltb 0 (j ∩ (S ∩ all u)) (in_pos ((in∩ j (S ∩ all u)).1 (a, (in∩ S (all u)).1 (b, in_all u l)))))

  tie_is : (w : ℕ) → tie w j (S ∩ all u) u ≡ cond (has ((j ∩ S) ∖ 2 ^ low 64 (j ∩ S)) u) w 0
  tie_is w = both (has j u) (ltb 0 (j ∩ (S ∩ all u))) (has ((j ∩ S) ∖ 2 ^ low 64 (j ∩ S)) u) w tied untied

  joins_is : has (j ∩ S) u ≡ has j u
  joins_is = same_bool (λ y. ((in∩ j S).0 y).0) (λ y. (in∩ j S).1 (y, record { is = h }))

module _ {W J : List ℕ} {c S : ℕ} {L L' B B' : List ℕ} (f : S < 2 ^ 64) (a : ColumnAdded (nth J c ∩ S) (nth W c) L L' B B') where
  pub ties_next : Ties W J c S L → Ties W J (c + 1) S L'
  ties_next t = record {
    long = a.tied.limits.long;
    ties_at = λ u h.
        omega (
          arith,
          a.tied.ties_at u (below 64 f (record { is = h })),
          t.ties_at u h,
          tie_is (nth J c) S u f h (nth W c),
          sum_next c (λ e. tie (nth W e) (nth J e) (S ∩ all u) u),
        );
  }

  pub weighed_next : Weighed W J c S L B → Weighed W J (c + 1) S L' B'
  weighed_next t = record {
    long = a.long;
    weighs_at = λ u h.
        let b : u < 64 = below 64 f (record { is = h }) in
        omega (
          arith,
          a.tied.ties_at u b,
          a.own_at u b,
          t.weighs_at u h,
          ap (λ (p : Bool). cond p (nth W c) 0) (joins_is (nth J c) S u f h),
          sum_next c (λ e. cond (has (nth J e) u) (nth W e) 0),
        );
  }

-- ---- the bound

-- A group of two has a taxon but its lowest.
some_rest : {S r : ℕ} → S < 2 ^ 64 → 1 < count 64 S → r ≡ S ∖ 2 ^ low 64 S → 0 < r
some_rest {S} f two q = let s = low_in 64 (count_pos 64 (omega arith)) f in rw q (count_pos 64 (omega (arith, count_remove 64 (below 64 f s) s)))

-- What joins a taxon weighs no more than all columns, and times a multiplicity no more than any flow.
pub weighs_small : {W J L B : List ℕ} {m S : ℕ} → m ≤ 256 → ((c : ℕ) → c < m → nth W c < 65536) → Weighed W J m S L B → (u : ℕ) → has S u ≡ true → nth L (256 + u) + nth B u ≤ weight_most
weighs_small {W} {J} {m = m} few light t u h =
    omega (arith, t.weighs_at u h, sum_bound m 65535 {g = λ c. cond (has (nth J c) u) (nth W c) 0} (λ c b. omega (arith, cond_most (has (nth J c) u) (nth W c), light c b)))

pub times_small : (P : List ℕ) {x : ℕ} (u : ℕ) → x ≤ weight_most → x * multiplicity_in P u ≤ flow_most
times_small P u l = omega (arith, mul-le-mul_right (multiplicity_in P u) l, in_small P u)

-- The taxa of l lie ahead, and to part one alone costs less than k.
pub record Binding (P L B : List ℕ) (S l k : ℕ) : Type 0 where
  pub inside : (u : ℕ) → has l u ≡ true → (has S u ≡ true) × (u ≢ low 64 S)
  pub loose : Loose P L B S k

module _ {P L B : List ℕ} {S : ℕ} where
  pub binding_start : {r : ℕ} → S < 2 ^ 64 → 1 < count 64 S → ((u : ℕ) → has S u ≡ true → nth L (256 + u) + nth B u ≤ weight_most) → r ≡ S ∖ 2 ^ low 64 S → r < 2 ^ 64 → Binding P L B S r 4294967295
  binding_start {r} f two small q fr = record { inside = held; loose = record { taxon = u; inside = (held u h).0; not_lowest = (held u h).1; less = omega (arith, times_small P u (small u (held u h).0)) } }
    where
      held : (u : ℕ) → has r u ≡ true → (has S u ≡ true) × (u ≢ low 64 S)
      held u h = still_in S (low 64 S) u (ap (λ (x : ℕ). has x u) (sym q) ∙ h)

      u : ℕ
      u = low 64 r

      h : has r u ≡ true
      h = (low_in 64 (some_rest f two q) fr).is

  pub binding_one : {l k w l' : ℕ} → Binding P L B S l k → (i : ℕ) → has l i ≡ true → w ≡ (nth L (256 + i) + nth B i) * multiplicity_in P i + 1 → l' ≡ l ∖ 2 ^ i → Binding P L B S l' (min k w)
  binding_one {l} {k} {w} b i h e q = record { inside = λ u g. b.inside u (still_in l i u (ap (λ (x : ℕ). has x u) (sym q) ∙ g)).0; loose = go (dec_lt k w) }
    where
      go : Dec (k < w) → Loose P L B S (min k w)
      go (yes a) = record { taxon = b.loose.taxon; inside = b.loose.inside; not_lowest = b.loose.not_lowest; less = omega (arith, b.loose.less) }
      go (no a) = record { taxon = i; inside = (b.inside i h).0; not_lowest = (b.inside i h).1; less = omega arith }
