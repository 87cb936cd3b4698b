-- The set of some names has their numbers (`in_set`), so the taxa with these names (`named_in`), and stays when more taxa are seen (`set_seen`).
use mathlib.Core.Path.{◌≡◌, refl, sym, ap, ◌∙◌}
use mathlib.Core.Bool.{Bool, true, false, ◌||◌, cond, true≢false}
use mathlib.Core.Logic.{◌↔◌, inl, inr, ⊎_elim}
use mathlib.Core.List.Memᴰ
use mathlib.Core.List.{List, [], ◌∷◌, ◌++◌, Memᴰ}
use Prim.Native.Nat.{ℕ, zero, suc, ◌^◌, ◌<◌}
use native.Mathlib.Omega.{arith}
use lib.Dec.{ltb}
use lib.ListN.{length, get_or, take, drop, take-append-drop}
use borrow.Author.Tests.{lt-ltb, le-ltb}
use Rattle.taxa.specs.Sets.{◌∈◌, ◌∉◌, ◌⊆◌, ◌∪◌, ◌∖◌, within, all}
use Rattle.taxa.proofs.Members.{none, in∪, in∖, ext, ∪-⊆, ⊆-refl, in_pow, pow_in, pow_⊆, in_all, within_⊆}
use Rattle.grammar.specs.Columns.{Bytes}
use Rattle.record.specs.Bytes.{equal}
use Rattle.grammar.specs.Limits.{is_in, seen, number, Distinct, end, next}
use Rattle.grammar.proofs.Lists.{distinct_latter}
use Rattle.record.proofs.Equal.{equal_refl, equal_true}
use Rattle.grammar.proofs.Numbering.{mem_is_in, is_in_mem, number_at, number_seen, apart}
use Rattle.ledger.specs.Sets.{set_of}

-- Every name of ns is among ms.
abbrev pub Among : List Bytes → List Bytes → Type 0
Among ms ns = (n : Bytes) → Memᴰ n ns → Memᴰ n ms

pub among_both : {ms : List Bytes} (ns ks : List Bytes) → Among ms ns → Among ms ks → Among ms (ns ++ ks)
among_both ns ks h g n m = ⊎_elim (h n) (g n) (Memᴰ.append_cases ns m)

pub among_take : (k : ℕ) (ns : List Bytes) → Among ns (take k ns)
among_take k ns n m = rw take-append-drop at (Memᴰ.append_left (drop k ns) m)

pub among_drop : (k : ℕ) (ns : List Bytes) → Among ns (drop k ns)
among_drop k ns n m = rw take-append-drop at (Memᴰ.append_right (take k ns) m)

-- ---- members

-- A name of ns has the number i.
abbrev pub HasNumber : List Bytes → List Bytes → ℕ → Type 0
HasNumber taxa ns i = (n : Bytes) × Memᴰ n ns × (number taxa n ≡ i)

of_set : (taxa ns : List Bytes) {i : ℕ} → i ∈ set_of taxa ns → HasNumber taxa ns i
unfolding set_of
of_set taxa [] h = absurd (none h)
of_set taxa (a ∷ ns) h =
    ⊎_elim (λ g. (a, Memᴰ.head refl, sym (pow_in (number taxa a) g))) (λ g. let (n, m, e) = of_set taxa ns g in (n, Memᴰ.tail m, e))
    ((in∪ (2 ^ number taxa a) (set_of taxa ns)).0 h)

to_set : (taxa : List Bytes) {n : Bytes} {ns : List Bytes} → Memᴰ n ns → number taxa n ∈ set_of taxa ns
unfolding set_of
to_set taxa {n} (Memᴰ.head {xs = ns} e) = (in∪ (2 ^ number taxa _) (set_of taxa ns)).1 (inl (rw (← e) (in_pow (number taxa n))))
to_set taxa (Memᴰ.tail {x = a} {xs = ns} m) = (in∪ (2 ^ number taxa a) (set_of taxa ns)).1 (inr (to_set taxa m))

pub in_set : (taxa ns : List Bytes) {i : ℕ} → i ∈ set_of taxa ns ↔ HasNumber taxa ns i
in_set taxa ns = (of_set taxa ns, λ (n, m, e). rw (← e) (to_set taxa m))

pub set_known : {taxa ns : List Bytes} → Among taxa ns → set_of taxa ns ⊆ all (length taxa)
set_known {taxa} {ns} k = record { sub = λ h. let (n, m, e) = of_set taxa ns h in in_all (length taxa) (rw (← e) (number_at (k n m)).0) }

set_⊆ : (taxa : List Bytes) {ns ms : List Bytes} → Among ms ns → set_of taxa ns ⊆ set_of taxa ms
set_⊆ taxa {ns} k = record { sub = λ h. let (n, m, e) = of_set taxa ns h in rw (← e) (to_set taxa (k n m)) }

set_append : (taxa ns ms : List Bytes) → set_of taxa (ns ++ ms) ≡ set_of taxa ns ∪ set_of taxa ms
set_append taxa ns ms =
    ext (record { sub = λ h. to (of_set taxa (ns ++ ms) h) }) (∪-⊆ (set_⊆ taxa (λ n m. Memᴰ.append_left ms m)) (set_⊆ taxa (λ n m. Memᴰ.append_right ns m)))
  where
    to : {i : ℕ} → HasNumber taxa (ns ++ ms) i → i ∈ set_of taxa ns ∪ set_of taxa ms
    to (n, m, e) =
        rw (← e) ((in∪ (set_of taxa ns) (set_of taxa ms)).1 (⊎_elim (λ h. inl (to_set taxa h)) (λ h. inr (to_set taxa h)) (Memᴰ.append_cases ns m)))

-- ---- numbers

-- Numbers of known names stay, and so does their set.
pub set_seen : {taxa : List Bytes} (ms ns : List Bytes) → Among taxa ns → set_of (seen taxa ms) ns ≡ set_of taxa ns
unfolding set_of
set_seen ms [] k = refl
set_seen ms (n ∷ ns) k = rw (number_seen ms (k n (Memᴰ.head refl)), set_seen ms ns (λ m h. k m (Memᴰ.tail h)))

-- A new name has the next number, before it is seen and after.
number_new : (taxa : List Bytes) (n : Bytes) → is_in n taxa ≡ false → number taxa n ≡ length taxa
unfolding number is_in
number_new [] n e = refl
number_new (m ∷ taxa) n e = go (equal n m) e (number_new taxa n)
  where
    go : (c : Bool) → c || is_in n taxa ≡ false → (is_in n taxa ≡ false → number taxa n ≡ length taxa) → cond c 0 (suc (number taxa n)) ≡ suc (length taxa)
    go true f ih = absurd (true≢false f)
    go false f ih = ap suc (ih f)

number_last : (taxa : List Bytes) (n : Bytes) → number (taxa ++ n ∷ []) n ≡ number taxa n
unfolding number
number_last [] n = rw (equal_refl n)
number_last (m ∷ taxa) n = rw (number_last taxa n)

number_kept : (taxa : List Bytes) (n : Bytes) → number (seen taxa (n ∷ [])) n ≡ number taxa n
unfolding seen
number_kept taxa n = go (is_in n taxa)
  where
    go : (c : Bool) → number (cond c taxa (taxa ++ n ∷ [])) n ≡ number taxa n
    go true = refl
    go false = number_last taxa n

-- The test by numbers.
pub known_in : (taxa : List Bytes) (n : Bytes) → ltb (number taxa n) (length taxa) ≡ is_in n taxa
known_in taxa n = go (is_in n taxa) refl
  where
    go : (c : Bool) → is_in n taxa ≡ c → ltb (number taxa n) (length taxa) ≡ c
    go true e = lt-ltb (number taxa n) (length taxa) (number_at (is_in_mem n taxa e)).0
    go false e = le-ltb (number taxa n) (length taxa) (omega (arith, number_new taxa n e))

-- The taxa, with a name that may be new.
pub seen_known : (taxa : List Bytes) (n : Bytes) → cond (ltb (number taxa n) (length taxa)) taxa (taxa ++ n ∷ []) ≡ seen taxa (n ∷ [])
unfolding seen
seen_known taxa n = rw (known_in taxa n)

set_one : (taxa : List Bytes) (n : Bytes) → set_of taxa (n ∷ []) ≡ 2 ^ number taxa n
unfolding set_of
set_one taxa n = let b = 2 ^ number taxa n in ext (∪-⊆ (⊆-refl b) (record { sub = λ h. absurd (none h) })) (record { sub = λ h. (in∪ b 0).1 (inl h) })

-- One name more, by its number before it is seen.
pub set_entered : {taxa : List Bytes} (ns : List Bytes) (n : Bytes) → Among taxa ns
    → set_of taxa ns ∪ 2 ^ number taxa n ≡ set_of (seen taxa (n ∷ [])) (ns ++ n ∷ [])
set_entered {taxa} ns n k = let t = seen taxa (n ∷ []) in rw (set_append t ns (n ∷ []), set_one t n, number_kept taxa n, set_seen (n ∷ []) ns k)

-- No two taxa have one number.
one_name : {taxa : List Bytes} {n m : Bytes} → Memᴰ n taxa → Memᴰ m taxa → number taxa n ≡ number taxa m → n ≡ m
one_name {taxa} h g e = sym (number_at h).1 ∙ ap (λ (i : ℕ). get_or taxa i []) e ∙ (number_at g).1

-- ---- a name's own bit

pub not_in : (n : Bytes) {taxa ns : List Bytes} → Among taxa ns → is_in n taxa ≡ false → is_in n ns ≡ false
not_in n {taxa} {ns} k e = go (is_in n ns) refl
  where
    go : (c : Bool) → is_in n ns ≡ c → c ≡ false
    go true f = absurd (true≢false (sym (mem_is_in (k n (is_in_mem n ns f))) ∙ e))
    go false f = refl

pub bit_in : {n : Bytes} {taxa ns : List Bytes} → Memᴰ n taxa → Among taxa ns → within (2 ^ number taxa n) (set_of taxa ns) ≡ is_in n ns
bit_in {n} {taxa} {ns} h k = go (within (2 ^ number taxa n) (set_of taxa ns)) (is_in n ns) refl refl
  where
    go : (a b : Bool) → within (2 ^ number taxa n) (set_of taxa ns) ≡ a → is_in n ns ≡ b → a ≡ b
    go true true e f = refl
    go false false e f = refl
    go true false e f =
        let (m, g, i) = of_set taxa ns (((within_⊆ (2 ^ number taxa n) (set_of taxa ns)).0 e).sub (in_pow (number taxa n))) in
        let j = one_name (k m g) h i in absurd (true≢false (sym (mem_is_in (rw j at g)) ∙ f))
    go false true e f = absurd (true≢false (sym ((within_⊆ (2 ^ number taxa n) (set_of taxa ns)).1 (pow_⊆ (to_set taxa (is_in_mem n ns f)))) ∙ e))

-- ---- names that differ

-- What stands at a place of a list is in it.
pub in_list : {A : Type 0} (l : List A) (i : ℕ) (d : A) → i < length l → Memᴰ (get_or l i d) l
in_list [] i d b = absurd (omega arith)
in_list (a ∷ l) zero d b = Memᴰ.head refl
in_list (a ∷ l) (suc i) d b = Memᴰ.tail (in_list l i d (omega arith))

-- Taxon i has the number i.
pub number_of : {ns ms : List Bytes} → Distinct ns ms → (i : ℕ) → i < length ms → number ms (get_or ms i []) ≡ i
unfolding number
number_of end i l = absurd (omega arith)
number_of (next {m} e d) zero l = rw (equal_refl m)
number_of (next {m} {ns} {ms} e d) (suc i) l = go (equal (get_or ms i []) m) refl (number_of d i (omega arith))
  where
    go : (c : Bool) → equal (get_or ms i []) m ≡ c → number ms (get_or ms i []) ≡ i → cond c 0 (suc (number ms (get_or ms i []))) ≡ suc i
    go true f ih =
        let same = equal_true (get_or ms i []) m f in
        absurd (apart d (Memᴰ.append_right ns (Memᴰ.head same)) (in_list ms i [] (omega arith)))
    go false f ih = ap suc ih

-- Which taxa are in a set, by their names.
pub named_in : {taxa ns : List Bytes} → Distinct [] taxa → Among taxa ns → (i : ℕ) → i < length taxa → i ∈ set_of taxa ns ↔ Memᴰ (get_or taxa i []) ns
named_in {taxa} {ns} d k i l = (λ h. out ((in_set taxa ns).0 h), λ m. (in_set taxa ns).1 (get_or taxa i [], m, number_of d i l))
  where
    out : HasNumber taxa ns i → Memᴰ (get_or taxa i []) ns
    out (n, m, e) = Memᴰ.cast (ap (λ (j : ℕ). get_or taxa j []) (sym e) ∙ (number_at (k n m)).1) m

since : {taxa : List Bytes} (ns ms : List Bytes) → Among taxa (ns ++ ms) → Distinct [] (ns ++ ms) → set_of taxa (ns ++ ms) ∖ set_of taxa ns ≡ set_of taxa ms
since {taxa} ns ms k d = ext (record { sub = λ h. out ((in∖ (set_of taxa (ns ++ ms)) (set_of taxa ns)).0 h) }) (record { sub = λ h. back (of_set taxa ms h) })
  where
    out : {i : ℕ} → i ∈ set_of taxa (ns ++ ms) × i ∉ set_of taxa ns → i ∈ set_of taxa ms
    out (h, g) = ⊎_elim (λ x. absurd (g x)) (λ x. x) ((in∪ (set_of taxa ns) (set_of taxa ms)).0 (rw (set_append taxa ns ms) at h))

    back : {i : ℕ} → HasNumber taxa ms i → i ∈ set_of taxa (ns ++ ms) ∖ set_of taxa ns
    back {i} (m, h, e) = (in∖ (set_of taxa (ns ++ ms)) (set_of taxa ns)).1 (rw (← e) (to_set taxa (Memᴰ.append_right ns h)), λ g. other (of_set taxa ns g))
      where
        other : HasNumber taxa ns i → ⊥
        other (n, g, f) =
            let j = one_name (k n (Memᴰ.append_left ms g)) (k m (Memᴰ.append_right ns h)) (f ∙ sym e) in
            apart (distinct_latter [] ns ms d) g (rw (← j) at h)

-- The names since the first k are the tree's names without those.
pub set_drop : {taxa ns : List Bytes} (k : ℕ) → Among taxa ns → Distinct [] ns → set_of taxa ns ∖ set_of taxa (take k ns) ≡ set_of taxa (drop k ns)
set_drop {taxa} {ns} k h d =
    rw take-append-drop at (since {taxa = taxa} (take k ns) (drop k ns) (rw take-append-drop h) (rw take-append-drop d))
