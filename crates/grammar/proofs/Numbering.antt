-- Numbers by first appearance: each name of the text has one (`seen_has`, `number_at`), no two names share one (`seen_distinct`), and it never changes (`number_seen`).
use mathlib.Core.Path.{◌≡◌, refl, sym, ap, ◌∙◌}
use mathlib.Core.Bool.{Bool, true, false, ◌||◌, cond, true≢false}
use mathlib.Core.List.Memᴰ
use mathlib.Core.List.{List, [], ◌∷◌, ◌++◌, append_assoc, append-nil, Memᴰ}
use Prim.Native.Nat.{suc, ◌<◌}
use native.Mathlib.Omega.{arith}
use lib.ListN.{length, get_or}
use Rattle.grammar.specs.Columns.{Bytes}
use Rattle.record.specs.Bytes.{equal}
use Rattle.record.proofs.Equal.{equal_refl, equal_true}
use Rattle.grammar.specs.Limits.{is_in, seen, number, Distinct, end, next}
use Rattle.grammar.proofs.Lists.{distinct_both}

-- ---- names that are listed

or_right : (a b : Bool) → b ≡ true → a || b ≡ true
or_right true b e = refl
or_right false b e = e

pub mem_is_in : {n : Bytes} {ns : List Bytes} → Memᴰ n ns → is_in n ns ≡ true
unfolding is_in
mem_is_in {n} (Memᴰ.head e) = rw (← e, equal_refl n)
mem_is_in {n} (Memᴰ.tail {x = m} {xs = ns} l) = or_right (equal n m) (is_in n ns) (mem_is_in l)

pub is_in_mem : (n : Bytes) (ns : List Bytes) → is_in n ns ≡ true → Memᴰ n ns
unfolding is_in
is_in_mem n [] e = absurd (true≢false (sym e))
is_in_mem n (m ∷ ns) e = go (equal n m) refl e (is_in_mem n ns)
  where
    go : (c : Bool) → equal n m ≡ c → c || is_in n ns ≡ true → (is_in n ns ≡ true → Memᴰ n ns) → Memᴰ n (m ∷ ns)
    go true f g ih = Memᴰ.head (equal_true n m f)
    go false f g ih = Memᴰ.tail (ih g)

-- ---- numbers

pub number_at : {n : Bytes} {ns : List Bytes} → Memᴰ n ns → (number ns n < length ns) × (get_or ns (number ns n) [] ≡ n)
unfolding number
number_at {n} (Memᴰ.head e) = rw (← e, equal_refl n) (omega arith, refl)
number_at {n} (Memᴰ.tail {x = m} {xs = ns} l) = go (equal n m) refl (number_at l)
  where
    go : (c : Bool) → equal n m ≡ c → (number ns n < length ns) × (get_or ns (number ns n) [] ≡ n)
        → (cond c 0 (suc (number ns n)) < suc (length ns)) × (get_or (m ∷ ns) (cond c 0 (suc (number ns n))) [] ≡ n)
    go true f ih = (omega arith, sym (equal_true n m f))
    go false f (i, j) = (omega arith, j)

pub number_stays : {n : Bytes} {ns : List Bytes} (ms : List Bytes) → Memᴰ n ns → number (ns ++ ms) n ≡ number ns n
unfolding number
number_stays {n} ms (Memᴰ.head e) = rw (← e, equal_refl n)
number_stays {n} ms (Memᴰ.tail {x = m} {xs = ns} l) = rw (number_stays ms l)

-- ---- taxa

-- The names ns, with m if it is new.
abbrev with : List Bytes → Bytes → Bool → List Bytes
with ns m c = cond c ns (ns ++ m ∷ [])

with_prefix : (ns : List Bytes) (m : Bytes) (c : Bool) → (r : List Bytes) × (with ns m c ≡ ns ++ r)
with_prefix ns m true = ([], sym (append-nil ns))
with_prefix ns m false = (m ∷ [], refl)

with_has : (ns : List Bytes) (m : Bytes) (c : Bool) → is_in m ns ≡ c → Memᴰ m (with ns m c)
with_has ns m true e = is_in_mem m ns e
with_has ns m false e = Memᴰ.append_right ns (Memᴰ.head refl)

with_distinct : (ns : List Bytes) (m : Bytes) (c : Bool) → is_in m ns ≡ c → Distinct [] ns → Distinct [] (with ns m c)
with_distinct ns m true e d = d
with_distinct ns m false e d = distinct_both [] ns (m ∷ []) d (next e end)

-- What is seen stays where it is.
pub seen_prefix : (ns ms : List Bytes) → (r : List Bytes) × (seen ns ms ≡ ns ++ r)
unfolding seen
seen_prefix ns [] = ([], sym (append-nil ns))
seen_prefix ns (m ∷ ms) =
    let (r, e) = seen_prefix (with ns m (is_in m ns)) ms in
    let (q, f) = with_prefix ns m (is_in m ns) in
    (q ++ r, e ∙ ap (λ (l : List Bytes). l ++ r) f ∙ append_assoc ns q r)

pub seen_keeps : {n : Bytes} {ns : List Bytes} (ms : List Bytes) → Memᴰ n ns → Memᴰ n (seen ns ms)
seen_keeps {n} {ns} ms l = let (r, e) = seen_prefix ns ms in rw e (Memᴰ.append_left r l)

pub number_seen : {n : Bytes} {ns : List Bytes} (ms : List Bytes) → Memᴰ n ns → number (seen ns ms) n ≡ number ns n
number_seen {n} {ns} ms l = let (r, e) = seen_prefix ns ms in rw e (number_stays r l)

-- Each name is seen.
pub seen_has : {n : Bytes} (ns : List Bytes) {ms : List Bytes} → Memᴰ n ms → Memᴰ n (seen ns ms)
unfolding seen
seen_has {n} ns (Memᴰ.head {x = m} {xs = ms} e) = rw e (seen_keeps ms (with_has ns m (is_in m ns) refl))
seen_has ns (Memᴰ.tail {x = m} l) = seen_has (with ns m (is_in m ns)) l

pub seen_distinct : (ns ms : List Bytes) → Distinct [] ns → Distinct [] (seen ns ms)
unfolding seen
seen_distinct ns [] d = d
seen_distinct ns (m ∷ ms) d = seen_distinct (with ns m (is_in m ns)) ms (with_distinct ns m (is_in m ns) refl d)

-- Names of which none stands twice.
pub apart : {n : Bytes} {ns ms : List Bytes} → Distinct ns ms → Memᴰ n ns → Memᴰ n ms → ⊥
apart (next e d) h (Memᴰ.head f) = true≢false (sym (mem_is_in (rw f at h)) ∙ e)
apart (next {m} e d) h (Memᴰ.tail g) = apart d (Memᴰ.append_left (m ∷ []) h) g
apart end h l = elim l [ ]
