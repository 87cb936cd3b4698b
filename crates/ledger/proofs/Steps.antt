-- What the ledger of a tally becomes at a token is the ledger of what the tally becomes (`kept`), and the token breaks the same limits (`same_wrongs`).
use mathlib.Core.Path.{◌≡◌, refl, sym, ap, ap₂}
use mathlib.Core.Bool.{Bool, true, false, cond}
use mathlib.Core.List.{List, [], ◌∷◌, ◌++◌, map, tail, map-append, map-map, Memᴰ}
use Prim.Native.Nat.{ℕ, zero, suc, ◌-◌, ◌^◌}
use native.Mathlib.Numerals.{add-one}
use native.Mathlib.Omega.{arith}
use lib.Dec.{ltb, eqb, eqb-suc-zero, leb-suc-suc}
use lib.ListN.{length, set, take, length-append, length-map, length-set}
use lib.Seq.{take-append-le, take-length}
use borrow.Author.Tests.{le-ltb}
use Rattle.taxa.specs.Sets.{within}
use Rattle.grammar.specs.Bytes.{left, right, comma, semicolon}
use Rattle.grammar.specs.Trees.{Token, word, sign}
use Rattle.grammar.specs.Columns.{Bytes, Column}
use Rattle.grammar.specs.Limits.{is_in, seen, number}
use Rattle.grammar.specs.Clerk as clerk
use Rattle.grammar.specs.Clerk.{Tally, name, opened, closed, finished}
use Rattle.grammar.proofs.Numbering.{is_in_mem}
use Rattle.ledger.specs.Sets.{set_of}
use Rattle.ledger.specs.inner.Ledger.{Ledger, entering, opening, closing, finishing, wrongs, keep}
use Rattle.ledger.specs.inner.Copy.{bracket_of, ledger_of}
use Rattle.ledger.proofs.Orderly.{Orderly, in_tail}
use Rattle.ledger.proofs.Sets.{Among, among_take, set_seen, seen_known, set_entered, set_drop, known_in, not_in, bit_in}

-- ---- lists

map_same {ℓ κ} : {A : Type ℓ} {B : Type κ} {f g : A → B} (l : List A) → ((a : A) → Memᴰ a l → f a ≡ g a) → map f l ≡ map g l
map_same [] h = refl
map_same (a ∷ l) h = ap₂ ◌∷◌ (h a (Memᴰ.head refl)) (map_same l (λ b m. h b (Memᴰ.tail m)))

map-set {ℓ κ} : {A : Type ℓ} {B : Type κ} (f : A → B) (l : List A) (i : ℕ) (a : A) → map f (set l i a) ≡ set (map f l) i (f a)
map-set f [] i a = refl
map-set f (b ∷ l) zero a = refl
map-set f (b ∷ l) (suc i) a = rw (map-set f l i a)

-- All but the first, with one more, and with another in a place.
tail_more {ℓ} : {A : Type ℓ} (f : A → ℕ) (l : List A) (a : A)
    → cond (eqb (length l) 0) (map f (tail l)) (map f (tail l) ++ f a ∷ []) ≡ map f (tail (l ++ a ∷ []))
tail_more f [] a = refl
tail_more f (b ∷ l) a = rw (eqb-suc-zero (length l)) (sym (map-append f l (a ∷ [])))

tail-set {ℓ} : {A : Type ℓ} (f : A → ℕ) (l : List A) (i : ℕ) {a : A} {b : ℕ} → b ≡ f a
    → cond (eqb i 0) (map f (tail l)) (set (map f (tail l)) (i - 1) b) ≡ map f (tail (set l i a))
tail-set f [] zero e = refl
tail-set f [] (suc i) e = rw (eqb-suc-zero i)
tail-set f (c ∷ l) zero e = refl
tail-set f (c ∷ l) (suc i) {a} e = let d : suc i - 1 ≡ i = omega arith in rw (eqb-suc-zero i, d, e) (sym (map-set f l i a))

-- ---- what is kept

same_ledger : {l m : Ledger} → l.taxa ≡ m.taxa → l.ones ≡ m.ones → l.zeros ≡ m.zeros
    → l.here ≡ m.here → l.brackets ≡ m.brackets → l.opened ≡ m.opened → l.clades ≡ m.clades → l ≡ m
same_ledger a b c d e f g = λ k. record { taxa = a k; ones = b k; zeros = c k; here = d k; brackets = e k; opened = f k; clades = g k }

module _ {x : Tally} (h : Orderly x) where
  clade_known : (c : List Bytes) → Memᴰ c x.clades → Among x.taxa c
  clade_known c m n l = h.here n (h.clades c m n l)

  ones_known : (c : Column) → Memᴰ c x.columns → Among x.taxa c.ones
  ones_known c m n l = let (t, o) = h.columns c m in t n (o n l)

  -- The names before a bracket stay.
  before_stays : (n : Bytes) (o : clerk.Opened) → Memᴰ o x.brackets
      → set_of (seen x.taxa (n ∷ [])) (take o.names (x.here ++ n ∷ [])) ≡ set_of x.taxa (take o.names x.here)
  before_stays n o m =
      let ns = take o.names x.here in
      rw (take-append-le o.names x.here (n ∷ []) (h.brackets o m)) (set_seen (n ∷ []) ns (λ m l. h.here m (among_take o.names x.here m l)))

  entered : (n : Bytes) → entering (ledger_of x) n ≡ ledger_of (name x n)
  entered n =
      let stays = set_seen {taxa = x.taxa} (n ∷ []) in
      same_ledger (seen_known x.taxa n)
      (map_same x.columns (λ c m. sym (stays c.ones (ones_known c m))))
      (map_same x.columns (λ c m. rw (stays c.ones (ones_known c m), stays c.tree (h.columns c m).0)))
      (set_entered x.here n h.here)
      (map_same x.brackets (λ o m. rw (before_stays n o m)))
      refl
      (map_same (tail x.clades) (λ c m. sym (stays c (clade_known c (in_tail x.clades m)))))

  bracket_opened : opening (ledger_of x) ≡ ledger_of (opened x)
  unfolding set_of
  bracket_opened =
      same_ledger refl refl refl refl (rw take-length) (omega (arith, length-append x.clades ([] ∷ []))) (tail_more (set_of x.taxa) x.clades [])

  bracket_closed : (os : List clerk.Opened) → closing (ledger_of x) (map (bracket_of x.taxa x.here) os) ≡ ledger_of (closed x os)
  bracket_closed [] = refl
  bracket_closed (o ∷ os) =
      same_ledger refl refl refl refl refl (rw length-set)
      (tail-set (set_of x.taxa) x.clades o.index (set_drop o.names h.here h.once))

  tree_finished : finishing (ledger_of x) ≡ ledger_of (finished x)
  unfolding set_of
  tree_finished = same_ledger refl (simp (map-append, map-map)) (simp (map-append, map-map)) refl refl refl refl

  pub kept : (w : Token) → keep (ledger_of x) w ≡ ledger_of (clerk.keep x w)
  unfolding keep clerk.keep
  kept (word n) = entered n
  kept (sign left) = bracket_opened
  kept (sign right) = bracket_closed x.brackets
  kept (sign comma) = refl
  kept (sign semicolon) = tree_finished

  -- ---- what a token breaks

  name_wrongs : (n : Bytes) (c : Bool) → is_in n x.taxa ≡ c
      → ◌≡◌ {A = List ℕ}
      (cond c (cond (within (2 ^ number x.taxa n) (set_of x.taxa x.here)) (18 ∷ []) []) (cond (ltb 63 (length x.taxa)) (19 ∷ []) []))
      (cond (is_in n x.here) (18 ∷ []) (cond (ltb 64 (length (cond c x.taxa (x.taxa ++ n ∷ [])))) (19 ∷ []) []))
  name_wrongs n true e = rw (bit_in (is_in_mem n x.taxa e) h.here, le-ltb 64 (length x.taxa) h.few)
  name_wrongs n false e = rw (not_in n h.here e, length-append, add-one, leb-suc-suc 64 (length x.taxa))

  pub same_wrongs : (w : Token) → wrongs (ledger_of x) w ≡ clerk.wrongs x w
  unfolding wrongs clerk.wrongs seen
  same_wrongs (word n) = rw (known_in x.taxa n) (ap (cond (ltb 32 (length n)) (17 ∷ [])) (name_wrongs n (is_in n x.taxa) refl))
  same_wrongs (sign left) = simp length-map
  same_wrongs (sign right) = refl
  same_wrongs (sign comma) = refl
  same_wrongs (sign semicolon) = refl
