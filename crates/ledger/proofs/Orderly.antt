-- What holds of the clerk's tally while he reads (`Orderly`), after each token that he takes (`orderly`).
use mathlib.Core.Path.{◌≡◌, refl}
use mathlib.Core.Bool.{Bool, true, false, cond}
use mathlib.Core.Logic.{◌⊎◌, inl, inr, ⊎_elim}
use mathlib.Core.List.Memᴰ
use mathlib.Core.List.{List, [], ◌∷◌, tail, Memᴰ}
use Prim.Native.Nat.{ℕ, zero, suc, ◌≤◌}
use native.Mathlib.Omega.{arith}
use lib.Dec.{ltb}
use lib.ListN.{length, set, length-append}
use borrow.Author.Tests.{ltb-false}
use Rattle.grammar.specs.Bytes.{left, right, comma, semicolon}
use Rattle.grammar.specs.Trees.{Token, word, sign}
use Rattle.grammar.specs.Columns.{Bytes, Column}
use Rattle.grammar.specs.Limits.{is_in, seen, Distinct, end, next}
use Rattle.grammar.specs.Clerk.{Opened, Tally, nothing, name, opened, closed, finished, wrongs, keep}
use Rattle.grammar.proofs.Lists.{distinct_both}
use Rattle.grammar.proofs.Numbering.{seen_keeps, seen_has}
use Rattle.ledger.proofs.Sets.{Among, among_both, among_drop}

-- What holds of a tally while reading: its names are those of taxa, of which there are few, and no name stands twice in the tree.
pub record Orderly (x : Tally) : Type 0 where
  pub few : length x.taxa ≤ 64
  pub columns : (c : Column) → Memᴰ c x.columns → Among x.taxa c.tree × Among c.tree c.ones
  pub here : Among x.taxa x.here
  pub once : Distinct [] x.here
  pub brackets : (o : Opened) → Memᴰ o x.brackets → o.names ≤ length x.here
  pub clades : (c : List Bytes) → Memᴰ c x.clades → Among x.here c

pub orderly_start : Orderly nothing
orderly_start = record {
  few = omega arith;
  columns = λ c m. absurd (Memᴰ.not-nil m);
  here = λ n m. absurd (Memᴰ.not-nil m);
  once = end;
  brackets = λ o m. absurd (Memᴰ.not-nil m);
  clades = λ c m. absurd (Memᴰ.not-nil m);
}

-- ---- lists

in-changed {ℓ} : {A : Type ℓ} {a b : A} (l : List A) (i : ℕ) → Memᴰ a (set l i b) → (a ≡ b) ⊎ Memᴰ a l
in-changed [] i m = inr m
in-changed (c ∷ l) zero m = ⊎_elim inl (λ h. inr (Memᴰ.tail h)) (Memᴰ.cases_cons m)
in-changed (c ∷ l) (suc i) m = ⊎_elim (λ e. inr (Memᴰ.head e)) (λ h. ⊎_elim inl (λ g. inr (Memᴰ.tail g)) (in-changed l i h)) (Memᴰ.cases_cons m)

pub in_tail {ℓ} : {A : Type ℓ} {a : A} (l : List A) → Memᴰ a (tail l) → Memᴰ a l
in_tail [] m = m
in_tail (b ∷ l) m = Memᴰ.tail m

filled : {A : Type 0} {r : ℕ} {rs : List ℕ} → r ∷ rs ≡ [] → A
filled e = let z : ◌≡◌ {A = ℕ} 0 1 = cc in absurd (omega arith)

-- ---- tokens

module _ {x : Tally} (h : Orderly x) where
  with_name_lem : (n : Bytes) → is_in n x.here ≡ false → length (seen x.taxa (n ∷ [])) ≤ 64 → Orderly (name x n)
  with_name_lem n e l = record {
    few = l;
    columns = λ c m. let (t, o) = h.columns c m in (λ m k. seen_keeps (n ∷ []) (t m k), o);
    here = among_both x.here (n ∷ []) (λ m k. seen_keeps (n ∷ []) (h.here m k)) (λ m k. seen_has x.taxa k);
    once = distinct_both [] x.here (n ∷ []) h.once (next e end);
    brackets = λ o m. omega (arith, h.brackets o m, length-append x.here (n ∷ []));
    clades = λ c m k l. Memᴰ.append_left (n ∷ []) (h.clades c m k l);
  }

  with_bracket : Orderly (opened x)
  with_bracket = record {
    few = h.few;
    columns = h.columns;
    here = h.here;
    once = h.once;
    brackets = λ o m. ⊎_elim (λ e. rw e (omega arith)) (h.brackets o) (Memᴰ.cases_cons m);
    clades = λ c m. ⊎_elim (h.clades c) (λ k. none (Memᴰ.eq_of_singleton k)) (Memᴰ.append_cases x.clades m);
  }
    where
      none : {c : List Bytes} → c ≡ [] → Among x.here c
      none e n l = absurd (Memᴰ.not-nil (rw e at l))

  without_bracket : (os : List Opened) → ((o : Opened) → Memᴰ o os → o.names ≤ length x.here) → Orderly (closed x os)
  without_bracket [] b = h
  without_bracket (o ∷ os) b = record {
    few = h.few;
    columns = h.columns;
    here = h.here;
    once = h.once;
    brackets = λ q m. b q (Memᴰ.tail m);
    clades = λ c m. ⊎_elim (λ e n l. among_drop o.names x.here n (rw e at l)) (h.clades c) (in-changed x.clades o.index m);
  }

  -- The column of a clade.
  abbrev column_of : List Bytes → Column
  column_of c = record { ones = c; tree = x.here }

  of_clade : {c : Column} → (d : List Bytes) × Memᴰ d (tail x.clades) × (column_of d ≡ c) → Among x.taxa c.tree × Among c.tree c.ones
  of_clade (d, m, e) = rw (← e) (h.here, h.clades d (in_tail x.clades m))

  with_tree : Orderly (finished x)
  with_tree = record {
    few = h.few;
    columns = λ c m. ⊎_elim (h.columns c) (λ k. of_clade (Memᴰ.of_map column_of (tail x.clades) k)) (Memᴰ.append_cases x.columns m);
    here = λ n m. absurd (Memᴰ.not-nil m);
    once = end;
    brackets = λ o m. absurd (Memᴰ.not-nil m);
    clades = λ c m. absurd (Memᴰ.not-nil m);
  }

  pub orderly : (w : Token) → wrongs x w ≡ [] → Orderly (keep x w)
  unfolding wrongs keep
  orderly (word n) e = go (ltb 32 (length n)) (is_in n x.here) (ltb 64 (length (seen x.taxa (n ∷ [])))) refl refl e
    where
      go : (a b c : Bool) → is_in n x.here ≡ b → ltb 64 (length (seen x.taxa (n ∷ []))) ≡ c
          → ◌≡◌ {A = List ℕ} (cond a (17 ∷ []) (cond b (18 ∷ []) (cond c (19 ∷ []) []))) [] → Orderly (name x n)
      go true b c f g o = filled o
      go false true c f g o = filled o
      go false false true f g o = filled o
      go false false false f g o = with_name_lem n f (ltb-false 64 (length (seen x.taxa (n ∷ []))) g)
  orderly (sign left) e = with_bracket
  orderly (sign right) e = without_bracket x.brackets h.brackets
  orderly (sign comma) e = h
  orderly (sign semicolon) e = with_tree
