-- A tree that shows S has as many names as S has taxa, fewer brackets, and is less deep (`sizes`); no name stands twice (`distinct`).
use mathlib.Core.Path.{◌≡◌, refl, sym, ◌∙◌, subst}
use mathlib.Core.Bool.{Bool, true, false}
use mathlib.Core.Logic.{inl, inr, ⊎_elim}
use mathlib.Core.List.{List, ◌∷◌, ◌++◌}
use Prim.Native.Nat.{ℕ, suc, max, ◌^◌, ◌<◌}
use native.Mathlib.Omega.{arith}
use lib.ListN.{length, length-append}
use Rattle.taxa.specs.Sets.{◌∈◌, ◌⊆◌, Disjoint, ◌∪◌, count}
use Rattle.taxa.proofs.Members.{in∪, ∪-⊆, ⊆-trans, ⊆-≤, in_pow}
use Rattle.taxa.proofs.Counts.{count_∪}
use Rattle.grammar.specs.Trees.{Tree, Trees}
use Rattle.grammar.specs.Columns.{Bytes, names, all_names, clades, all_clades}
use Rattle.grammar.specs.Limits.{is_in, Distinct, end, depth, deepest}
use Rattle.grammar.specs.Limits as limits
use Rattle.grammar.proofs.Lists.{distinct_both}
use Rattle.grammar.proofs.Numbering.{is_in_mem}
use Rattle.clades.specs.Shows.{Laminar, Part, Shows, taxon, group, Row, first, next}
use Rattle.clades.specs.Clades.{Differ, Names}
use Rattle.clades.proofs.Parts.{apart, row_in}
use Rattle.clades.proofs.Clades.{names_∪, row_names}
use Rattle.clades.proofs.Drawing.{alone}

pub record Sizes (S : ℕ) (ns : List Bytes) (cs : List (List Bytes)) (d : ℕ) : Type 0 where
  pub all_names_lem : length ns ≡ count 64 S
  pub brackets : length cs < count 64 S
  pub deep : d < count 64 S

-- Two sets that share no taxon.
join : {D P : ℕ} {ns ms : List Bytes} {cs es : List (List Bytes)} {d e : ℕ}
    → Disjoint D P → Sizes D ns cs d → Sizes P ms es e → Sizes (D ∪ P) (ns ++ ms) (cs ++ es) (max d e)
join {D} {P} {ns} {ms} {cs} {es} a x y = record {
  all_names_lem = omega (arith, length-append ns ms, count_∪ 64 a, x.all_names_lem, y.all_names_lem);
  brackets = omega (arith, length-append cs es, count_∪ 64 a, x.brackets, y.brackets);
  deep = omega (arith, count_∪ 64 a, x.deep, y.deep);
}

-- .. in a bracket.
enclose : {D P : ℕ} {ns ms c : List Bytes} {cs es : List (List Bytes)} {d e : ℕ}
    → Disjoint D P → Sizes D ns cs d → Sizes P ms es e → Sizes (D ∪ P) (ns ++ ms) (c ∷ (cs ++ es)) (suc (max d e))
enclose {D} {P} {ns} {ms} {cs = cs} {es = es} a x y = record {
  all_names_lem = omega (arith, length-append ns ms, count_∪ 64 a, x.all_names_lem, y.all_names_lem);
  brackets = omega (arith, length-append cs es, count_∪ 64 a, x.brackets, y.brackets);
  deep = omega (arith, count_∪ 64 a, x.deep, y.deep);
}

smaller : {gs : List ℕ} {S i P : ℕ} → Part gs S i P → S < 2 ^ 64 → P < 2 ^ 64
smaller p s = omega (arith, ⊆-≤ p.inside)

module _ {name : ℕ → Bytes} {gs : List ℕ} (lam : Laminar gs) where
  mutual
    unfolding names clades depth

    pub sizes : {S : ℕ} {t : Tree} → Shows name gs S t → S < 2 ^ 64 → Sizes S (names t) (clades t) (depth t)
    sizes (taxon i e f) s =
        let k = alone i e s in record { all_names_lem = sym k; brackets = omega arith; deep = omega arith }
    sizes (group g r o p t e) s = rw (← e) (enclose (apart lam r o p) (row_sizes r s) (sizes t (smaller p s)))

    row_sizes : {S D : ℕ} {ts : Trees} → Row name gs S D ts → S < 2 ^ 64 → Sizes D (all_names ts) (all_clades ts) (deepest ts)
    row_sizes (first o p t) s = sizes t (smaller p s)
    row_sizes (next r o p t e) s = rw e (join (apart lam r o p) (row_sizes r s) (sizes t (smaller p s)))

  module _ {A : ℕ} (dif : Differ name A) where
    fresh : {X S i : ℕ} {n : Bytes} {ns : List Bytes} → Names name X ns → X ⊆ A → i ∈ A → Disjoint X S → i ∈ S → n ≡ name i → is_in n ns ≡ false
    fresh {X} {S} {i} {n} {ns} x s a d m e = go (is_in n ns) refl
      where
        go : (c : Bool) → is_in n ns ≡ c → c ≡ false
        go false f = refl
        go true f = let (j, k, h) = x.only (is_in_mem n ns f) in absurd (d.off (subst (λ (l : ℕ). l ∈ X) (dif.differ (s.sub k) a (sym h ∙ e)) k) m)

    mutual
      unfolding names

      pub distinct : {X S : ℕ} {ns : List Bytes} {t : Tree} → Shows name gs S t → S ⊆ A → Names name X ns → X ⊆ A → Disjoint X S → Distinct ns (names t)
      distinct (taxon i e f) s x u d = limits.next (fresh x u (s.sub (rw e (in_pow i))) d (rw e (in_pow i)) f) end
      distinct {X} {S} {ns} (group {D = D} {P = P} {ts = ts} {t = v} g r o p t e) s x u d =
          let h = apart lam r o p in
          distinct_both ns (all_names ts) (names v) (row_distinct r s x u (record { off = λ y z. d.off y ((row_in lam r).sub z) }))
          (distinct t (⊆-trans p.inside s) (names_∪ x (row_names r)) (∪-⊆ u (⊆-trans (row_in lam r) s))
          (record { off = λ y z. ⊎_elim (λ q. d.off q (p.inside.sub z)) (λ q. h.off q z) ((in∪ X D).0 y) }))

      row_distinct : {X S D : ℕ} {ns : List Bytes} {ts : Trees} → Row name gs S D ts → S ⊆ A → Names name X ns → X ⊆ A → Disjoint X D
          → Distinct ns (all_names ts)
      row_distinct (first o p t) s x u d = distinct t (⊆-trans p.inside s) x u d
      row_distinct {X} {S} {ns = ns} (next {D = D} {E = E} {P = P} {ts = ts} {t = v} r o p t e) s x u d =
          let h = apart lam r o p in
          let w = row_in lam r in
          distinct_both ns (all_names ts) (names v) (row_distinct r s x u (record { off = λ y z. d.off y (rw e ((in∪ D P).1 (inl z))) }))
          (distinct t (⊆-trans p.inside s) (names_∪ x (row_names r)) (∪-⊆ u (⊆-trans w s))
          (record { off = λ y z. ⊎_elim (λ q. d.off q (rw e ((in∪ D P).1 (inr z)))) (λ q. h.off q z) ((in∪ X D).0 y) }))
