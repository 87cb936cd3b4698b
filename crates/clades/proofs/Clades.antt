-- The clades of a tree that shows S are the groups inside S (`clade_group`, `group_clade`).
use mathlib.Core.Path.{◌≡◌, refl, sym, ap, ◌∙◌, subst}
use mathlib.Core.Logic.{◌⊎◌, inl, inr, ⊎_elim}
use mathlib.Core.List.Memᴰ
use mathlib.Core.List.{List, [], ◌∷◌, ◌++◌, Memᴰ}
use Prim.Native.Nat.{ℕ, ◌^◌}
use native.Mathlib.Decide.{ℕ_discrete}
use Rattle.taxa.specs.Sets.{◌∈◌, ◌⊆◌, ◌∪◌}
use Rattle.taxa.proofs.Members.{in∪, ⊆-refl, ⊆-trans, in_pow, pow_in}
use Rattle.grammar.specs.Trees.{Tree, Trees, inner}
use Rattle.grammar.specs.Columns.{Bytes, names, all_names, clades, all_clades}
use Rattle.clades.specs.Shows.{Laminar, Shows, taxon, group, Row, first, next}
use Rattle.clades.specs.Clades.{Names, OfGroup, HasClade}
use Rattle.clades.proofs.Parts.{in_part}

module _ {name : ℕ → Bytes} where
  pub names_∪ : {X Y : ℕ} {ns ms : List Bytes} → Names name X ns → Names name Y ms → Names name (X ∪ Y) (ns ++ ms)
  names_∪ {X} {Y} {ns} {ms} x y = record {
    has = λ l. ⊎_elim (λ h. Memᴰ.append_left ms (x.has h)) (λ h. Memᴰ.append_right ns (y.has h)) ((in∪ X Y).0 l);
    only = λ l.
        ⊎_elim
        (λ h. let (i, u, e) = x.only h in (i, (in∪ X Y).1 (inl u), e))
        (λ h. let (i, u, e) = y.only h in (i, (in∪ X Y).1 (inr u), e))
        (Memᴰ.append_cases ns l);
  }

  names_one : {S : ℕ} {n : Bytes} (i : ℕ) → S ≡ 2 ^ i → n ≡ name i → Names name S (n ∷ [])
  names_one {S} {n} i e f = record {
    has = λ {i = j} l. Memᴰ.head (ap name (pow_in i (subst (λ (X : ℕ). j ∈ X) e l)) ∙ sym f);
    only = λ l. (i, rw e (in_pow i), Memᴰ.eq_of_singleton l ∙ f);
  }

  module _ {gs : List ℕ} where
    mutual
      unfolding names

      pub shown_names : {S : ℕ} {t : Tree} → Shows name gs S t → Names name S (names t)
      shown_names (taxon i e f) = names_one i e f
      shown_names (group g r o p t e) = rw (← e) (names_∪ (row_names r) (shown_names t))

      pub row_names : {S D : ℕ} {ts : Trees} → Row name gs S D ts → Names name D (all_names ts)
      row_names (first o p t) = shown_names t
      row_names (next r o p t e) = rw e (names_∪ (row_names r) (shown_names t))

    -- ---- each clade is a group

    mutual
      unfolding clades names

      pub clade_group : {S : ℕ} {t : Tree} {c : List Bytes} → Shows name gs S t → Memᴰ c (clades t) → OfGroup name gs S c
      clade_group (taxon i e f) l = absurd (Memᴰ.not-nil l)
      clade_group {S} (group {ts = ts} g r o p t e) l =
          ⊎_elim (λ h. (S, g, ⊆-refl S, subst (Names name S) (sym h) (shown_names (group g r o p t e))))
          (λ h.
          ⊎_elim (λ h. row_group r h) (λ h. let (G, a, b, n) = clade_group t h in (G, a, ⊆-trans b p.inside, n)) (Memᴰ.append_cases (all_clades ts) h))
          (Memᴰ.cases_cons l)

      row_group : {S D : ℕ} {ts : Trees} {c : List Bytes} → Row name gs S D ts → Memᴰ c (all_clades ts) → OfGroup name gs S c
      row_group (first o p t) l = let (G, a, b, n) = clade_group t l in (G, a, ⊆-trans b p.inside, n)
      row_group (next {ts = ts} r o p t e) l =
          ⊎_elim (λ h. row_group r h) (λ h. let (G, a, b, n) = clade_group t h in (G, a, ⊆-trans b p.inside, n)) (Memᴰ.append_cases (all_clades ts) l)

    -- ---- each group is a clade

    module _ (lam : Laminar gs) where
      module _ {G l : ℕ} (g : Memᴰ G gs) (x : l ∈ G) (two : (i : ℕ) → G ⊆ 2 ^ i → ⊥) where
        mutual
          unfolding clades names

          pub group_clade : {S : ℕ} {t : Tree} → Shows name gs S t → G ⊆ S → HasClade name G (clades t)
          group_clade (taxon i e f) s = absurd (two i (rw e at s))
          group_clade {S} (group {D = D} {P = P} {ts = ts} {t = u} h r o p t e) s = go (ℕ_discrete G S) (λ n y. row_clade r s n y) (λ q. group_clade t q)
            where
              go : Dec (G ≡ S) → ((G ≡ S → ⊥) → l ∈ D → HasClade name G (all_clades ts)) → (G ⊆ P → HasClade name G (clades u))
                  → HasClade name G (clades (inner ts u))
              go (yes f) a b = (all_names ts ++ names u, Memᴰ.head refl, rw f (shown_names (group h r o p t e)))
              go (no n) a b =
                  ⊎_elim (λ y. let (c, m, k) = a n y in (c, Memᴰ.tail (Memᴰ.append_left (clades u) m), k))
                  (λ y. let (c, m, k) = b (in_part lam p g s n x y) in (c, Memᴰ.tail (Memᴰ.append_right (all_clades ts) m), k))
                  ((in∪ D P).0 (rw e (s.sub x)))

          row_clade : {S D : ℕ} {ts : Trees} → Row name gs S D ts → G ⊆ S → (G ≡ S → ⊥) → l ∈ D → HasClade name G (all_clades ts)
          row_clade (first o p t) s n y = group_clade t (in_part lam p g s n x y)
          row_clade (next {S} {D} {E} {P} {ts = ts} {t = u} r o p t e) s n y = go (λ z. row_clade r s n z) (λ q. group_clade t q) ((in∪ D P).0 (rw e at y))
            where
              go : (l ∈ D → HasClade name G (all_clades ts)) → (G ⊆ P → HasClade name G (clades u)) → l ∈ D ⊎ l ∈ P → HasClade name G (all_clades ts ++ clades u)
              go a b (inl z) = let (c, m, k) = a z in (c, Memᴰ.append_left (clades u) m, k)
              go a b (inr z) = let (c, m, k) = b (in_part lam p g s n x z) in (c, Memᴰ.append_right (all_clades ts) m, k)
