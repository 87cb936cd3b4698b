-- The parts of a group share no taxon (`apart`).
use mathlib.Core.Path.{◌≡◌, subst}
use mathlib.Core.Logic.{◌⊎◌, inl, inr, ⊎_elim}
use mathlib.Core.List.{List, Memᴰ}
use Prim.Native.Nat.{ℕ, ◌^◌}
use Rattle.taxa.specs.Sets.{◌∈◌, ◌⊆◌, Disjoint, ◌∖◌}
use Rattle.taxa.proofs.Members.{in∪, in∖, ∪-⊆, ⊆-refl, pow_in, pow_⊆}
use Rattle.grammar.specs.Trees.{Trees}
use Rattle.grammar.specs.Columns.{Bytes}
use Rattle.clades.specs.Shows.{Laminar, Lowest, Part, Row, first, next}

-- A part inside D that has l.
record Covered (gs : List ℕ) (S D l : ℕ) : Type 0 where
  taxon : ℕ
  part : ℕ
  is : Part gs S taxon part
  has : l ∈ part
  inside : part ⊆ D

module _ {gs : List ℕ} (lam : Laminar gs) where
  -- A part that shares a taxon with another lies inside it.
  pub part_in : {S i j P Q l : ℕ} → Part gs S i P → Part gs S j Q → l ∈ P → l ∈ Q → P ⊆ Q
  part_in {S} {i} {j} {P} {Q} {l} p q x y = ⊎_elim one many p.kind
    where
      one : P ≡ 2 ^ i → P ⊆ Q
      one e = rw e (pow_⊆ (subst (λ (m : ℕ). m ∈ Q) (pow_in i (subst (λ (X : ℕ). l ∈ X) e x)) y))

      -- A group that has the other's taxon.
      over : Memᴰ P gs → j ∈ P → P ⊆ Q
      over g h = q.largest g p.inside p.proper h

      many : Memᴰ P gs → P ⊆ Q
      many g = ⊎_elim (λ e. over g (subst (λ (m : ℕ). m ∈ P) (pow_in j (subst (λ (X : ℕ). l ∈ X) e y)) x)) both q.kind
        where
          both : Memᴰ Q gs → P ⊆ Q
          both h = ⊎_elim (λ s. s) (λ o. ⊎_elim (λ s. over g (s.sub q.member)) (λ d. absurd (d.off x y)) o) (lam.pair g h)

  -- A group that shares a taxon with a part lies inside it.
  pub in_part : {S i P G l : ℕ} → Part gs S i P → Memᴰ G gs → G ⊆ S → (G ≡ S → ⊥) → l ∈ G → l ∈ P → G ⊆ P
  in_part {S} {i} {P} {G} {l} p g s n x y = ⊎_elim one many p.kind
    where
      one : P ≡ 2 ^ i → G ⊆ P
      one e = p.largest g s n (subst (λ (m : ℕ). m ∈ G) (pow_in i (subst (λ (X : ℕ). l ∈ X) e y)) x)

      many : Memᴰ P gs → G ⊆ P
      many h = ⊎_elim (λ u. u) (λ o. ⊎_elim (λ u. p.largest g s n (u.sub p.member)) (λ d. absurd (d.off x y)) o) (lam.pair g h)

  module _ {name : ℕ → Bytes} where
    -- Each taxon that a row shows is in a part of it.
    cover : {S D l : ℕ} {ts : Trees} → Row name gs S D ts → l ∈ D → Covered gs S D l
    cover (first {P = P} {i = i} o p t) x = record { taxon = i; part = P; is = p; has = x; inside = ⊆-refl P }
    cover {l = l} (next {S} {D} {E} {P} {i} r o p t e) x = go (cover r) ((in∪ D P).0 (subst (λ (X : ℕ). l ∈ X) e x))
      where
        go : (l ∈ D → Covered gs S D l) → l ∈ D ⊎ l ∈ P → Covered gs S E l
        go h (inl y) = let c = h y in record {
          taxon = c.taxon;
          part = c.part;
          is = c.is;
          has = c.has;
          inside = record { sub = λ z. rw e ((in∪ D P).1 (inl (c.inside.sub z))) };
        }
        go h (inr y) = record { taxon = i; part = P; is = p; has = y; inside = record { sub = λ z. rw e ((in∪ D P).1 (inr z)) } }

    -- The next part shares no taxon with those before it.
    pub apart : {S D i P : ℕ} {ts : Trees} → Row name gs S D ts → Lowest (S ∖ D) i → Part gs S i P → Disjoint D P
    apart {S} {D} {i} r o p = record {
      off = λ x y. let c = cover r x in ((in∖ S D).0 o.member).1 (c.inside.sub ((part_in p c.is y c.has).sub p.member));
    }

    -- What a row shows is inside S, and has a taxon.
    pub row_in : {S D : ℕ} {ts : Trees} → Row name gs S D ts → D ⊆ S
    row_in (first o p t) = p.inside
    row_in (next {D = D} {P = P} r o p t e) = rw e (∪-⊆ (row_in r) p.inside)
