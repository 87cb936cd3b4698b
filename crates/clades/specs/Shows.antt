-- A tree that shows groups of taxa: its clades are the groups, "parts by lowest taxon".
use Rattle.std.specs.Prelude.{◌≡◌, ◌⊎◌, ℕ, ◌^◌, ◌≤◌, ◌<◌}
use mathlib.Core.List.{List, Memᴰ}
use Rattle.taxa.specs.Sets.{◌∈◌, ◌⊆◌, ◌∪◌, ◌∖◌, count}
use Rattle.taxa.specs.Groups.{NestedOrDisjoint}
use Rattle.grammar.specs.Trees.{Tree, Trees, leaf, inner, one, then}
use Rattle.grammar.specs.Columns.{Bytes}

-- "Any two are nested or disjoint."
pub record Laminar (gs : List ℕ) : Type 0 where
  pub pair : {X Y : ℕ} → Memᴰ X gs → Memᴰ Y gs → NestedOrDisjoint X Y

-- "Groups have two or more taxa", of 64.
pub record Groups (gs : List ℕ) : Type 0 where
  pub laminar : Laminar gs
  pub fits : {G : ℕ} → Memᴰ G gs → G < 2 ^ 64
  pub two : {G : ℕ} → Memᴰ G gs → 1 < count 64 G

-- The lowest taxon of R.
pub record Lowest (R i : ℕ) : Type 0 where
  pub member : i ∈ R
  pub least : {j : ℕ} → j ∈ R → i ≤ j

-- The part of S that has its taxon i: the largest group inside S, but S itself, or i alone.
pub record Part (gs : List ℕ) (S i P : ℕ) : Type 0 where
  pub member : i ∈ P
  pub inside : P ⊆ S
  pub proper : P ≡ S → ⊥
  pub kind : (P ≡ 2 ^ i) ⊎ Memᴰ P gs
  pub largest : {G : ℕ} → Memᴰ G gs → G ⊆ S → (G ≡ S → ⊥) → i ∈ G → G ⊆ P

module _ (name : ℕ → Bytes) (gs : List ℕ) where
  mutual
    -- The tree shows S: a taxon by its name, or a group part by part.
    pub data Shows : ℕ → Tree → Type 0 where
      taxon : {S : ℕ} {n : Bytes} (i : ℕ) → S ≡ 2 ^ i → n ≡ name i → Shows S (leaf n)
      group : {S D P i : ℕ} {ts : Trees} {t : Tree} → Memᴰ S gs → Row S D ts → Lowest (S ∖ D) i → Part gs S i P → Shows P t → D ∪ P ≡ S
          → Shows S (inner ts t)

    -- The trees show the first parts of S, D together: the part of the lowest taxon, and then of the lowest that is left.
    pub data Row : ℕ → ℕ → Trees → Type 0 where
      first : {S P i : ℕ} {t : Tree} → Lowest S i → Part gs S i P → Shows P t → Row S P (one t)
      next : {S D E P i : ℕ} {ts : Trees} {t : Tree} → Row S D ts → Lowest (S ∖ D) i → Part gs S i P → Shows P t → E ≡ D ∪ P → Row S E (then ts t)
