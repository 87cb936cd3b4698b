-- The node that the walk over all nodes ends with is the one that counts (`node_counts`), and nodes that count have the same raises and lowers
-- (`same_flips`): so the score is what document 01 says, and only that.
use mathlib.Core.Path.{◌≡◌, refl, sym, ap, ◌∙◌}
use mathlib.Core.Bool.{Bool, true, false, ◌||◌, ◌&&◌, cond}
use mathlib.Core.List.{List, [], ◌∷◌, ◌++◌}
use Prim.Native.Nat.{ℕ, zero, suc, ◌+◌, ◌/◌, ◌≤◌, ◌<◌}
use native.Mathlib.Nat.{mul-div_cancel_left}
use native.Mathlib.Numerals.{add-one}
use native.Mathlib.Omega.{arith}
use lib.Dec.{ltb, eqb}
use lib.ListN.{length, get_or}
use borrow.Author.Tests.{lt-ltb, le-ltb, eq-eqb, ne_eqb, ltb-true, ltb-false, eqb-true, eqb-false}
use borrow.Author.Count.{below_more}
use Rattle.std.specs.Prelude.{Option, Ok}
use Rattle.std.specs.Iterator.{Drains}
use Rattle.std.proofs.lemmas.Iterator.{YieldsList}
use Rattle.std.proofs.lemmas.Iterator.Adapters.{fact_from_collect}
use Rattle.std.proofs.lemmas.List.{length-append, get_or_append_left, get_or_push}
use Rattle.record.proofs.Steps.{either_way}
use Rattle.matrix.specs.declared.Column.{Column}
use Rattle.score.specs.Score.{raises_at, lowers_at, leaf, Node, at_leaf, at_group, distance, Counts, node_for, nearer, nearest, nearest_in}

-- ---- the rows of `nearer`

module _ (μ : ℕ → ℕ) (c : Column) (X Y : ℕ) where
  pub less : distance μ c X < distance μ c Y → true ≡ nearer μ c X Y
  unfolding nearer
  less l = rw (lt-ltb _ _ l)

  pub more : distance μ c Y ≤ distance μ c X → (distance μ c X ≡ distance μ c Y → ⊥) → false ≡ nearer μ c X Y
  unfolding nearer
  more l n = rw (le-ltb _ _ l, ne_eqb _ _ n)

  pub equal : distance μ c X ≡ distance μ c Y → ltb (raises_at μ c X) (raises_at μ c Y) ≡ nearer μ c X Y
  unfolding nearer
  equal e = rw (le-ltb (distance μ c X) (distance μ c Y) (omega arith), eq-eqb _ _ e)

-- One cluster more.
pub one_more : (μ : ℕ → ℕ) (c : Column) (cluster : ℕ → ℕ) (k best : ℕ) → nearest_in μ c cluster (k + 1) best ≡ nearest μ c (cluster k) (nearest_in μ c cluster k best)
unfolding nearest_in
one_more μ c cluster k best = rw add-one

-- Clusters that are the same below k have the same node that counts.
pub nearest_same : (μ : ℕ → ℕ) (c : Column) (f g : ℕ → ℕ) (k best : ℕ) → ((i : ℕ) → i < k → f i ≡ g i) → nearest_in μ c f k best ≡ nearest_in μ c g k best
unfolding nearest_in
nearest_same μ c f g zero best e = refl
nearest_same μ c f g (suc k) best e = rw (nearest_same μ c f g k best (λ i l. e i (omega arith)), e k (omega arith))

-- One node more in a list of them.
pub one_joined : (μ : ℕ → ℕ) (c : Column) (nodes : List ℕ) (node best : ℕ)
    → nearest_in μ c (λ i. get_or (nodes ++ node ∷ []) i 0) (length (nodes ++ node ∷ [])) best ≡ nearest μ c node (nearest_in μ c (λ i. get_or nodes i 0) (length nodes) best)
one_joined μ c nodes node best =
    rw (length-append nodes (node ∷ []), one_more, get_or_push nodes node 0 _ refl, nearest_same μ c (λ i. get_or (nodes ++ node ∷ []) i 0) (λ i. get_or nodes i 0) (length nodes) best (get_or_append_left nodes (node ∷ []) 0))
    refl

-- What went through the nodes that an iterator gave went through the list that it yields.
pub gone_through : {S : Type 0} {steps : S → Option ℕ → S → Type 0} {s : S} {nodes : List ℕ} (μ : ℕ → ℕ) (c : Column) (best : ℕ) {r : ℕ}
    → (xs : List ℕ) × Drains steps s xs × (r ≡ nearest_in μ c (λ i. get_or xs i 0) (length xs) best)
    → YieldsList steps (λ x. x) s nodes → r ≡ nearest_in μ c (λ i. get_or nodes i 0) (length nodes) best
gone_through μ c best {r} (xs, (u, (t, passed, end)), e) road =
    fact_from_collect {E = ℕ} (λ (ys : List ℕ) (x : ℕ). x ≡ nearest_in μ c (λ i. get_or ys i 0) (length ys) best) (Ok r) (xs, (t, passed, λ _. (u, end)), e) road

-- ---- the walk ends with a node that counts

module _ (μ : ℕ → ℕ) (c : Column) where
  -- X is nearer than Y, or as near with no more raises.
  record Before (X Y : ℕ) : Type 0 where
    near : distance μ c X ≤ distance μ c Y
    few : distance μ c Y ≡ distance μ c X → raises_at μ c X ≤ raises_at μ c Y

  before_self : (X : ℕ) → Before X X
  before_self X = record { near = omega arith; few = λ e. omega arith }

  before_trans : {X Y Z : ℕ} → Before X Y → Before Y Z → Before X Z
  before_trans a b = record { near = omega (arith, a.near, b.near); few = λ e. omega (arith, a.few (omega (arith, a.near, b.near)), b.few (omega (arith, a.near, b.near))) }

  -- The one of two that counts is before both.
  first : (X Y : ℕ) → Before (nearest μ c X Y) X × Before (nearest μ c X Y) Y
  unfolding nearer
  first X Y = go (ltb (distance μ c X) (distance μ c Y)) (eqb (distance μ c X) (distance μ c Y)) (ltb (raises_at μ c X) (raises_at μ c Y)) refl refl refl
    where
      go : (l e r : Bool) → ltb (distance μ c X) (distance μ c Y) ≡ l → eqb (distance μ c X) (distance μ c Y) ≡ e → ltb (raises_at μ c X) (raises_at μ c Y) ≡ r
          → Before (cond (l || (e && r)) X Y) X × Before (cond (l || (e && r)) X Y) Y
      go true e r p q s =
          let l = ltb-true (distance μ c X) (distance μ c Y) p in
          (before_self X, record { near = omega arith; few = λ h. absurd (omega arith) })
      go false true true p q s =
          let l = eqb-true (distance μ c X) (distance μ c Y) q in
          let r = ltb-true (raises_at μ c X) (raises_at μ c Y) s in
          (before_self X, record { near = omega arith; few = λ h. omega arith })
      go false true false p q s =
          let l = eqb-true (distance μ c X) (distance μ c Y) q in
          (record { near = omega arith; few = λ h. ltb-false (raises_at μ c X) (raises_at μ c Y) s }, before_self Y)
      go false false r p q s =
          (record { near = ltb-false (distance μ c X) (distance μ c Y) p; few = λ h. absurd (eqb-false (distance μ c X) (distance μ c Y) q h) }, before_self Y)

  walk_first : (cluster : ℕ → ℕ) (k best : ℕ) → Before (nearest_in μ c cluster k best) best × ((i : ℕ) → i < k → Before (nearest_in μ c cluster k best) (cluster i))
  unfolding nearest_in
  walk_first cluster zero best = (before_self best, λ i l. absurd (omega arith))
  walk_first cluster (suc k) best =
      let (b, all) = walk_first cluster k best in
      let (x, y) = first (cluster k) (nearest_in μ c cluster k best) in
      (before_trans y b, λ i l. below_more (λ j. Before (nearest μ c (cluster k) (nearest_in μ c cluster k best)) (cluster j)) k (λ j m. before_trans y (all j m)) x i (omega arith))

  -- It is one of those that it went through.
  pick : (P : ℕ → Type 0) (X Y : ℕ) → P X → P Y → P (nearest μ c X Y)
  pick P X Y p q = either_way P (nearer μ c X Y) p q

  walk_in : (P : ℕ → Type 0) (cluster : ℕ → ℕ) (k best : ℕ) → P best → ((i : ℕ) → i < k → P (cluster i)) → P (nearest_in μ c cluster k best)
  unfolding nearest_in
  walk_in P cluster zero best p h = p
  walk_in P cluster (suc k) best p h = pick P (cluster k) (nearest_in μ c cluster k best) (h k (omega arith)) (walk_in P cluster k best p (λ i l. h i (omega arith)))

  module _ {n : ℕ} (some : 0 < n) (groups : List ℕ) (k : ℕ) where
    abbrev cluster : ℕ → ℕ
    cluster i = get_or groups i 0

    abbrev best_leaf : ℕ
    best_leaf = nearest_in μ c leaf n (leaf 0)

    -- All nodes are gone through.
    passed : (Y : ℕ) → Node n groups k Y → Before (nearest_in μ c cluster k best_leaf) Y
    passed Y (at_leaf i l) = before_trans (walk_first cluster k best_leaf).0 ((walk_first leaf n (leaf 0)).1 i l)
    passed Y (at_group i l) = (walk_first cluster k best_leaf).1 i l

    -- "The column's score is the least over all nodes; among equal ones the node with fewest raises counts."
    pub node_counts : Counts μ c (Node n groups k) (node_for μ n groups k c)
    unfolding node_for
    node_counts =
        record {
          is_node = walk_in (Node n groups k) cluster k best_leaf (walk_in (Node n groups k) leaf n (leaf 0) (at_leaf 0 some) at_leaf) at_group;
          least = λ Y y. (passed Y y).near;
          fewest = λ Y y. (passed Y y).few;
        }

  pub same_flips : {Nodes : ℕ → Type 0} {X Y : ℕ} → 0 < c.weight → Counts μ c Nodes X → Counts μ c Nodes Y → (raises_at μ c X ≡ raises_at μ c Y) × (lowers_at μ c X ≡ lowers_at μ c Y)
  unfolding distance
  same_flips {X = X} {Y} w a b =
      let near : distance μ c X ≡ distance μ c Y = omega (arith, a.least Y b.is_node, b.least X a.is_node) in
      let few : raises_at μ c X ≡ raises_at μ c Y = omega (arith, a.fewest Y b.is_node (sym near), b.fewest X a.is_node near) in
      let sum = sym (mul-div_cancel_left (raises_at μ c X + lowers_at μ c X) w) ∙ ap (λ (d : ℕ). d / c.weight) near ∙ mul-div_cancel_left (raises_at μ c Y + lowers_at μ c Y) w in
      (few, omega arith)
