-- What the functions that reach hand to each other, from a set X of sources. The tree stands in a list Y of 256 numbers, four to a taxon.
use Rattle.std.specs.Prelude.{◌≡◌, true, false, List, ◌≢◌, ◌↔◌, ℕ, ◌+◌, ◌-◌, ◌*◌, ◌^◌, ◌≤◌, ◌<◌, max, ℤ, length}
use Rattle.taxa.specs.Sets.{has, ◌∪◌, count}
use Rattle.method.specs.inner.Sources.{ReachFrom}
use Rattle.search.specs.Workspace.{outs, inns}
use Rattle.method.proofs.Carry.{carry}
use Rattle.method.proofs.HopTree.{Tree, Joined}
use Rattle.method.proofs.Sweep.{Sweeping, Sending}
use Rattle.search.specs.Search.{nth}
use Rattle.search.specs.inner.Network.{arc, caps}

-- From which taxon x was reached.
abbrev pub from_of : List ℕ → ℕ → ℕ
from_of Y x = nth Y (4 * x)

-- Through which column.
abbrev pub via_of : List ℕ → ℕ → ℕ
via_of Y x = nth Y (4 * x + 1)

-- At which turn.
abbrev pub turn_of : List ℕ → ℕ → ℕ
turn_of Y x = nth Y (4 * x + 2)

-- The least that a hop of the way to x carries.
abbrev pub width_of : List ℕ → ℕ → ℕ
width_of Y x = nth Y (4 * x + 3)

-- What a hop from i to j through c carries, in the workspace.
abbrev pub carried : List ℕ → List ℕ → List ℕ → List ℕ → ℕ → List ℤ → ℕ → ℕ → ℕ → ℕ
carried W P J L n ws c i j = carry n (caps W P J c) (nth L c) (outs ws (nth J) c) (inns ws (nth J) c) i j

-- What a taxon i that column c joins finds there, with `out` that goes out or `inn` that comes in: the weight, what it can send, and what of that needs nothing turned
-- back elsewhere: what it can turn back itself, or the column's room.
pub record IsGate (W P L U : List ℕ) (c i out inn weight sends free : ℕ) : Type 0 where
  pub is_weight : weight ≡ nth W c
  pub is_sends : sends ≡ arc W P c i + inn - out
  pub is_free : free ≡ max inn (nth L c - nth U c)

-- The tree of the taxa of a.
pub record Rooted (W P J L : List ℕ) (n m : ℕ) (ws : List ℤ) (X a : ℕ) (Y : List ℕ) : Type 0 where
  pub sweeping : Sweeping n m (caps W P J) (nth L) (outs ws (nth J)) (inns ws (nth J)) (has X) (has a) (from_of Y) (via_of Y) (turn_of Y) (width_of Y) (count 64 a)
  pub long : length Y ≡ 256

-- The same while taxon i sends through column c, and those that join get the turn t.
pub record Grow (W P J L : List ℕ) (n m : ℕ) (ws : List ℤ) (X a : ℕ) (Y : List ℕ) (i c t : ℕ) : Type 0 where
  pub sending : Sending n m (caps W P J) (nth L) (outs ws (nth J)) (inns ws (nth J)) (has X) (has a) (from_of Y) (via_of Y) (turn_of Y) (width_of Y) i c t (count 64 a)
  pub long : length Y ≡ 256

-- i is a taxon of x, and a hop from it through column c leads wherever one from a taxon of x leads; or i is 64, and none of them leads anywhere.
pub record Leads (W P J L : List ℕ) (n : ℕ) (ws : List ℤ) (c x i : ℕ) : Type 0 where
  pub held : i ≢ 64 → has x i ≡ true
  pub sends : (y j : ℕ) → has x y ≡ true → 0 < carried W P J L n ws c y j → (i ≢ 64) × (0 < carried W P J L n ws c i j)

-- Taxon j is offered a hop that carries k: it joins, unless that is nothing.
pub data Offered (a : ℕ) (Y : List ℕ) (a' : ℕ) (Y' : List ℕ) (j i c t k : ℕ) : Type 0 where
  stays : k ≡ 0 → a' ≡ a → Y' ≡ Y → Offered a Y a' Y' j i c t k
  joins : 0 < k → a' ≡ a ∪ 2 ^ j → Joined (has a) (has a') (from_of Y) (via_of Y) (turn_of Y) (width_of Y) (from_of Y') (via_of Y') (turn_of Y') (width_of Y') j i c t k → length Y' ≡ 256
      → Offered a Y a' Y' j i c t k

-- The tree, of a before, after the hops of i through column c to all taxa but those of l; those that joined have the turn t.
pub record Passed (W P J L : List ℕ) (n m : ℕ) (ws : List ℤ) (X a a' : ℕ) (Y : List ℕ) (i c t l : ℕ) : Type 0 where
  pub tree : Grow W P J L n m ws X a' Y i c t
  pub keeps : (x : ℕ) → has a x ≡ true → has a' x ≡ true
  pub into : (x : ℕ) → x < n → has l x ≡ false → 0 < carried W P J L n ws c i x → has a' x ≡ true

-- The tree, of a before, after the hops of the taxa of a through column c.
pub record Crossed (W P J L : List ℕ) (n m : ℕ) (ws : List ℤ) (X a a' : ℕ) (Y : List ℕ) (c : ℕ) : Type 0 where
  pub tree : Rooted W P J L n m ws X a' Y
  pub keeps : (x : ℕ) → has a x ≡ true → has a' x ≡ true
  pub into : (y x : ℕ) → has a y ≡ true → x < n → 0 < carried W P J L n ws c y x → has a' x ≡ true

-- No taxon of the goal is in a.
pub record Missed (goal a : ℕ) : Type 0 where
  pub none : (x : ℕ) → has goal x ≡ true → has a x ≡ false

-- The tree, of a before, after the hops of the taxa of a through all columns from `first` on; through some, once a taxon of the goal is reached.
pub record Swept (W P J L : List ℕ) (n m : ℕ) (ws : List ℤ) (X a a' : ℕ) (Y : List ℕ) (goal first : ℕ) : Type 0 where
  pub tree : Rooted W P J L n m ws X a' Y
  pub keeps : (x : ℕ) → has a x ≡ true → has a' x ≡ true
  pub into : Missed goal a' → (c y x : ℕ) → first ≤ c → c < m → has a y ≡ true → x < n → 0 < carried W P J L n ws c y x → has a' x ≡ true

-- The taxa of X but those of l stand in the tree.
pub record Planted (Y : List ℕ) (X l : ℕ) : Type 0 where
  pub long : length Y ≡ 256
  pub first : (x : ℕ) → has X x ≡ true → has l x ≡ false → turn_of Y x ≡ 0
  pub wide : (x : ℕ) → has X x ≡ true → has l x ≡ false → 0 < width_of Y x

-- What reaching gives: a tree; and, where no taxon of the goal is in it, exactly the taxa that hops lead to from those of X.
pub record Found (W P J L : List ℕ) (n m : ℕ) (ws : List ℤ) (X a : ℕ) (Y : List ℕ) (goal : ℕ) : Type 0 where
  pub tree : Tree n m (caps W P J) (nth L) (outs ws (nth J)) (inns ws (nth J)) (has X) (has a) (from_of Y) (via_of Y) (turn_of Y) (width_of Y)
  pub all : Missed goal a → (j : ℕ) → j < n → has a j ≡ true ↔ ReachFrom n m (caps W P J) (nth L) (outs ws (nth J)) (inns ws (nth J)) (has X) j
