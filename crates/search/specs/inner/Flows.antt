-- Flows in the workspace, from a set X of taxa to t: "in a flow the net flows balance at every column and at every taxon but s and t".
use Rattle.std.specs.Prelude.{◌≡◌, true, false, List, ◌≢◌, ◌↔◌, ℕ, ◌^◌, ◌≤◌, ◌<◌, ℤ, length}
use Rattle.taxa.specs.Sum.{sum}
use Rattle.taxa.specs.Sets.{has}
use Rattle.method.specs.inner.Sources.{FlowFrom, ReachFrom}
use Rattle.search.specs.Workspace.{outs, inns}
use Rattle.search.specs.Search.{nth}
use Rattle.search.specs.inner.Network.{caps, flow_most, Ready}

-- U counts column c, and d more can be counted.
pub record CanCount (J : List ℕ) (n : ℕ) (ws : List ℤ) (U : List ℕ) (c d : ℕ) : Type 0 where
  pub column : c < 256
  pub counts : length U ≡ 256
  pub is : nth U c ≡ sum n (outs ws (nth J) c)
  pub few : nth U c < 2 ^ 30
  pub little : d < 2 ^ 24

-- U' counts column c of ws', and the other columns as U does.
pub record Counted (J : List ℕ) (n : ℕ) (ws' : List ℤ) (U U' : List ℕ) (c : ℕ) : Type 0 where
  pub counts : length U' ≡ 256
  pub is : nth U' c ≡ sum n (outs ws' (nth J) c)
  pub rest : (e : ℕ) → e ≢ c → nth U' e ≡ nth U e

-- A flow of k units from the taxa of X to t stands in the workspace.
pub record Flowing (W P J L F : List ℕ) (n m : ℕ) (ws : List ℤ) (U : List ℕ) (X t k : ℕ) : Type 0 where
  pub ready : Ready W P J L F n m ws U
  pub flow : FlowFrom n m (caps W P J) (nth L) (outs ws (nth J)) (inns ws (nth J)) (has X) t k
  pub sources : X < 2 ^ n
  pub sink : t < n
  pub apart : has X t ≡ false

-- A is the taxa that hops reach from those of X past the flow.
pub record Side (W P J L : List ℕ) (n m : ℕ) (ws : List ℤ) (X A : ℕ) : Type 0 where
  pub low : (j : ℕ) → has A j ≡ true → j < n
  pub all : (j : ℕ) → j < n → has A j ≡ true ↔ ReachFrom n m (caps W P J) (nth L) (outs ws (nth J)) (inns ws (nth J)) (has X) j

-- A flow of k units, and the taxa reached from X: all of them, if t is not among them.
pub record Stage (W P J L F : List ℕ) (n m : ℕ) (ws : List ℤ) (U : List ℕ) (X t k A : ℕ) : Type 0 where
  pub flowing : Flowing W P J L F n m ws U X t k
  pub side : has A t ≡ false → Side W P J L n m ws X A

-- A path was pushed if t was reached: the flow of k units is one of k', which is more.
pub record Advanced (W P J L F : List ℕ) (n m : ℕ) (ws : List ℤ) (U : List ℕ) (X t k k' A : ℕ) : Type 0 where
  pub stage : Stage W P J L F n m ws U X t k' A
  pub more : k ≤ k'
  pub pushed : has A t ≡ true → k < k'

-- A largest flow from the taxa of X to t; or one that is no smaller than the bound.
pub record Largest (W P J L : List ℕ) (n m : ℕ) (ws : List ℤ) (X t bound k A : ℕ) : Type 0 where
  pub flow : FlowFrom n m (caps W P J) (nth L) (outs ws (nth J)) (inns ws (nth J)) (has X) t k
  pub small : k ≤ flow_most
  pub side : has A t ≡ false → Side W P J L n m ws X A
  pub stops : has A t ≡ true → bound ≤ k
