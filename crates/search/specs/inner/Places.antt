-- Where code finds the net flow of a pair, and what it may do there.
use Rattle.std.specs.Prelude.{◌≡◌, List, ◌≢◌, ℕ, ◌+◌, ◌-◌, ◌^◌, ◌≤◌, ◌<◌, ℤ, pos, ◌+ℤ◌, ◌-ℤ◌, length, get_or, set}
use Rattle.taxa.specs.Sets.{count, sizes}
use Rattle.search.specs.Signed.{out_of, inn_of}
use Rattle.search.specs.Workspace.{cleared}

-- What column c joins, and where its places start.
pub record IsColumn (row : ℕ → ℕ) (c joined offset : ℕ) : Type 0 where
  pub is_joined : joined ≡ row c
  pub is_offset : offset ≡ sizes c row

-- Taxon i has a place in the workspace, in a column that joins `joined` and whose places start at `offset`.
pub record HasPlace (ws : List ℤ) (joined offset i : ℕ) : Type 0 where
  pub taxon : i < 64
  pub near : offset < 65536
  pub place : offset + count i joined < length ws

-- The first k numbers are 0.
pub record Clear (k : ℕ) (ws : List ℤ) : Type 0 where
  pub long : k ≤ length ws
  pub is : cleared k ws ≡ ws

-- z is a - b.
pub record Diff (a b : ℕ) (z : ℤ) : Type 0 where
  pub out : out_of z ≡ a - b
  pub inn : inn_of z ≡ b - a

-- d more from place a to place b.
abbrev pub sent : List ℤ → ℕ → ℕ → ℕ → List ℤ
sent ws a b d = set (set ws a (get_or ws a (pos 0) +ℤ pos d)) b (get_or ws b (pos 0) -ℤ pos d)

-- What that asks.
pub record CanSend (ws : List ℤ) (a b d : ℕ) : Type 0 where
  pub from : a < length ws
  pub to : b < length ws
  pub apart : a ≢ b
  pub out : out_of (get_or ws a (pos 0)) + d < 2 ^ 31
  pub inn : inn_of (get_or ws b (pos 0)) + d < 2 ^ 31
