-- One group of the walk: what its split asks for (`search_given`), what it hands on to the walk over the parts, and that this comes back as the whole
-- group (`grown_group`).
use mathlib.Core.Path.{◌≡◌, sym, ap, ◌∙◌}
use mathlib.Core.List.{List, [], ◌∷◌, ◌++◌}
use Prim.Native.Nat.{ℕ, ◌+◌, ◌*◌, ◌≤◌, ◌<◌}
use native.Mathlib.Omega.{arith}
use lib.IntN.{ℤ}
use lib.ListN.{length, take, drop, length-append, length-drop}
use lib.Seq.{take_at}
use Rattle.taxa.specs.Sets.{multiplicity_in, count}
use Rattle.taxa.proofs.Counts.{count_width}
use Rattle.method.specs.Split.{Column, split_parts}
use Rattle.method.specs.Tree.{Group, walked, build}
use Rattle.method.proofs.Arcs.{turn_arcs}
use Rattle.search.specs.Search.{Given, cols_of}
use Rattle.search.proofs.Workspace.{clear_less}
use Rattle.split.specs.inner.Handing.{HandsOn}
use Rattle.tree.specs.inner.Lists.{Room}
use Rattle.tree.specs.inner.Grow.{Ready, TurnsClear, Grown, AllSmall}
use Rattle.tree.proofs.Walking.{whole_group, parts_small, ready_wide, node_length}

module _ {ws P os zs : List ℕ} {S n : ℕ} {space : List ℤ} (r : Ready ws P os zs S n space) (two : 1 < count 64 S) where
  abbrev m : ℕ
  m = length ws

  two_n : 1 < count n S
  two_n = omega (arith, count_width r.loaded.taxa r.group)

  pub search_given : Given ws P os zs S n m
  search_given =
      record {
        taxa = r.loaded.taxa;
        columns = r.loaded.columns;
        weights = omega arith;
        ones = omega (arith, r.loaded.parallel.ones);
        zeros = omega (arith, r.loaded.parallel.zeros);
        group = r.group;
        two = two_n;
        positive = r.loaded.positive;
        tabled = r.loaded.tabled;
      }

-- ---- what is handed on

module _ {ws P os zs os' zs' : List ℕ} {S n : ℕ} {space : List ℤ} {list list' : List ℕ} {cost k : ℕ} (r : Ready ws P os zs S n space) (two : 1 < count 64 S)
    (h : HandsOn ws P os zs os' zs' S list list' cost k) where
  abbrev cols : ℕ → Column
  cols = cols_of ws os zs

  abbrev μ : ℕ → ℕ
  μ = multiplicity_in P

  -- The parts that are listed are those that the split hands on,
  pub listed_parts : take k list' ≡ split_parts 64 μ (length ws) cols S
  listed_parts = ap (take k) h.parts ∙ take_at (split_parts 64 μ (length ws) cols S) (drop k list) k (sym h.many)

  pub listed_fits : length list' ≡ length list → k ≤ length list'
  listed_fits e = omega (arith, ap length h.parts ∙ length-append (split_parts 64 μ (length ws) cols S) (drop k list), h.many, length-drop k list)

  pub parts_ready : (Ps : List ℕ) → Ps ≡ split_parts 64 μ (length ws) cols S → {room : ℕ} → 2 * count 64 S ≤ room + k → AllSmall Ps n (count 64 S) room
  parts_ready Ps e {room} enough = rw e (parts_small μ (length ws) n cols S room r.loaded.taxa r.group two (omega (arith, h.many)))

  -- the group's numbers of the workspace are enough for each of them,
  pub parts_clear : (Ps : List ℕ) → Ps ≡ split_parts 64 μ (length ws) cols S → {space' : List ℤ} → space' ≡ space → TurnsClear ws P os' zs' Ps space'
  parts_clear Ps e same = rw (e, same) (record {
    clear = λ mid Q t. clear_less (turn_arcs (length ws) r.loaded.positive (ready_wide r) (record { two = two; turn = rw h.columns at t })) r.clear;
  })

  -- there is room for them,
  pub parts_fit : (at : ℕ) {next room : ℕ} (Ps : List ℕ) → Ps ≡ split_parts 64 μ (length ws) cols S → next ≡ at + 1
      → at + length (build 64 μ (length ws) cols S).groups ≤ room → next + length (walked (build 64 μ (length ws)) (cols_of ws os' zs') Ps).groups ≤ room
  parts_fit at Ps e one enough =
      let n = node_length μ (length ws) cols (ready_wide r) two in
      rw (e, h.columns) (omega arith)

  pub parts_room : (at : ℕ) {next : ℕ} {walked-taxa paid walked' paid' : List ℕ} (Ps : List ℕ) → Ps ≡ split_parts 64 μ (length ws) cols S → next ≡ at + 1
      → Room (at + length (build 64 μ (length ws) cols S).groups) walked-taxa paid → length walked' ≡ length walked-taxa → length paid' ≡ length paid
      → Room (next + length (walked (build 64 μ (length ws)) (cols_of ws os' zs') Ps).groups) walked' paid'
  parts_room at Ps e one room t c = record { taxa_room = omega (arith, parts_fit at Ps e one room.taxa_room); costs_room = omega (arith, parts_fit at Ps e one room.costs_room) }

  -- and with what the walk over them comes to the group is whole.
  pub grown_group : {os'' zs'' : List ℕ} {space' space'' : List ℤ} {before mid new : List Group} {at next end : ℕ} (Ps : List ℕ) → Ps ≡ split_parts 64 μ (length ws) cols S
      → next ≡ at + 1 → space' ≡ space → mid ≡ before ++ (record { taxa = S; cost = cost } ∷ [])
      → Grown ws os'' zs'' space' space'' (walked (build 64 μ (length ws)) (cols_of ws os' zs') Ps) mid new next end
      → Grown ws os'' zs'' space space'' (build 64 μ (length ws) cols S) before new at end
  grown_group Ps e one same groups w = whole_group μ cols (cols_of ws os' zs') Ps (ready_wide r) two h.columns e (rw (groups, same, one, h.is_cost) at w)

-- Room for a group and all below it is room for the group.
pub first_fits : (at : ℕ) {ws P os zs : List ℕ} {S n room : ℕ} {space : List ℤ} → Ready ws P os zs S n space → 1 < count 64 S
    → at + length (build 64 (multiplicity_in P) (length ws) (cols_of ws os zs) S).groups ≤ room → at < room
first_fits at {ws} {P} {os} {zs} r two enough = omega (arith, node_length (multiplicity_in P) (length ws) (cols_of ws os zs) (ready_wide r) two)

pub first_room : (at : ℕ) {ws P os zs : List ℕ} {S n : ℕ} {space : List ℤ} {taxa costs : List ℕ} → Ready ws P os zs S n space → 1 < count 64 S
    → Room (at + length (build 64 (multiplicity_in P) (length ws) (cols_of ws os zs) S).groups) taxa costs → Room (at + 1) taxa costs
first_room at {ws} {P} {os} {zs} r two room =
    record { taxa_room = omega (arith, first_fits at {ws = ws} {P = P} {os = os} {zs = zs} r two room.taxa_room); costs_room = omega (arith, first_fits at {ws = ws} {P = P} {os = os} {zs = zs} r two room.costs_room) }
