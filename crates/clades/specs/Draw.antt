-- The tree of an answer's groups, drawn: a group by its parts, "parts by lowest taxon".
use Rattle.std.specs.Prelude.{true, false, ◌&&◌, not, cond, List, [], ◌∷◌, map, ℕ, zero, suc, ◌^◌, ltb, eqb}
use Rattle.taxa.specs.Sets.{◌∖◌, within, count, low}
use Rattle.grammar.specs.Trees.{Tree, Trees, leaf, inner, one, then}
use Rattle.grammar.specs.Columns.{Bytes}

-- The part P of S so far, or the group G, where that is larger and still inside S, but not S itself.
unfoldable pub wider : ℕ → ℕ → ℕ → ℕ
wider S G P = cond (within P G && (within G S && not (eqb G S))) G P

-- The part of S that has its taxon i: i alone, or the largest group that `Part` says.
unfoldable pub part : List ℕ → ℕ → ℕ → ℕ
part [] S i = 2 ^ i
part (G ∷ gs) S i = wider S G (part gs S i)

-- The parts of S where R is left of it, at most f: that of the lowest taxon, and then of the lowest that is left.
unfoldable pub parts : List ℕ → ℕ → ℕ → ℕ → List ℕ
parts gs S zero R = []
parts gs S (suc f) R = elim (eqb R 0) [ true ↦ [] | false ↦ part gs S (low 64 R) ∷ parts gs S f (R ∖ part gs S (low 64 R)) ]

-- Trees in a bracket: ts, t and those after it.
unfoldable pub bracket : Trees → Tree → List Tree → Tree
bracket ts t [] = inner ts t
bracket ts t (u ∷ us) = bracket (then ts t) u us

-- "two or more subtrees [..] in round brackets". (A group has never fewer parts.)
unfoldable pub joined : List Tree → Tree
joined [] = leaf []
joined (t ∷ []) = t
joined (t ∷ u ∷ us) = bracket (one t) u us

module _ (name : ℕ → Bytes) (gs : List ℕ) where
  -- S drawn, at most f deep: a taxon by its name, a group part by part.
  unfoldable pub draw : ℕ → ℕ → Tree
  draw zero S = leaf (name (low 64 S))
  draw (suc f) S = elim (ltb 1 (count 64 S)) [ false ↦ leaf (name (low 64 S)) | true ↦ joined (map (draw f) (parts gs S 64 S)) ]

  -- S drawn as deep as it goes: it has at most 64 taxa.
  abbrev pub drawn : ℕ → Tree
  drawn S = draw 64 S
