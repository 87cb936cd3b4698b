-- The text of a tree by its parts: that of a larger set is a bracket with the texts of its parts (`group_text`), that of a taxon alone its name (`taxon_text`).
use mathlib.Core.Path.{◌≡◌, refl, sym, ap, ◌∙◌}
use mathlib.Core.List.{List, [], ◌∷◌, ◌++◌, map, append_assoc, append-nil}
use Prim.Native.Nat.{ℕ, ◌^◌, ◌≤◌, ◌<◌}
use native.Mathlib.Decide.{ℕ_discrete}
use native.Mathlib.Omega.{arith}
use borrow.Author.Tests.{ne_eqb}
use Rattle.taxa.specs.Sets.{◌⊆◌, ◌∖◌, count, low}
use Rattle.taxa.proofs.Members.{⊆-trans, ∖-⊆}
use Rattle.grammar.specs.Bytes.{Sign, byte, left, right, comma, semicolon}
use Rattle.grammar.specs.Trees.{Tree, Trees, leaf, inner, one, then, Token, word, sign, tokens, commas, file}
use Rattle.grammar.specs.Writer.{plain, written}
use Rattle.clades.specs.Draw.{part, parts, bracket, joined, drawn}
use Rattle.clades.proofs.Drawing.{none_left, parts_next, two_parts, drawn_taxon, drawn_group}
use Rattle.spelling.specs.Write.{name_in}
use Rattle.spelling.specs.inner.Spell.{subtext, spelling, closing, after, listed, parts_text}

-- ---- tokens in front of others: their text stands in front of the text of the others

record InFront (f : List Token → List Token) : Type 0 where
  is : (k : List Token) → plain (f k) ≡ plain (f []) ++ plain k

both : {f g : List Token → List Token} → InFront f → InFront g → InFront (λ k. f (g k))
both {f} {g} x y = record {
  is = λ k.
      let a = plain (f []) in
      let b = plain (g []) in
      x.is (g k) ∙ ap (◌++◌ a) (y.is k) ∙ sym (ap (λ s. s ++ plain k) (x.is (g [])) ∙ append_assoc a b (plain k));
}

a_sign : (g : Sign) → InFront (◌∷◌ (sign g))
unfolding plain
a_sign g = record { is = λ k. refl }

a_word : (n : List ℕ) → InFront (◌∷◌ (word n))
unfolding plain
a_word n = record { is = λ k. rw append-nil }

mutual
  unfolding tokens

  tree_front : (t : Tree) → InFront (tokens t)
  tree_front (leaf n) = a_word n
  tree_front (inner ts t) = both (a_sign left) (both (trees_front ts) (both (tree_front t) (a_sign right)))

  trees_front : (ts : Trees) → InFront (commas ts)
  trees_front (one t) = both (tree_front t) (a_sign comma)
  trees_front (then ts t) = both (trees_front ts) (both (tree_front t) (a_sign comma))

pub written_text : (t : Tree) → written (one t) ≡ subtext t ++ byte semicolon ∷ []
unfolding subtext file plain
written_text t = (tree_front t).is (sign semicolon ∷ [])

-- ---- a bracket

module _ (tree : ℕ → Tree) where
  abbrev text : ℕ → List ℕ
  text P = subtext (tree P)

  closed : (P : ℕ) (g : Sign) → plain (tokens (tree P) (sign g ∷ [])) ≡ text P ++ byte g ∷ []
  unfolding subtext plain
  closed P g = (tree_front (tree P)).is (sign g ∷ [])

  -- A comma, and what follows it.
  separated : (P : ℕ) (s : List ℕ) → plain (tokens (tree P) (sign comma ∷ [])) ++ s ≡ text P ++ byte comma ∷ s
  separated P s = ap (λ r. r ++ s) (closed P comma) ∙ append_assoc (text P) (byte comma ∷ []) s

  bracket_text : (ts : Trees) (P : ℕ) (Ps : List ℕ) → subtext (bracket ts (tree P) (map tree Ps)) ≡ byte left ∷ (plain (commas ts []) ++ listed text (P ∷ Ps))
  unfolding subtext bracket listed tokens plain
  bracket_text ts P [] = ap (◌∷◌ (byte left)) ((trees_front ts).is (tokens (tree P) (sign right ∷ [])) ∙ ap (◌++◌ (plain (commas ts []))) (closed P right))
  bracket_text ts P (Q ∷ Ps) =
      let c = plain (commas ts []) in
      let t = tokens (tree P) (sign comma ∷ []) in
      let s = listed text (Q ∷ Ps) in
      bracket_text (then ts (tree P)) Q Ps
      ∙ ap (◌∷◌ (byte left)) (ap (λ r. r ++ s) ((trees_front ts).is t) ∙ append_assoc c (plain t) s ∙ ap (◌++◌ c) (separated P s))

  joined_text : (P Q : ℕ) (Ps : List ℕ) → subtext (joined (map tree (P ∷ Q ∷ Ps))) ≡ byte left ∷ listed text (P ∷ Q ∷ Ps)
  unfolding joined listed tokens
  joined_text P Q Ps = bracket_text (one (tree P)) Q Ps ∙ ap (◌∷◌ (byte left)) (separated P (listed text (Q ∷ Ps)))

-- ---- sets as drawn

module _ (gs list : List ℕ) where
  pub taxon_text : (S : ℕ) → count 64 S ≤ 1 → spelling gs list S ≡ name_in list (low 64 S)
  unfolding subtext tokens plain
  taxon_text S l = rw (drawn_taxon (name_in list) gs S l, append-nil)

  pub group_text : (S : ℕ) → S < 2 ^ 64 → 1 < count 64 S → spelling gs list S ≡ byte left ∷ parts_text gs list S S
  group_text S s two =
      let (P, Q, Ps, e) = two_parts gs s two in
      rw (drawn_group (name_in list) gs S s two, e) (joined_text (drawn (name_in list) gs) P Q Ps)

  pub parts_none : (S : ℕ) → parts_text gs list S 0 ≡ []
  unfolding listed
  parts_none S = rw (none_left gs S 64)

  module _ {S : ℕ} (s : S < 2 ^ 64) (two : 1 < count 64 S) where
    parts_after : {R : ℕ} → R ⊆ S → after (parts gs S 64 R) ≡ closing R
    parts_after {R} i = go (ℕ_discrete R 0)
      where
        go : Dec (R ≡ 0) → after (parts gs S 64 R) ≡ closing R
        go (yes z) = rw (z, none_left gs S 64)
        go (no n) = rw (parts_next gs s two i (omega arith), ne_eqb R 0 n)

    -- The part of the lowest taxon that is left, the byte after it, and the parts that are left then.
    pub parts_text_next : {R : ℕ} → R ⊆ S → 0 < R → (P : ℕ) → P ≡ part gs S (low 64 R)
        → parts_text gs list S R ≡ spelling gs list P ++ closing (R ∖ P) ∷ parts_text gs list S (R ∖ P)
    unfolding listed
    parts_text_next {R} i x P e = rw (parts_next gs s two i x, ← e, parts_after (⊆-trans (∖-⊆ R P) i))
