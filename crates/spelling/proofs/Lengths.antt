-- How long the text of a tree is (`text_length`), and that none of an answer and a list is longer than the room that the code has for it (`text_short`).
use mathlib.Core.Path.{◌≡◌, refl}
use mathlib.Core.List.{List, [], ◌∷◌, ◌++◌, Memᴰ}
use Prim.Native.Nat.{ℕ, ◌+◌, ◌*◌, ◌≤◌}
use native.Mathlib.Omega.{arith}
use lib.ListN.{length, length-append}
use Rattle.taxa.specs.Sets.{all}
use Rattle.taxa.proofs.Members.{all_fits}
use Rattle.taxa.proofs.Counts.{count_le}
use Rattle.grammar.specs.Bytes.{right, comma, semicolon}
use Rattle.grammar.specs.Trees.{Tree, Trees, leaf, inner, one, then, Token, sign, tokens, commas, file}
use Rattle.grammar.specs.Columns.{Bytes, names, all_names, clades, all_clades}
use Rattle.grammar.specs.Writer.{plain, written}
use Rattle.clades.specs.Shows.{Laminar, Shows}
use Rattle.clades.specs.Clades.{NamesFor}
use Rattle.clades.proofs.Clades.{shown_names}
use Rattle.clades.proofs.Sizes.{sizes}

-- The letters of names.
letters : List Bytes → ℕ
letters [] = 0
letters (n ∷ ns) = length n + letters ns

letters_append : (ns ms : List Bytes) → letters (ns ++ ms) ≡ letters ns + letters ms
unfolding letters
letters_append [] ms = omega arith
letters_append (n ∷ ns) ms = omega (arith, letters_append ns ms)

letters_most : (ns : List Bytes) → ((n : Bytes) → Memᴰ n ns → length n ≤ 32) → letters ns ≤ 32 * length ns
unfolding letters
letters_most [] h = omega arith
letters_most (n ∷ ns) h = omega (arith, h n (Memᴰ.head refl), letters_most ns (λ m l. h m (Memᴰ.tail l)))

-- A byte for each letter, two for each bracket, and one after each name but the last.
mutual
  unfolding tokens plain names clades letters

  tree_length : (t : Tree) (k : List Token) → length (plain (tokens t k)) + 1 ≡ letters (names t) + 2 * length (clades t) + length (names t) + length (plain k)
  tree_length (leaf n) k = omega (arith, length-append n (plain k))
  tree_length (inner ts t) k =
      omega (
        arith,
        trees_length ts (tokens t (sign right ∷ k)),
        tree_length t (sign right ∷ k),
        letters_append (all_names ts) (names t),
        length-append (all_names ts) (names t),
        length-append (all_clades ts) (clades t),
      )

  trees_length : (ts : Trees) (k : List Token)
      → length (plain (commas ts k)) ≡ letters (all_names ts) + 2 * length (all_clades ts) + length (all_names ts) + length (plain k)
  trees_length (one t) k = omega (arith, tree_length t (sign comma ∷ k))
  trees_length (then ts t) k =
      omega (
        arith,
        trees_length ts (tokens t (sign comma ∷ k)),
        tree_length t (sign comma ∷ k),
        letters_append (all_names ts) (names t),
        length-append (all_names ts) (names t),
        length-append (all_clades ts) (clades t),
      )

text_length : (t : Tree) → length (written (one t)) ≡ letters (names t) + 2 * length (clades t) + length (names t)
unfolding file plain
text_length t = omega (arith, tree_length t (sign semicolon ∷ []))

-- 64 names of 32 bytes, 63 brackets.
pub text_short : {name : ℕ → Bytes} {gs : List ℕ} {n : ℕ} {t : Tree} → n ≤ 64 → Laminar gs → NamesFor name (all n) → Shows name gs (all n) t
    → length (written (one t)) ≤ 64 * 32 + 63 * 2 + 64
text_short {n = n} {t} few lam list shows =
    let z = sizes lam shows (all_fits 64 few) in
    let l = letters_most (names t) (λ m l. let (i, x, e) = (shown_names shows).only l in rw e (list.short x)) in
    omega (arith, text_length t, l, z.all_names_lem, z.brackets, count_le 64 (all n))
