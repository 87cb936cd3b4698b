-- What is written without blanks spells the trees (`written_spells`), so that it reads back (`reads_back`). The names of trees that are spelt are names (`spelt_names`).
use mathlib.Core.Path.{◌≡◌, refl, sym, subst}
use mathlib.Core.Logic.{⊎_elim}
use mathlib.Core.List.Memᴰ
use mathlib.Core.List.{List, [], ◌∷◌, ◌++◌, Memᴰ}
use Prim.Native.Nat.{ℕ}
use Rattle.grammar.specs.Bytes.{Sign, mark, byte, left, right, comma, semicolon}
use Rattle.grammar.specs.Bytes as bytes
use Rattle.grammar.specs.Trees.{Tree, Trees, leaf, inner, one, then, Token, word, sign, tokens, commas, file}
use Rattle.grammar.specs.Text.{Name, Spells, end, gap, then_sign, then_word, Newick}
use Rattle.grammar.specs.Reader.{read, trees}
use Rattle.grammar.specs.Columns.{Bytes, names, all_names}
use Rattle.grammar.specs.Writer.{plain, written}
use Rattle.grammar.proofs.Complete.{complete}

-- Every word of the tokens is a name.
data Words : List Token → Type 0 where
  none : Words []
  a_sign : {g : Sign} {k : List Token} → Words k → Words (sign g ∷ k)
  a_word : {n : Bytes} {k : List Token} → Name n → Words k → Words (word n ∷ k)

pub sign_mark : (g : Sign) → mark (byte g) ≡ bytes.sign g
unfolding mark
sign_mark left = refl
sign_mark right = refl
sign_mark comma = refl
sign_mark semicolon = refl

plain_spells : {k : List Token} → Words k → Spells k (plain k)
unfolding plain
plain_spells none = end
plain_spells (a_sign {g} w) = then_sign (sign_mark g) (plain_spells w)
plain_spells (a_word x w) = then_word x (plain_spells w)

words : {k : List Token} {s : List ℕ} → Spells k s → Words k
words end = none
words (gap e x) = words x
words (then_sign e x) = a_sign (words x)
words (then_word n x) = a_word n (words x)

-- ---- the words of a tree's tokens are its names

-- They all are names.
abbrev pub Named : List Bytes → Type 0
Named ns = (n : Bytes) → Memᴰ n ns → Name n

former : (ns ms : List Bytes) → Named (ns ++ ms) → Named ns
former ns ms h n x = h n (Memᴰ.append_left ms x)

latter : (ns ms : List Bytes) → Named (ns ++ ms) → Named ms
latter ns ms h n x = h n (Memᴰ.append_right ns x)

both : (ns ms : List Bytes) → Named ns → Named ms → Named (ns ++ ms)
both ns ms h g n x = ⊎_elim (h n) (g n) (Memᴰ.append_cases ns x)

mutual
  unfolding tokens names

  tree_words : (t : Tree) {k : List Token} → Named (names t) → Words k → Words (tokens t k)
  tree_words (leaf n) h w = a_word (h n (Memᴰ.head refl)) w
  tree_words (inner ts t) h w = a_sign (trees_words ts (former (all_names ts) (names t) h) (tree_words t (latter (all_names ts) (names t) h) (a_sign w)))

  trees_words : (ts : Trees) {k : List Token} → Named (all_names ts) → Words k → Words (commas ts k)
  trees_words (one t) h w = tree_words t h (a_sign w)
  trees_words (then ts t) h w = trees_words ts (former (all_names ts) (names t) h) (tree_words t (latter (all_names ts) (names t) h) (a_sign w))

file_words : (ts : Trees) {k : List Token} → Named (all_names ts) → Words k → Words (file ts k)
unfolding file names
file_words (one t) h w = tree_words t h (a_sign w)
file_words (then ts t) h w = file_words ts (former (all_names ts) (names t) h) (tree_words t (latter (all_names ts) (names t) h) (a_sign w))

rest : {g : Sign} {k : List Token} → Words (sign g ∷ k) → Words k
rest (a_sign w) = w

a_name : {n : Bytes} {k : List Token} → Words (word n ∷ k) → Named (n ∷ []) × Words k
a_name {n} (a_word x w) = ((λ m y. subst Name (sym (Memᴰ.eq_of_singleton y)) x), w)

mutual
  unfolding tokens names

  words_tree : (t : Tree) {k : List Token} → Words (tokens t k) → Named (names t) × Words k
  words_tree (leaf n) w = a_name w
  words_tree (inner ts t) w =
      let (h, v) = words_trees ts (rest w) in
      let (g, u) = words_tree t v in (both (all_names ts) (names t) h g, rest u)

  words_trees : (ts : Trees) {k : List Token} → Words (commas ts k) → Named (all_names ts) × Words k
  words_trees (one t) w = let (h, v) = words_tree t w in (h, rest v)
  words_trees (then ts t) w =
      let (h, v) = words_trees ts w in
      let (g, u) = words_tree t v in (both (all_names ts) (names t) h g, rest u)

words_file : (ts : Trees) {k : List Token} → Words (file ts k) → Named (all_names ts) × Words k
unfolding file names
words_file (one t) w = let (h, v) = words_tree t w in (h, rest v)
words_file (then ts t) w =
    let (h, v) = words_file ts w in
    let (g, u) = words_tree t v in (both (all_names ts) (names t) h g, rest u)

pub written_spells : (ts : Trees) → Named (all_names ts) → Newick (written ts) ts
written_spells ts h = plain_spells (file_words ts h none)

pub reads_back : (ts : Trees) → Named (all_names ts) → read (written ts) ≡ trees ts
reads_back ts h = complete (written_spells ts h)

pub spelt_names : {s : List ℕ} (ts : Trees) → Newick s ts → Named (all_names ts)
spelt_names ts x = (words_file ts (words x)).0
