-- The clerk takes the tokens of trees exactly where the trees are within the limits, and then has their taxa and columns (`tallied`, `taken`).
use mathlib.Core.Path.{◌≡◌, refl, sym, ap, ◌∙◌, subst}
use mathlib.Core.Bool.{Bool, true, false, cond}
use mathlib.Core.Logic.{⊎_elim}
use mathlib.Core.List.Memᴰ
use mathlib.Core.List.{List, [], ◌∷◌, ◌++◌, append-nil, map, tail}
use Prim.Native.Nat.{ℕ, suc, pred, ◌+◌, ◌≤◌}
use native.Mathlib.Omega.{arith}
use lib.Dec.{ltb}
use lib.ListN.{length, length-append, length-map}
use borrow.Author.Tests.{ltb-false, le-ltb}
use Rattle.grammar.specs.Bytes.{left, right, comma, semicolon}
use Rattle.grammar.specs.Trees.{Tree, Trees, leaf, inner, one, then, Token, word, sign, tokens, commas, file}
use Rattle.grammar.specs.Columns.{Bytes, Column, names, all_names, clades, all_clades, columns, all_columns}
use Rattle.grammar.specs.Limits.{is_in, seen, taxa, Distinct, end, next, depth, deepest, Once, first, and, Within}
use Rattle.grammar.specs.Verdict.{Check, goes, fails, noted, notes}
use Rattle.grammar.specs.Clerk.{Tally, nothing, name, opened, wrongs, keep, note}
use Rattle.grammar.proofs.Lists.{seen_append, seen_grows}
use Rattle.grammar.proofs.Rooms.{plus, plus_plus, closed_plus, Room, room_former, room_latter, room_both, room_in, room_out, Sane, room_sane}

-- ---- one token

tells : {y : Tally} (x : Tally) (w : Token) (k : List Token) → note x w ≡ goes y → notes note x (w ∷ k) ≡ notes note y k
unfolding notes
tells x w k e = rw (e, notes)

refuses : {r : ℕ} (x : Tally) (w : Token) (k : List Token) → note x w ≡ fails r → notes note x (w ∷ k) ≡ fails r
unfolding notes
refuses x w k e = rw (e, notes)

bad : {A : Type 0} {r : ℕ} {y : Tally} → fails r ≡ goes y → A
bad e = let z : ◌≡◌ {A = ℕ} 0 1 = cc in absurd (omega arith)

-- A token that he took.
took : {y : Tally} (x : Tally) (w : Token) (k : List Token) → notes note x (w ∷ k) ≡ goes y → (z : Tally) × (note x w ≡ goes z)
took {y} x w k e = go (note x w) refl
  where
    go : (c : Check Tally) → note x w ≡ c → (z : Tally) × (note x w ≡ goes z)
    go (goes z) f = (z, f)
    go (fails r) f = bad (sym (refuses x w k f) ∙ e)

word_told : {x : Tally} {n : Bytes} → Room x (n ∷ []) [] 0 → note x (word n) ≡ goes (name x n)
unfolding wrongs keep
word_told {x} {n} r = go r.apart
  where
    go : Distinct x.here (n ∷ []) → note x (word n) ≡ goes (name x n)
    go (next e d) = rw (le-ltb 32 (length n) (r.short n (Memᴰ.head refl)), e, le-ltb 64 (length (seen x.taxa (n ∷ []))) r.few)

word_room : {x y : Tally} {n : Bytes} → Sane x → note x (word n) ≡ goes y → Room x (n ∷ []) [] 0
unfolding wrongs keep
word_room {x} {y} {n} s e = go (ltb 32 (length n)) (is_in n x.here) (ltb 64 (length (seen x.taxa (n ∷ [])))) refl refl refl e
  where
    go : (a b c : Bool) → ltb 32 (length n) ≡ a → is_in n x.here ≡ b → ltb 64 (length (seen x.taxa (n ∷ []))) ≡ c
        → noted (cond a (17 ∷ []) (cond b (18 ∷ []) (cond c (19 ∷ []) []))) (name x n) ≡ goes y → Room x (n ∷ []) [] 0
    go true b c f g h o = bad o
    go false true c f g h o = bad o
    go false false true f g h o = bad o
    go false false false f g h o = record {
      short = λ m l. subst (λ (w : Bytes). length w ≤ 32) (sym (Memᴰ.eq_of_singleton l)) (ltb-false 32 (length n) f);
      apart = next g end;
      few = ltb-false 64 (length (seen x.taxa (n ∷ []))) h;
      columns = s.columns;
      nested = s.nested;
    }

bracket_told : {x : Tally} {ns c : List Bytes} {cs : List (List Bytes)} {d : ℕ} → Room x ns (c ∷ cs) (suc d) → note x (sign left) ≡ goes (opened x)
unfolding wrongs keep
bracket_told {x} r = rw (le-ltb 256 (length x.columns + length x.clades) (omega (arith, r.columns)), le-ltb 63 (length x.brackets) (omega (arith, r.nested)))

bracket_sane : {x y : Tally} → Sane x → note x (sign left) ≡ goes y → Sane (opened x) × (note x (sign left) ≡ goes (opened x))
unfolding wrongs keep
bracket_sane {x} {y} s e = go (ltb 256 (length x.columns + length x.clades)) (ltb 63 (length x.brackets)) refl refl e
  where
    go : (a b : Bool) → ltb 256 (length x.columns + length x.clades) ≡ a → ltb 63 (length x.brackets) ≡ b
        → noted (cond a (19 ∷ []) [] ++ cond b (20 ∷ []) []) (opened x) ≡ goes y → Sane (opened x) × (note x (sign left) ≡ goes (opened x))
    go true b f g o = bad o
    go false true f g o = bad o
    go false false f g o = (
      record {
        short = s.short;
        apart = end;
        few = s.few;
        columns = omega (arith, ltb-false 256 (length x.columns + length x.clades) f, length-append x.clades ([] ∷ []));
        nested = omega (arith, ltb-false 63 (length x.brackets) g);
      },
      rw (f, g),
    )

-- ---- trees

mutual
  unfolding tokens names clades depth wrongs keep

  tree_told : (t : Tree) (x : Tally) (k : List Token) → Room x (names t) (clades t) (depth t) → notes note x (tokens t k) ≡ notes note (plus x (names t) (clades t)) k
  tree_told (leaf n) x k r = rw append-nil (tells x (word n) k (word_told r))
  tree_told (inner ts t) x k r =
      let ns = all_names ts in
      let cs = all_clades ts in
      let i = room_in r in
      let z = plus (opened x) ns cs in
      tells x (sign left) _ (bracket_told r)
      ∙ trees_told ts (opened x) _ (room_former ns (names t) cs (clades t) (deepest ts) (depth t) i)
      ∙ tree_told t z _ (room_latter ns (names t) cs (clades t) (deepest ts) (depth t) i)
      ∙ ap (λ (y : Tally). notes note y (sign right ∷ k)) (plus_plus (opened x) ns (names t) cs (clades t))
      ∙ tells (plus (opened x) (ns ++ names t) (cs ++ clades t)) (sign right) k refl
      ∙ ap (λ (y : Tally). notes note y k) (closed_plus x (ns ++ names t) (cs ++ clades t))

  trees_told : (ts : Trees) (x : Tally) (k : List Token) → Room x (all_names ts) (all_clades ts) (deepest ts) → notes note x (commas ts k) ≡ notes note (plus x (all_names ts) (all_clades ts)) k
  trees_told (one t) x k r = tree_told t x _ r ∙ tells (plus x (names t) (clades t)) (sign comma) k refl
  trees_told (then ts t) x k r =
      let ns = all_names ts in
      let cs = all_clades ts in
      trees_told ts x _ (room_former ns (names t) cs (clades t) (deepest ts) (depth t) r)
      ∙ tree_told t (plus x ns cs) _ (room_latter ns (names t) cs (clades t) (deepest ts) (depth t) r)
      ∙ tells (plus (plus x ns cs) (names t) (clades t)) (sign comma) k refl
      ∙ ap (λ (y : Tally). notes note y k) (plus_plus x ns (names t) cs (clades t))

mutual
  unfolding tokens names clades depth wrongs keep

  tree_room_lem : {y : Tally} (t : Tree) (x : Tally) (k : List Token) → Sane x → notes note x (tokens t k) ≡ goes y → Room x (names t) (clades t) (depth t)
  tree_room_lem (leaf n) x k s e = let (z, f) = took x (word n) k e in word_room s f
  tree_room_lem (inner ts t) x k s e =
      let ns = all_names ts in
      let cs = all_clades ts in
      let (u, f) = took x (sign left) _ e in
      let (i, g) = bracket_sane s f in
      let e₁ = sym (tells x (sign left) _ g) ∙ e in
      let r = trees_room ts (opened x) _ i e₁ in
      let v = tree_room_lem t (plus (opened x) ns cs) _ (room_sane r) (sym (trees_told ts (opened x) _ r) ∙ e₁) in
      room_out (ns ++ names t) (room_both ns (names t) cs (clades t) (deepest ts) (depth t) r v)

  trees_room : {y : Tally} (ts : Trees) (x : Tally) (k : List Token) → Sane x → notes note x (commas ts k) ≡ goes y → Room x (all_names ts) (all_clades ts) (deepest ts)
  trees_room (one t) x k s e = tree_room_lem t x _ s e
  trees_room (then ts t) x k s e =
      let ns = all_names ts in
      let cs = all_clades ts in
      let r = trees_room ts x _ s e in
      let v = tree_room_lem t (plus x ns cs) _ (room_sane r) (sym (trees_told ts x _ r) ∙ e) in
      room_both ns (names t) cs (clades t) (deepest ts) (depth t) r v

-- ---- files

-- What is kept between two trees.
abbrev pub between : List Bytes → List Column → Tally
between ns cs = record { taxa = ns; columns = cs; here = []; brackets = []; clades = [] }

columns_tail : (t : Tree) → map (λ c. record { ones = c; tree = names t }) (tail (clades t)) ≡ columns t
unfolding columns clades names
columns_tail (leaf n) = refl
columns_tail (inner ts t) = refl

pub columns_few : (t : Tree) → length (columns t) ≡ pred (length (clades t))
unfolding columns clades names
columns_few (leaf n) = refl
columns_few (inner ts t) = simp length-map

-- A tree and its semicolon.
closes : (t : Tree) (ns : List Bytes) (cs : List Column) (k : List Token) → Room (between ns cs) (names t) (clades t) (depth t)
    → notes note (between ns cs) (tokens t (sign semicolon ∷ k)) ≡ notes note (between (seen ns (names t)) (cs ++ columns t)) k
unfolding wrongs keep
closes t ns cs k r =
    tree_told t (between ns cs) _ r ∙ tells (plus (between ns cs) (names t) (clades t)) (sign semicolon) k refl ∙ rw (columns_tail t)

-- The trees are within the limits, and there is room for one more.
one_room : (t : Tree) → Within (one t) → Room nothing (names t) (clades t) (depth t)
unfolding names all_columns depth
one_room t w = record { short = w.short; apart = go w.once; few = w.few; columns = omega (arith, w.columns, columns_few t); nested = omega (arith, w.nested) }
  where
    go : Once (one t) → Distinct [] (names t)
    go (first d) = d

room_one : (t : Tree) → Room nothing (names t) (clades t) (depth t) → Within (one t)
unfolding names all_columns depth
room_one t r = record { short = r.short; once = first r.apart; few = r.few; columns = omega (arith, r.columns, columns_few t); nested = omega (arith, r.nested) }

module _ (ts : Trees) (t : Tree) where
  more_within : Within (then ts t) → Within ts
  unfolding names all_columns depth
  more_within w = record {
    short = λ n l. w.short n (Memᴰ.append_left (names t) l);
    once = go w.once;
    few = omega (arith, w.few, ap length (seen_append [] (all_names ts) (names t)), seen_grows (taxa ts) (names t));
    columns = omega (arith, w.columns, length-append (all_columns ts) (columns t));
    nested = omega (arith, w.nested);
  }
    where
      go : Once (then ts t) → Once ts
      go (and o d) = o

  more_room : Within (then ts t) → Room (between (taxa ts) (all_columns ts)) (names t) (clades t) (depth t)
  unfolding names all_columns depth
  more_room w = record {
    short = λ n l. w.short n (Memᴰ.append_right (all_names ts) l);
    apart = go w.once;
    few = omega (arith, w.few, ap length (seen_append [] (all_names ts) (names t)));
    columns = omega (arith, w.columns, length-append (all_columns ts) (columns t), columns_few t);
    nested = omega (arith, w.nested);
  }
    where
      go : Once (then ts t) → Distinct [] (names t)
      go (and o d) = d

  room_more : Within ts → Room (between (taxa ts) (all_columns ts)) (names t) (clades t) (depth t) → Within (then ts t)
  unfolding names all_columns depth
  room_more w r = record {
    short = λ n l. ⊎_elim (w.short n) (r.short n) (Memᴰ.append_cases (all_names ts) l);
    once = and w.once r.apart;
    few = omega (arith, r.few, ap length (seen_append [] (all_names ts) (names t)));
    columns = omega (arith, r.columns, length-append (all_columns ts) (columns t), columns_few t);
    nested = omega (arith, w.nested, r.nested);
  }

within_sane : {ts : Trees} → Within ts → Sane (between (taxa ts) (all_columns ts))
unfolding seen
within_sane w = record { short = λ n l. absurd (Memᴰ.not-nil l); apart = end; few = w.few; columns = omega (arith, w.columns); nested = omega arith }

file_told : (ts : Trees) (k : List Token) → Within ts → notes note nothing (file ts k) ≡ notes note (between (taxa ts) (all_columns ts)) k
unfolding file names all_columns
file_told (one t) k w = closes t [] [] k (one_room t w)
file_told (then ts t) k w =
    file_told ts _ (more_within ts t w) ∙ closes t (taxa ts) (all_columns ts) k (more_room ts t w) ∙ rw (seen_append [] (all_names ts) (names t))

file_within : {y : Tally} (ts : Trees) (k : List Token) → notes note nothing (file ts k) ≡ goes y → Within ts
unfolding file seen
file_within (one t) k e = room_one t (tree_room_lem t nothing _ start e)
  where
    start : Sane nothing
    start = record { short = λ n l. absurd (Memᴰ.not-nil l); apart = end; few = omega arith; columns = omega arith; nested = omega arith }
file_within (then ts t) k e =
    let w = file_within ts _ e in
    room_more ts t w (tree_room_lem t (between (taxa ts) (all_columns ts)) _ (within_sane w) (sym (file_told ts _ w) ∙ e))

-- Trees within the limits are taken ..
pub taken : (ts : Trees) → Within ts → notes note nothing (file ts []) ≡ goes (between (taxa ts) (all_columns ts))
unfolding notes
taken ts w = file_told ts [] w

-- .. and no others.
pub tallied : {y : Tally} (ts : Trees) → notes note nothing (file ts []) ≡ goes y → Within ts × (y ≡ between (taxa ts) (all_columns ts))
tallied ts e = let w = file_within ts [] e in let f = taken ts w in (w, cc)
