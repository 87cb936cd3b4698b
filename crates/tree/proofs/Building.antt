-- The tree of a file that is taken: what the steps of its growing ask for (`lent_ready`, `lent_fits`, `to_order`), and that what they come to is the tree of
-- the method's answer, with its flips (`has_grown`). Then that writing it, or all, is not refused (`tree_written`, `whole_written`, `answers_all`).
use mathlib.Core.Path.{◌≡◌, refl, sym, ap, ◌∙◌, subst}
use mathlib.Core.List.{List}
use Prim.Native.Nat.{ℕ, zero, suc, ◌≤◌, ◌<◌}
use native.Mathlib.Omega.{arith}
use lib.IntN.{ℤ}
use lib.ListN.{length}
use lib.Seq.{get_or-take}
use borrow.Author.Tests.{le-ltb}
use Rattle.taxa.specs.Sets.{Positive, multiplicity, multiplicity_in, Tabled, all}
use Rattle.taxa.proofs.Members.{all_<, all_fits}
use Rattle.taxa.proofs.Counts.{count_all}
use Rattle.record.specs.Bytes.{File, over}
use Rattle.matrix.specs.Check.{checked}
use Rattle.answer.specs.declared.Answer.{Answer}
use Rattle.answer.specs.Content.{Content, file_of, length_of}
use Rattle.answer.specs.Lawful.{Lawful}
use Rattle.answer.specs.Tests.{judge}
use Rattle.answer.specs.Writing.{write_tests, writing}
use Rattle.answer.proofs.Meaning.{lawful_passes}
use Rattle.method.specs.Split.{Column}
use Rattle.method.specs.Tree.{Matrix, Sound, column, one_entries, build, ordered, flip_list, answer}
use Rattle.method.proofs.Arcs.{arcs_ones}
use Rattle.method.proofs.Order.{build_length}
use Rattle.method.proofs.Promises as promises
use Rattle.search.specs.Workspace.{cleared}
use Rattle.search.specs.Search.{cols_of}
use Rattle.search.proofs.Workspace.{clear_less, cleared_clear}
use Rattle.split.specs.inner.Handing.{Parallel}
use Rattle.split.specs.Columns.{matrix_in}
use Rattle.split.proofs.Soundness.{taken_count, taken_known, few_taxa, few_columns, can_load, taken_sound}
use Rattle.tree.specs.Lists.{first_groups}
use Rattle.tree.specs.inner.Lists.{unweighed}
use Rattle.tree.specs.inner.Grow.{arcs_in, Ready, Grown, Walked, tree_of, Growable, Grew, Answers}
use Rattle.tree.specs.inner.On as tree-on
use Rattle.split.specs.inner.On as on
use Rattle.split.specs.declared.loaded.Loaded.{Loaded}
use Rattle.tree.specs.Build as specs
use Rattle.tree.specs.Build.{tree_with, with_flips, tree_for, content_for, tree_room, room_for}
use Rattle.tree.proofs.Rules.{answer_lawful, answer_fits, flips_few, answer_of_tree, tree_lawful, tree_fits}
use Rattle.std.specs.Prelude.{Result, Ok}
use Rattle.record.specs.declared.refusal.Refusal.{Refusal}
use Rattle.matrix.specs.Check.{shape}
use Rattle.tree.specs.declared.Built.{Built}

-- The flip list asks for no weight, and for no column past the last.
same_flips : (m : ℕ) (old new new' : ℕ → Column) → ((c : ℕ) → c < m → ((new c).ones ≡ (new' c).ones) × ((new c).zeros ≡ (new' c).zeros))
    → flip_list m old new ≡ flip_list m old new'
unfolding flip_list
same_flips zero old new new' same = refl
same_flips (suc m) old new new' same =
    let (ones, zeros) = same m (omega arith) in
    rw (same_flips m old new new' (λ c l. same c (omega arith)), ones, zeros)

module _ {file : List ℕ} {n m space : ℕ} (f : File file) (b : Growable file n m space) where
  abbrev M : Matrix
  M = matrix_in file

  abbrev file_columns_lem : ℕ → Column
  file_columns_lem = column M.columns

  abbrev file_multiplicities : ℕ → ℕ
  file_multiplicities = multiplicity M.multiplicities

  ok : Sound M
  ok = taken_sound f b.taken

  -- ---- the walk from all taxa

  -- The network of all taxa has no more arcs than the file has 1s.
  few_arcs : (ws os zs : List ℕ) → length ws ≡ m → cols_of ws os zs ≡ file_columns_lem → arcs_in ws os zs (all n) ≤ one_entries M
  unfolding one_entries
  few_arcs ws os zs e c = rw (e, c, taken_count f b.taken) (arcs_ones m file_columns_lem (all n))

  grow_ready : {ws P os zs : List ℕ} {needed : ℕ} {clear : List ℤ} (before : List ℤ) → Parallel ws os zs → cols_of ws os zs ≡ file_columns_lem
      → multiplicity_in P ≡ file_multiplicities → Tabled P
      → length ws ≡ m → needed ≡ one_entries M → clear ≡ cleared needed before → length before ≡ space → Ready ws P os zs (all n) n clear
  grow_ready {ws} {os = os} {zs} before p is u t e k c l =
      record {
        loaded = record {
          parallel = p;
          columns = omega (arith, few_columns f b.taken);
          positive = subst Positive (sym u) ok.positive;
          tabled = t;
          taxa = few_taxa f b.taken;
        };
        group = all_< n;
        clear = rw (c, k) (clear_less (few_arcs ws os zs e is) (cleared_clear (one_entries M) before (omega (arith, b.places))));
      }

  few_groups : (μ : ℕ → ℕ) (cols : ℕ → Column) → length (build 64 μ m cols (all n)).groups ≤ 63
  few_groups μ cols =
      let few = few_taxa f b.taken in
      let size = count_all 64 n few in
      omega (arith, build_length 64 μ m cols (all n) (all_fits 64 few) (omega (arith, ok.some, taken_known f b.taken)))

  module _ {x : Loaded} (h : on.Holds file n m x) where
    pub lent_ready : {needed : ℕ} {clear : List ℤ} (before : List ℤ) → needed ≡ one_entries M → clear ≡ cleared needed before → length before ≡ space
        → tree-on.Ready x (all x.n) clear
    lent_ready before k c l = rw h.taxa_are (grow_ready before h.parallel h.is h.stand_for h.tabled h.sized k c l)

    pub lent_fits : length (tree-on.walk_from x (all x.n)).groups ≤ 63
    lent_fits = rw (h.taxa_are, h.sized) (few_groups (on.multiplicities x) (on.columns x))

  -- ---- what it comes to

  module _ {x : Loaded} (h : on.Holds file n m x) (os' zs' ts cs ts' cs' : List ℕ) {clear clear' : List ℤ} (k : ℕ)
      (g : Grown (on.weights x) (on.entries x os') (on.entries x zs') clear clear' (tree-on.walk_from x (all n)) (first_groups ts cs 0) (first_groups ts' cs' k) 0 k) where
    walked_groups : first_groups ts' cs' k ≡ (build 64 file_multiplicities (length M.columns) file_columns_lem (all M.taxa)).groups
    unfolding first_groups
    walked_groups = g.groups ∙ rw (h.stand_for, h.is, h.sized, taken_count f b.taken, taken_known f b.taken)

    groups_are : ordered 64 n (first_groups ts' cs' k) ≡ (answer M).groups
    unfolding answer
    groups_are = rw (walked_groups, taken_known f b.taken)

    flips_are : flip_list m file_columns_lem (unweighed os' zs') ≡ (answer M).flips
    unfolding answer cols_of
    flips_are =
        same_flips m file_columns_lem (unweighed os' zs') (cols_of (on.weights x) (on.entries x os') (on.entries x zs'))
        (λ c l. (sym (get_or-take x.m os' c 0 (omega (arith, h.columns_are))), sym (get_or-take x.m zs' c 0 (omega (arith, h.columns_are)))))
        ∙ rw (g.columns, h.stand_for, h.is, h.sized, taken_count f b.taken, taken_known f b.taken)

    pub tree_is : tree_with n m (ordered 64 n (first_groups ts' cs' k)) ≡ tree_for M
    unfolding tree_for
    tree_is = rw (groups_are, taken_count f b.taken, taken_known f b.taken)

    pub to_order : Walked n ts' cs' k
    unfolding answer
    to_order =
        record {
          few = rw groups_are (omega (arith, promises.groups_few M ok, few_taxa f b.taken, taken_known f b.taken));
          small = rw groups_are (omega (arith, promises.total_small M ok));
        }

    -- So the tree has grown.
    pub has_grown : {a : Answer} → (tree_of a ≡ tree_with n m (ordered 64 n (first_groups ts' cs' k))) × (a.flips ≡ 0)
        → Grew file a os' zs'
    has_grown {a} (e, none) =
        let many : a.m ≡ m = ap (λ (c : Content). c.m) e in
        record {
          tree = e ∙ tree_is;
          none = none;
          flips = rw many flips_are;
          flipped = record {
            columns = many ∙ sym (taken_count f b.taken);
            few_columns = omega (arith, few_columns f b.taken);
            whole = rw many (can_load f b.taken refl).1;
          };
        }

  -- ---- writing it

  -- A lawful content is written where there is room.
  writes_all : {c : Content} → Lawful c → (listed room : ℕ) → c.flips ≤ listed → length_of c ≤ room → writing c listed room ≡ Ok (length_of c)
  unfolding writing write_tests judge
  writes_all {c} h listed room l k = rw (← lawful_passes h listed l, le-ltb room (length_of c) k)

  pub tree_written : (room : ℕ) → tree_room n ≤ room → writing (tree_for M) 0 room ≡ Ok (length_of (tree_for M))
  unfolding tree_for
  tree_written room fits = writes_all (tree_lawful M ok) 0 room (omega arith) (omega (arith, tree_fits M ok, taken_known f b.taken))

  -- What has grown fits the room for any tree.
  pub fits_any : {a : Answer} {os zs : List ℕ} → Grew file a os zs
      → (writing (tree_of a) 0 (tree_room 64) ≡ Ok (length_of (tree_of a))) × (length_of (tree_of a) ≤ tree_room 64)
  fits_any g =
      let few = few_taxa f b.taken in
      subst (λ (c : Content). (writing c 0 (tree_room 64) ≡ Ok (length_of c)) × (length_of c ≤ tree_room 64)) (sym g.tree)
      (tree_written (tree_room 64) (omega arith), omega (arith, tree_fits M ok, taken_known f b.taken))

  pub whole_written : (room : ℕ) → room_for n m ≤ room → writing (content_for M) 256 room ≡ Ok (length_of (content_for M))
  whole_written room fits =
      writes_all (answer_lawful M ok) 256 room (omega (arith, flips_few M ok, taken_count f b.taken, few_columns f b.taken))
      (omega (arith, answer_fits M ok, taken_count f b.taken, taken_known f b.taken))

-- What has grown, with its flips, is the method's answer.
pub whole_is : {file os zs : List ℕ} {a : Answer} → Grew file a os zs
    → with_flips (tree_of a) (flip_list a.m (column (matrix_in file).columns) (unweighed os zs)) ≡ content_for (matrix_in file)
whole_is {file} g = (λ i. with_flips (g.tree i) (g.flips i)) ∙ sym (answer_of_tree (matrix_in file))

-- What is written so is answered, and the output holds it.
pub answers_all : {c c' : Content} {entries : ℕ} {out out' : List ℕ} {r : Result Built Refusal} → Answers c' entries out r out' → c' ≡ c
    → writing c entries (length out) ≡ Ok (length_of c)
    → (r ≡ specs.written c) × (out' ≡ over (file_of c) 0 out)
answers_all a e w = (rw (e, w) at a.answers, rw (e, w) at a.output)

pub some_taxa : {file : List ℕ} {n m : ℕ} → File file → Ok (shape n m) ≡ checked file → 0 < n
some_taxa f taken = omega (arith, (taken_sound f taken).some, taken_known f taken)
