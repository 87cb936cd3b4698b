-- Document 02's C-23. Of any accepted pair the score is the least weight of a choice of flips (`score_is_least`), by the columns of the method
-- (`least_weight`) and of the score (`score_distance`, `none_nearer`), for the nodes of an answer are the clades of its tree
-- (`any_answer_is_a_tree`). The flips of a built answer are such a choice (`flips_are_a_choice`), so its score is at most its total
-- (`score_at_most_total`).
use mathlib.Core.Path.{◌≡◌, refl, sym, ap, ◌∙◌}
use mathlib.Core.Logic.{◌⊎◌, inl, inr, ⊎_elim}
use mathlib.Core.List.{List}
use Prim.Native.Nat.{ℕ, ◌+◌, ◌*◌, ◌≤◌, ◌<◌}
use native.Mathlib.Omega.{arith}
use lib.Dec.{eqb}
use lib.ListN.{length, get_or, length-map}
use Rattle.taxa.specs.Sum.{sum}
use Rattle.taxa.specs.Sets.{mass, all}
use Rattle.taxa.proofs.Sums.{sum_≡, sum_+}
use Rattle.taxa.proofs.Members.{none, below, in_all, all_<, all_fits, ⊆-≤, ∩-disjoint}
use Rattle.record.specs.Bytes.{File}
use Rattle.record.proofs.Steps.{either_way}
use Rattle.matrix.specs.Matrix.{LegalColumn, column_in, matrix_of}
use Rattle.matrix.proofs.Taken.{taken_column}
use Rattle.answer.specs.Content.{Content, content_in, length_of}
use Rattle.answer.specs.Lawful.{Lawful}
use Rattle.answer.proofs.Accepted.{taken_lawful}
use Rattle.answer.proofs.Encoding.{file_taken}
use Rattle.method.specs.Split.{Column, Same}
use Rattle.method.specs.Tree.{Matrix, Sound, made, group, single, RootedTree}
use Rattle.method.specs.Choices.{turned_by, choice_weight, LetsFill}
use Rattle.method.proofs.Clades.{clades_tree}
use Rattle.method.proofs.Choices.{wrong, Goal, filling, wrong_mass, least_weight}
use Rattle.method.proofs.Promises as method
use Rattle.split.specs.Columns.{column_of, matrix_in}
use Rattle.split.proofs.Loading.{file_column}
use Rattle.split.proofs.Soundness.{taken_count, taken_known, taken_sound}
use Rattle.tree.specs.Build.{content_for}
use Rattle.tree.proofs.Lists.{group_at, place_of}
use Rattle.score.specs.Score.{at_leaf, at_group, distance, ColumnScore, column_score}
use Rattle.score.specs.Operation.{NodeIn, node_in, stand_for, returned, Scores}
use Rattle.score.proofs.Least.{goal, score_distance, none_nearer}
use Rattle.promises.specs.Held.{Leaves, flips_in, total_in, many, columns_of, multiplicities_of, known}
use Rattle.promises.specs.Pairs.{AcceptedPair, clades_in, LeastFlips}
use Rattle.promises.proofs.Bytes.{file_bytes}
use Rattle.promises.proofs.Answers.{leaves_taken, leaves_file, sound, lawful, answer_content, groups_are, flips_are, total_is}
use Rattle.promises.proofs.Score.{scored_exactly, column_node, score_is}
use Rattle.std.specs.Prelude.{Result}
use Rattle.record.specs.declared.refusal.Refusal.{Refusal}
use Rattle.score.specs.declared.Sums.{Sums}

-- ---- the tree of any accepted answer

module _ {file answerFile : List ℕ} (f : File file) (g : File answerFile) (p : AcceptedPair file answerFile) where
  abbrev M : Matrix
  M = matrix_in file

  abbrev a : Content
  a = content_in answerFile

  keeps : Lawful a
  keeps = taken_lawful answerFile p.accepted.passes g

  same_taxa : a.n ≡ M.taxa
  same_taxa = p.same_n ∙ sym (taken_known f p.accepted.taken)

  -- Its nodes are its clades.
  node_clade : {X : ℕ} → NodeIn answerFile X → clades_in answerFile M X
  node_clade (at_leaf i l) = single i (in_all M.taxa (omega (arith, same_taxa))) refl
  node_clade (at_group i l) = group (record { taxa = get_or a.taxa i 0; cost = get_or a.costs i 0 }) (group_at a.taxa a.costs a.groups i l) refl

  clade_node : {X : ℕ} → clades_in answerFile M X → NodeIn answerFile X
  clade_node (single i x e) = rw e (at_leaf i (omega (arith, same_taxa, below M.taxa (all_< M.taxa) x)))
  clade_node (group h l e) = let (i, b, is) = place_of a.taxa a.costs a.groups l in rw (e, is) (at_group i b)

  pub any_answer_is_a_tree : RootedTree (known M) (clades_in answerFile M)
  any_answer_is_a_tree =
      let groups = keeps.groups_lawful in
      let head = keeps.head_lawful in
      clades_tree (record {
        some = omega (arith, same_taxa, head.some_taxa);
        whole = λ two. (
          record { taxa = get_or a.taxa 0 0; cost = get_or a.costs 0 0 },
          group_at a.taxa a.costs a.groups 0 (omega (arith, same_taxa, head.some_groups (omega (arith, same_taxa)))),
          groups.first_is_all (omega (arith, same_taxa)) ∙ ap all same_taxa,
        );
        two = λ l. let (i, b, e) = place_of a.taxa a.costs a.groups l in rw e (groups.two_or_more i b);
        inside = λ l. let (i, b, e) = place_of a.taxa a.costs a.groups l in rw (e, ← same_taxa) (groups.known i b);
        nested = λ l r.
            let (i, b, e) = place_of a.taxa a.costs a.groups l in
            let (j, d, h) = place_of a.taxa a.costs a.groups r in
            rw (e, h) (groups.nested_or_disjoint i j b d);
      })

  -- ---- "the score is the least weight of flips, over all choices of flips, that lets every column be filled to a clade of that tree or to nothing"

  abbrev μ : ℕ → ℕ
  μ = stand_for file

  abbrev m : ℕ
  m = many M

  -- To fill a column to F weighs its distance to F.
  filling_distance : (c F : ℕ) → c < m → filling 64 μ (columns_of M c) F ≡ distance μ (column_in file c) F
  unfolding distance
  filling_distance c F b =
      let d = column_of (column_in file c) in
      ap (λ (x : Column). x.weight * mass 64 μ (wrong x F)) (file_column file b) ∙ ap (λ (x : ℕ). d.weight * x) (wrong_mass d F 64 μ)

  -- What the check has seen of the matrix, and of a column.
  whole : Sound M
  whole = taken_sound f p.accepted.taken

  legal : (c : ℕ) → c < m → LegalColumn M.taxa (column_in file c)
  legal c b = taken_column f p.accepted.taken c (omega (arith, taken_count f p.accepted.taken))

  module _ {r : Result Sums Refusal} (x : Scores file answerFile r) where
    returns : (returned r).number ≡ 0
    returns = (scored_exactly x).1 p

    abbrev node : ℕ → ℕ
    node c = node_in μ answerFile (column_in file c)

    -- What each column is brought to: a clade, or nothing.
    abbrev best : ℕ → ℕ
    best c = goal μ (column_in file c) (node c)

    goals : (c : ℕ) → Goal (clades_in answerFile M) (known M) (best c)
    goals c =
        let clade = node_clade (column_node f x returns c).is_node in
        either_way (Goal (clades_in answerFile M) (known M)) (eqb (column_in file c).ones 0)
        (inl refl, record { sub = λ h. absurd (none h) })
        (inr clade, any_answer_is_a_tree.inside clade)

    -- No clade is nearer, nor is nothing.
    nearest : (c F : ℕ) → c < m → F ≡ 0 ⊎ clades_in answerFile M F → distance μ (column_in file c) (best c) ≤ distance μ (column_in file c) F
    nearest c F b at =
        let l = legal c b in
        none_nearer μ (column_in file c) (column_node f x returns c) (∩-disjoint l.apart)
        (omega (arith, ⊆-≤ l.ones_known, all_fits 64 whole.few))
        (λ i one. at_leaf i (omega (arith, same_taxa, below M.taxa (all_< M.taxa) (l.ones_known.sub one))))
        F (⊎_elim inl (λ clade. inr (clade_node clade)) at)

    -- The score is what all columns weigh.
    adds_up : (returned r).raises + (returned r).lowers ≡ sum m (λ c. filling 64 μ (columns_of M c) (best c))
    adds_up =
        let count = length-map (matrix_of file).columns column_of in
        let (up, down) = score_is f x returns node (λ c b some. column_node f x returns c) in
        let s : ℕ → ColumnScore = λ c. column_score μ (column_in file c) (node c) in
        (λ i. up i + down i) ∙ sym (sum_+ (length (matrix_of file).columns) (λ c. (s c).raises) (λ c. (s c).lowers))
        ∙ ap (λ (k : ℕ). sum k (λ c. (s c).raises + (s c).lowers)) (sym count)
        ∙ sum_≡ m (λ c b. score_distance μ (column_in file c) (node c) ∙ sym (filling_distance c (best c) b))

    pub score_is_least : ((returned r).number ≡ 0) × LeastFlips file answerFile ((returned r).raises + (returned r).lowers)
    unfolding matrix_of
    score_is_least = (
      returns,
      rw adds_up (least_weight 64 μ m (columns_of M) (clades_in answerFile M) (known M)
          (λ c b. record { clash = (whole.proper c b).off })
          whole.ones_in
          best
          (λ c b. goals c)
          (λ c F b (at, inside). omega (arith, filling_distance c (best c) b, filling_distance c F b, nearest c F b at))),
    )

-- ---- "the built tree's score is at most the total"

module _ {file answerFile : List ℕ} (f : File file) (b : Leaves file answerFile) where
  abbrev built : Matrix
  built = matrix_in file

  -- What the build leaves is an accepted answer of the same n and m.
  pub built_pair : AcceptedPair file answerFile
  unfolding content_for
  built_pair =
      let (n, m, taken) = leaves_taken b in
      record {
        n = n;
        m = m;
        accepted = record { taken = taken; here = record { at = length_of (content_for built) }; passes = rw (leaves_file b) (file_taken (lawful f b)) };
        same_n = ap (λ (c : Content). c.n) (answer_content f b) ∙ taken_known f taken;
        same_m = ap (λ (c : Content). c.m) (answer_content f b) ∙ taken_count f taken;
      }

  -- Its flips are a choice of flips: it makes the columns that they make, lets them be filled to the clades, and weighs the total.
  pub flips_are_a_choice : (chosen : ℕ → ℕ)
      × LetsFill 64 (multiplicities_of built) (many built) (columns_of built) (clades_in answerFile built) (known built) chosen
      × ((c i : ℕ) → c < many built → Same (turned_by chosen (columns_of built) c) (made (flips_in answerFile) (columns_of built) c) i)
      × (choice_weight 64 (multiplicities_of built) (many built) (columns_of built) chosen ≡ total_in answerFile)
  flips_are_a_choice = rw (groups_are f b, flips_are f b, total_is f b) (method.answer_choice built (sound f b))

  pub score_at_most_total : {r : Result Sums Refusal} → Scores file answerFile r → ((returned r).number ≡ 0) × ((returned r).raises + (returned r).lowers ≤ total_in answerFile)
  score_at_most_total x =
      let (zero, least) = score_is_least f (rw (leaves_file b) (file_bytes (content_for built))) built_pair x in
      let (chosen, lets, same, weighs) = flips_are_a_choice in
      (zero, omega (arith, least.least chosen lets, weighs))
