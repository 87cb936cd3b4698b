-- The groups that a build comes to, with the columns as flipped so far: they are the groups of its list (`comes_listed`, `listed_comes`), each come to with
-- one set of columns (`comes_one`); no two of their splits flip the same entry (`flip_once`), which stood as in the file before (`flip_first`).
use mathlib.Core.Path.{◌≡◌, refl, sym, subst}
use mathlib.Core.Logic.{◌⊎◌, inl, inr, ⊎_elim}
use mathlib.Core.List.Memᴰ
use mathlib.Core.List.{List, [], ◌∷◌, Memᴰ}
use Prim.Native.Nat.{ℕ, ◌^◌, ◌≤◌, ◌<◌}
use native.Mathlib.Omega.{arith}
use Rattle.taxa.specs.Sets.{◌∈◌, ◌⊆◌, ◌∖◌, Positive, count}
use Rattle.taxa.proofs.Members.{in?, in∖, ⊆-refl, ⊆-trans, ⊆-≤, ∖-⊆}
use Rattle.taxa.proofs.Counts.{count_⊆, count_some}
use Rattle.method.specs.Split.{Column, Same, flipped, side, split_cost, after, FlipsAt, split_parts}
use Rattle.method.specs.Tree.{Group, Walk, walked, node, build, Turn, now, later, HandsOn, Comes, here, below}
use Rattle.method.proofs.Parts.{Parts, next, inside_R, is_part, part_side}
use Rattle.method.proofs.Entries.{same_refl, same_trans, Settled, settled_⊆, settled_same, Kept, kept_part, flip_frame, flip_free, flip_part, settled_share}
use Rattle.method.proofs.Splits.{part_of, split_parts_lem, part_in}
use Rattle.method.proofs.Depth.{build_node, build_ind}
use Rattle.method.proofs.Walks.{build_tame}

module _ (k : ℕ) (μ : ℕ → ℕ) (m : ℕ) where
  -- ---- turns

  turn_in : {cols mid : ℕ → Column} {P : ℕ} {Ps : List ℕ} → Turn k μ m cols Ps mid P → Memᴰ P Ps
  turn_in now = Memᴰ.head refl
  turn_in (later t) = Memᴰ.tail (turn_in t)

  -- The groups of a walk are those of its turns.
  turn_groups : {cols mid : ℕ → Column} {P : ℕ} {Ps : List ℕ} {g : Group} → Turn k μ m cols Ps mid P → Memᴰ g (build k μ m mid P).groups → Memᴰ g (walked (build k μ m) cols Ps).groups
  unfolding walked
  turn_groups {cols} (now {P = P} {Ps}) l = Memᴰ.append_left (walked (build k μ m) (build k μ m cols P).columns Ps).groups l
  turn_groups {cols} (later {P = P} t) l = Memᴰ.append_right (build k μ m cols P).groups (turn_groups t l)

  groups_turn : (cols : ℕ → Column) (Ps : List ℕ) {g : Group} → Memᴰ g (walked (build k μ m) cols Ps).groups
      → (mid : ℕ → Column) × (P : ℕ) × Turn k μ m cols Ps mid P × Memᴰ g (build k μ m mid P).groups
  unfolding walked
  groups_turn cols [] l = absurd (Memᴰ.not-nil l)
  groups_turn cols (P ∷ Ps) l =
      ⊎_elim (λ h. (cols, P, now, h)) (λ h. let (mid, Q, t, x) = groups_turn (build k μ m cols P).columns Ps h in (mid, Q, later t, x)) (Memᴰ.append_cases (build k μ m cols P).groups l)

  -- What the sets before P do leaves P as it was.
  turn_frame : Positive μ → {old cols mid : ℕ → Column} {S R P i : ℕ} {Ps : List ℕ} → R < 2 ^ k → Parts k μ m old S R Ps → Turn k μ m cols Ps mid P → i ∈ P → (c : ℕ) → Same (cols c) (mid c) i
  turn_frame pos {cols = cols} {i = i} fits ps now h c = same_refl (cols c) i
  turn_frame pos {old} {cols} {mid} {S} {i = i} fits (next {R} {P} s p ps) (later t) h c =
      same_trans ((build_tame k μ m pos cols P (omega (arith, ⊆-≤ s))).frame c (λ x. ((in∖ R P).0 ((inside_R k μ m old S ps (turn_in t)).sub h)).1 x))
      (turn_frame pos (omega (arith, ⊆-≤ (∖-⊆ R P))) ps t h c)

  -- A taxon is in the set of one turn only.
  turn_one : {old cols mid mid' : ℕ → Column} {S R P P' i : ℕ} {Ps : List ℕ} → Parts k μ m old S R Ps → Turn k μ m cols Ps mid P → Turn k μ m cols Ps mid' P' → i ∈ P → i ∈ P'
      → (Q : (ℕ → Column) → ℕ → Type 0) → Q mid' P' → Q mid P
  turn_one ps now now h h' Q x = x
  turn_one {old} {S = S} (next {R} {P} s p ps) now (later t) h h' Q x = absurd (((in∖ R P).0 ((inside_R k μ m old S ps (turn_in t)).sub h')).1 h)
  turn_one {old} {S = S} (next {R} {P} s p ps) (later t) now h h' Q x = absurd (((in∖ R P).0 ((inside_R k μ m old S ps (turn_in t)).sub h)).1 h')
  turn_one (next s p ps) (later t) (later t') h h' Q x = turn_one ps t t' h h' Q x

  -- ---- the groups of the list

  -- The group of S, with what its split costs.
  abbrev pub split_of_lem : (ℕ → Column) → ℕ → Group
  split_of_lem cols S = record { taxa = S; cost = split_cost k μ m cols S }

  module _ {cols mid : ℕ → Column} {S P : ℕ} (fits : S < 2 ^ k) (d : HandsOn k μ m cols S mid P) where
    ps : Parts k μ m (after k μ m cols S) S S (split_parts k μ m cols S)
    ps = split_parts_lem k μ m cols S fits d.two

    part_fits : P < 2 ^ k
    part_fits = (part_in k μ m cols S fits d.two (turn_in d.turn)).0

    part_inside : P ⊆ S
    part_inside = inside_R k μ m (after k μ m cols S) S ps (turn_in d.turn)

  pub comes_⊆ : {cols cols' : ℕ → Column} {S S' : ℕ} → S < 2 ^ k → Comes k μ m cols S cols' S' → S' ⊆ S
  comes_⊆ {S = S} fits here = ⊆-refl S
  comes_⊆ fits (below d c) = ⊆-trans (comes_⊆ (part_fits fits d) c) (part_inside fits d)

  pub comes_fits : {cols cols' : ℕ → Column} {S S' : ℕ} → S < 2 ^ k → Comes k μ m cols S cols' S' → S' < 2 ^ k
  comes_fits fits c = omega (arith, ⊆-≤ (comes_⊆ fits c))

  -- What the build comes to is in its list,
  pub comes_listed : {cols cols' : ℕ → Column} {S S' : ℕ} → S < 2 ^ k → Comes k μ m cols S cols' S' → 1 < count k S' → Memᴰ (split_of_lem cols' S') (build k μ m cols S).groups
  unfolding node
  comes_listed {cols} {S = S} fits here two = subst (λ (w : Walk). Memᴰ (split_of_lem cols S) w.groups) (sym (build_node k μ m cols fits two)) (Memᴰ.head refl)
  comes_listed {cols} {cols'} {S} {S'} fits (below d c) two =
      subst (λ (w : Walk). Memᴰ (split_of_lem cols' S') w.groups) (sym (build_node k μ m cols fits d.two))
      (Memᴰ.tail (turn_groups d.turn (comes_listed (part_fits fits d) c two)))

  -- and it comes to all that is.
  abbrev pub Met : (ℕ → Column) → ℕ → Group → Type 0
  Met cols S g = (cols' : ℕ → Column) × Comes k μ m cols S cols' g.taxa × (1 < count k g.taxa) × (g.cost ≡ split_cost k μ m cols' g.taxa)

  pub listed_comes : (cols : ℕ → Column) (S : ℕ) → S < 2 ^ k → {g : Group} → Memᴰ g (build k μ m cols S).groups → Met cols S g
  unfolding node
  listed_comes cols S fits {g} = build_ind k μ m (λ cols S w. (g : Group) → Memᴰ g w.groups → Met cols S g) (λ cols S fits few g l. absurd (Memᴰ.not-nil l)) step cols S fits g
    where
      step : (cols : ℕ → Column) (S : ℕ) (fits : S < 2 ^ k) (two : 1 < count k S)
          → ((P : ℕ) → Memᴰ P (split_parts k μ m cols S) → (c : ℕ → Column) (g : Group) → Memᴰ g (build k μ m c P).groups → Met c P g)
          → (g : Group) → Memᴰ g (node k μ m (build k μ m) cols S).groups → Met cols S g
      step cols S fits two ih g l =
          ⊎_elim
          (λ e. subst (Met cols S) (sym e) (cols, here, two, refl))
          (λ h.
          let (mid, P, t, x) = groups_turn (after k μ m cols S) (split_parts k μ m cols S) h in
          let (cols', c, more, e) = ih P (turn_in t) mid g x in
          (cols', below (record { two = two; turn = t }) c, more, e))
          (Memᴰ.cases_cons l)

  -- Of two groups with a common taxon, the build comes from one to the other.
  one_line : {cols cols₁ cols₂ : ℕ → Column} {S S₁ S₂ i : ℕ} → S < 2 ^ k → Comes k μ m cols S cols₁ S₁ → Comes k μ m cols S cols₂ S₂ → i ∈ S₁ → i ∈ S₂
      → Comes k μ m cols₁ S₁ cols₂ S₂ ⊎ Comes k μ m cols₂ S₂ cols₁ S₁
  one_line fits here q h h' = inl q
  one_line fits (below d p) here h h' = inr (below d p)
  one_line {cols₂ = cols₂} {S₂ = S₂} fits (below d p) (below e q) h h' =
      one_line (part_fits fits d) p
      (turn_one (ps fits d) d.turn e.turn ((comes_⊆ (part_fits fits d) p).sub h) ((comes_⊆ (part_fits fits e) q).sub h') (λ c P. Comes k μ m c P cols₂ S₂) q)
      h h'

  -- It comes to a group once, so with one set of columns.
  no_smaller : {cols cols' : ℕ → Column} {S S' : ℕ} → S < 2 ^ k → Comes k μ m cols S cols' S' → count k S ≤ count k S' → cols ≡ cols'
  no_smaller fits here l = refl
  no_smaller {cols} {S = S} fits (below d p) l = absurd (omega (arith, count_⊆ k (comes_⊆ (part_fits fits d) p), (part_in k μ m cols S fits d.two (turn_in d.turn)).2))

  pub comes_one : {cols cols₁ cols₂ : ℕ → Column} {S S' : ℕ} → S < 2 ^ k → Comes k μ m cols S cols₁ S' → Comes k μ m cols S cols₂ S' → 1 < count k S' → cols₁ ≡ cols₂
  comes_one {S' = S'} fits p q two =
      let (i, b, h) = count_some k S' (omega arith) in
      ⊎_elim (λ r. no_smaller (comes_fits fits p) r (omega arith)) (λ r. sym (no_smaller (comes_fits fits q) r (omega arith))) (one_line fits p q h h)

  -- ---- each entry is flipped at most once

  settled_still : Positive μ → (cols : ℕ → Column) (S : ℕ) → S < 2 ^ k → 1 < count k S → (c : ℕ) → Settled S (cols c) → (i : ℕ) → Same (cols c) (after k μ m cols S c) i
  unfolding flipped
  settled_still pos cols S fits two c q = let in_a = part_of k μ m cols S fits two in flip_free k μ S (side k μ m cols S) in_a (cols c) pos fits (settled_share k μ S (side k μ m cols S) in_a (cols c) q)

  -- A split flips entries in the group only, and none of a settled column.
  module _ {cols : ℕ → Column} {S c i : ℕ} (fits : S < 2 ^ k) (two : 1 < count k S) (f : FlipsAt k μ m cols S c i) where
    flips_inside : i ∈ S
    unfolding flipped
    flips_inside = elim (in? i S) [ yes h ↦ h | no n ↦ absurd (f.changed (flip_frame k μ S (side k μ m cols S) (part_of k μ m cols S fits two) (cols c) n)) ]

    unsettled : Positive μ → Settled S (cols c) → ⊥
    unsettled pos q = f.changed (settled_still pos cols S fits two c q i)

  module _ {cols mid : ℕ → Column} {S P : ℕ} (fits : S < 2 ^ k) (d : HandsOn k μ m cols S mid P) (pos : Positive μ) (c : ℕ) where
    in_a : side k μ m cols S ⊆ S
    in_a = part_of k μ m cols S fits d.two

    -- The part's columns are those after the split,
    at_turn : (i : ℕ) → i ∈ P → Same (after k μ m cols S c) (mid c) i
    at_turn i h = turn_frame pos fits (ps fits d) d.turn h c

    on_side : P ⊆ side k μ m cols S ⊎ P ⊆ S ∖ side k μ m cols S
    on_side = part_side k μ m cols S (side k μ m cols S) in_a (is_part k μ m (after k μ m cols S) S (ps fits d) (turn_in d.turn)).1

    -- so a column that is as in the file or settled in S is so in the part, and settled if the split flips an entry of the part.
    kept_turn : {file : Column} → Kept file S (cols c) → Kept file P (mid c)
    unfolding flipped
    kept_turn q =
        ⊎_elim (λ e. inl (λ i h. same_trans (e i h) (at_turn i h))) (λ q. inr (settled_same at_turn q))
        (kept_part k μ S (side k μ m cols S) in_a (cols c) pos fits (part_inside fits d) on_side q)

    settled_turn : Settled S (cols c) → Settled P (mid c)
    settled_turn q = settled_same (λ j x. same_trans (settled_still pos cols S fits d.two c q j) (at_turn j x)) (settled_⊆ (part_inside fits d) q)

    flips_settle : {i : ℕ} → i ∈ P → FlipsAt k μ m cols S c i → Settled P (mid c)
    unfolding flipped
    flips_settle {i} h f =
        ⊎_elim (λ e. absurd (f.changed (e i h))) (λ q. settled_same at_turn q) (flip_part k μ S (side k μ m cols S) in_a (cols c) (part_inside fits d) on_side)

  -- In each group a column is as in the file, or settled: it has no 0 or no 1 there.
  pub comes_kept : Positive μ → {cols cols' : ℕ → Column} {S S' : ℕ} {file : Column} → S < 2 ^ k → Comes k μ m cols S cols' S' → (c : ℕ) → Kept file S (cols c) → Kept file S' (cols' c)
  comes_kept pos fits here c q = q
  comes_kept pos fits (below d p) c q = comes_kept pos (part_fits fits d) p c (kept_turn fits d pos c q)

  comes_settled : Positive μ → {cols cols' : ℕ → Column} {S S' : ℕ} → S < 2 ^ k → Comes k μ m cols S cols' S' → (c : ℕ) → Settled S (cols c) → Settled S' (cols' c)
  comes_settled pos fits here c q = q
  comes_settled pos fits (below d p) c q = comes_settled pos (part_fits fits d) p c (settled_turn fits d pos c q)

  -- An entry that a split flips was as in the file.
  pub flip_first : Positive μ → {cols cols' : ℕ → Column} {S S' : ℕ} → S < 2 ^ k → Comes k μ m cols S cols' S' → 1 < count k S' → (c i : ℕ) → FlipsAt k μ m cols' S' c i → Same (cols c) (cols' c) i
  flip_first pos {cols} fits p two c i f =
      ⊎_elim (λ e. e i (flips_inside (comes_fits fits p) two f)) (λ q. absurd (unsettled (comes_fits fits p) two f pos q))
      (comes_kept pos {file = cols c} fits p c (inl (λ j h. same_refl (cols c) j)))

  flip_below : Positive μ → {cols cols' : ℕ → Column} {S S' : ℕ} → S < 2 ^ k → Comes k μ m cols S cols' S' → 1 < count k S' → (c i : ℕ) → FlipsAt k μ m cols S c i → FlipsAt k μ m cols' S' c i → S ≡ S'
  flip_below pos fits here two c i f f' = refl
  flip_below pos fits (below d p) two c i f f' =
      let fits' = comes_fits (part_fits fits d) p in
      let h = (comes_⊆ (part_fits fits d) p).sub (flips_inside fits' two f') in
      absurd (unsettled fits' two f' pos (comes_settled pos (part_fits fits d) p c (flips_settle fits d pos c h f)))

  -- Two splits that flip the same entry are one.
  pub flip_once : Positive μ → {cols cols₁ cols₂ : ℕ → Column} {S S₁ S₂ : ℕ} → S < 2 ^ k → Comes k μ m cols S cols₁ S₁ → Comes k μ m cols S cols₂ S₂ → 1 < count k S₁ → 1 < count k S₂
      → (c i : ℕ) → FlipsAt k μ m cols₁ S₁ c i → FlipsAt k μ m cols₂ S₂ c i → S₁ ≡ S₂
  flip_once pos fits p q two two' c i f f' =
      ⊎_elim (λ r. flip_below pos (comes_fits fits p) r two' c i f f') (λ r. sym (flip_below pos (comes_fits fits q) r two c i f' f))
      (one_line fits p q (flips_inside (comes_fits fits p) two f) (flips_inside (comes_fits fits q) two' f'))
