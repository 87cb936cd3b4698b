-- What the build of a group does to the columns: it changes nothing outside the group, flips each entry at most once, and what it flips is what its
-- splits cost.
use mathlib.Core.Path.{◌≡◌, refl, sym, ap, ap₂, ◌∙◌, subst}
use mathlib.Core.Logic.{◌⊎◌, inl, inr, ⊎_elim}
use mathlib.Core.List.Memᴰ
use mathlib.Core.List.{List, [], ◌∷◌, ◌++◌, Memᴰ}
use Prim.Native.Nat.{ℕ, ◌+◌, ◌*◌, ◌^◌, ◌≤◌, ◌<◌}
use native.Mathlib.Nat.{mul-le-mul}
use native.Mathlib.Omega.{arith}
use Rattle.taxa.specs.Sets.{◌∈◌, ◌∉◌, ◌⊆◌, ◌∖◌, mass, Positive, count}
use Rattle.taxa.proofs.Sums.{sum_bound}
use Rattle.taxa.proofs.Members.{in?, in∖, ∖-⊆, ⊆-≤}
use Rattle.method.specs.Split.{Column, Same, flipped, side, after, split_parts}
use Rattle.method.specs.Tree.{Group, Walk, leaf, walked, total, node, build}
use Rattle.method.proofs.Flips.{Proper, flips_bound, weighed, flips_cost}
use Rattle.method.proofs.Parts.{Parts, done, next, inside_R, cover, is_part, part_side}
use Rattle.method.proofs.Entries.{known, same_refl, same_trans, Settled, settled_⊆, settled_same, flip_frame, flip_free, flip_part, settled_share, weighed_self, weighed_add, Heavy, heavy_as}
use Rattle.method.proofs.Splits.{part_of, split_parts_lem, after_weight, after_known, after_proper, after_same}
use Rattle.method.proofs.Depth.{build_ind}

pub total_++ : (gs hs : List Group) → total (gs ++ hs) ≡ total gs + total hs
unfolding total
total_++ [] hs = omega arith
total_++ (g ∷ gs) hs = omega (arith, total_++ gs hs)

-- A group costs no more than all.
pub cost_≤ : {g : Group} {gs : List Group} → Memᴰ g gs → g.cost ≤ total gs
unfolding total
cost_≤ (Memᴰ.head e) = omega (arith, ap (λ (x : Group). x.cost) e)
cost_≤ (Memᴰ.tail l) = omega (arith, cost_≤ l)

module _ (k : ℕ) (μ : ℕ → ℕ) (m : ℕ) where
  -- What a walk of the sets Ps, which make up R, does to the columns.
  pub record Tame (cols : ℕ → Column) (R : ℕ) (Ps : List ℕ) (w : Walk) : Type 0 where
    pub weights : (c : ℕ) → (w.columns c).weight ≡ (cols c).weight
    pub knowns : (c : ℕ) → known (w.columns c) ≡ known (cols c)
    pub propers : ((c : ℕ) → Proper (cols c)) → (c : ℕ) → Proper (w.columns c)
    pub frame : {i : ℕ} (c : ℕ) → i ∉ R → Same (cols c) (w.columns c) i
    pub still : {P i : ℕ} (c : ℕ) → Memᴰ P Ps → Settled P (cols c) → i ∈ P → Same (cols c) (w.columns c) i
    pub paid : ((c : ℕ) → Proper (cols c)) → weighed k μ m cols w.columns ≡ total w.groups
    pub calm : Heavy m cols → total w.groups ≡ 0 → (c i : ℕ) → c < m → Same (cols c) (w.columns c) i

  leaf_tame : (cols : ℕ → Column) (R : ℕ) (Ps : List ℕ) → Tame cols R Ps (leaf cols)
  unfolding total
  leaf_tame cols R Ps = record {
    weights = λ c. refl;
    knowns = λ c. refl;
    propers = λ p. p;
    frame = λ {i} c n. same_refl (cols c) i;
    still = λ {P} {i} c l s h. same_refl (cols c) i;
    paid = weighed_self k μ m cols;
    calm = λ h e c i b. same_refl (cols c) i;
  }

  walked_tame : {old : ℕ → Column} {S R : ℕ} {Ps : List ℕ} → Parts k μ m old S R Ps
      → ((P : ℕ) → Memᴰ P Ps → (cols : ℕ → Column) → Tame cols P (P ∷ []) (build k μ m cols P)) → (cols : ℕ → Column) → Tame cols R Ps (walked (build k μ m) cols Ps)
  unfolding walked
  walked_tame done t cols = leaf_tame cols 0 []
  walked_tame {old} {S} (next {R} {P} {Ps} s p ps) t cols = join (t P (Memᴰ.head refl) cols) (walked_tame ps (λ Q l. t Q (Memᴰ.tail l)) (build k μ m cols P).columns)
    where
      mid : ℕ → Column
      mid = (build k μ m cols P).columns

      last : ℕ → Column
      last = (walked (build k μ m) mid Ps).columns

      off : {i : ℕ} → i ∈ P → i ∉ R ∖ P
      off h l = ((in∖ R P).0 l).1 h

      join : Tame cols P (P ∷ []) (build k μ m cols P) → Tame mid (R ∖ P) Ps (walked (build k μ m) mid Ps) → Tame cols R (P ∷ Ps) (walked (build k μ m) cols (P ∷ Ps))
      join a b = record {
        weights = λ c. b.weights c ∙ a.weights c;
        knowns = λ c. b.knowns c ∙ a.knowns c;
        propers = λ q. b.propers (a.propers q);
        frame = λ c n. same_trans (a.frame c (λ h. n (s.sub h))) (b.frame c (λ h. n ((∖-⊆ R P).sub h)));
        still = still;
        paid = λ q.
            weighed_add k μ m cols mid last q (a.propers q) a.weights (λ c i. elim (in? i P) [ yes h ↦ inr (b.frame c (off h)) | no n ↦ inl (a.frame c n) ])
            ∙ ap₂ (λ (x y : ℕ). x + y) (a.paid q) (b.paid (a.propers q)) ∙ sym (total_++ (build k μ m cols P).groups (walked (build k μ m) mid Ps).groups);
        calm = λ h e c i b'.
            let e' = total_++ (build k μ m cols P).groups (walked (build k μ m) mid Ps).groups in
            same_trans (a.calm h (omega arith) c i b') (b.calm (heavy_as a.weights h) (omega arith) c i b');
      }
        where
          still : {Q i : ℕ} (c : ℕ) → Memᴰ Q (P ∷ Ps) → Settled Q (cols c) → i ∈ Q → Same (cols c) (last c) i
          still {Q} {i} c (Memᴰ.head e) q h = same_trans (a.still c (Memᴰ.head e) q h) (b.frame c (off (subst (λ (X : ℕ). i ∈ X) e h)))
          still {Q} {i} c (Memᴰ.tail l) q h = same_trans (kept i h) (b.still c l (settled_same kept q) h)
            where
              kept : (j : ℕ) → j ∈ Q → Same (cols c) (mid c) j
              kept j x = a.frame c (λ y. off y ((inside_R k μ m old S ps l).sub x))

  -- A column that is settled in S is so in the parts, and stays.
  pub stays : {cols : ℕ → Column} {S i : ℕ} {Ps : List ℕ} {w : Walk} → Parts k μ m cols S S Ps → Tame cols S Ps w → (c : ℕ) → Settled S (cols c) → i ∈ S → Same (cols c) (w.columns c) i
  stays {cols} {S} ps t c q h = let (P, l, j) = cover k μ m cols S ps h in t.still c l (settled_⊆ (inside_R k μ m cols S ps l) q) j

  -- The split of S, given its parts' builds.
  module _ (pos : Positive μ) (cols : ℕ → Column) (S : ℕ) (fits : S < 2 ^ k) (two : 1 < count k S)
      (t : (P : ℕ) → Memᴰ P (split_parts k μ m cols S) → (c : ℕ → Column) → Tame c P (P ∷ []) (build k μ m c P)) where
    abbrev A : ℕ
    A = side k μ m cols S

    abbrev next_cols : ℕ → Column
    next_cols = after k μ m cols S

    abbrev last : ℕ → Column
    last = (walked (build k μ m) next_cols (split_parts k μ m cols S)).columns

    in_a : A ⊆ S
    in_a = part_of k μ m cols S fits two

    ps : Parts k μ m next_cols S S (split_parts k μ m cols S)
    ps = split_parts_lem k μ m cols S fits two

    below_tame : Tame next_cols S (split_parts k μ m cols S) (walked (build k μ m) next_cols (split_parts k μ m cols S))
    below_tame = walked_tame ps t next_cols

    quiet : {i : ℕ} (c : ℕ) → Settled S (cols c) → i ∈ S → Same (cols c) (last c) i
    unfolding flipped
    quiet {i} c q h =
        let f = flip_free k μ S A in_a (cols c) pos fits (settled_share k μ S A in_a (cols c) q) in
        same_trans (f i) (stays ps below_tame c (settled_same (λ x y. f x) q) h)

    -- No entry is flipped both by the split and below it.
    once : (c i : ℕ) → Same (cols c) (next_cols c) i ⊎ Same (next_cols c) (last c) i
    unfolding flipped
    once c i = elim (in? i S) [ yes h ↦ within h | no n ↦ inl (flip_frame k μ S A in_a (cols c) n) ]
      where
        within : i ∈ S → Same (cols c) (next_cols c) i ⊎ Same (next_cols c) (last c) i
        within h =
            let (P, l, j) = cover k μ m next_cols S ps h in
            let p = (is_part k μ m next_cols S ps l).1 in
            ⊎_elim (λ e. inl (e i j)) (λ q. inr (below_tame.still c l q j)) (flip_part k μ S A in_a (cols c) p.inside (part_side k μ m cols S A in_a p))

    node_tame : Tame cols S (S ∷ []) (node k μ m (build k μ m) cols S)
    unfolding node total flipped
    node_tame = record {
      weights = λ c. below_tame.weights c ∙ after_weight k μ m cols S fits two c;
      knowns = λ c. below_tame.knowns c ∙ after_known k μ m cols S fits two c;
      propers = λ q. below_tame.propers (after_proper k μ m cols S fits two q);
      frame = λ c n. same_trans (flip_frame k μ S A in_a (cols c) n) (below_tame.frame c n);
      still = λ {P} {i} c l q h.
          let e = Memᴰ.eq_of_singleton l in
          quiet c (subst (λ (X : ℕ). Settled X (cols c)) e q) (subst (λ (X : ℕ). i ∈ X) e h);
      paid = λ q.
          weighed_add k μ m cols next_cols last q (after_proper k μ m cols S fits two q) (after_weight k μ m cols S fits two) once
          ∙ ap₂ (λ (x y : ℕ). x + y) (flips_cost k μ m cols S A q) (below_tame.paid (after_proper k μ m cols S fits two q));
      calm = λ h e c i b.
          same_trans (after_same k μ m cols S fits two pos h (omega arith) c i b) (below_tame.calm (heavy_as (after_weight k μ m cols S fits two) h) (omega arith) c i b);
    }

  pub build_tame : Positive μ → (cols : ℕ → Column) (S : ℕ) → S < 2 ^ k → Tame cols S (S ∷ []) (build k μ m cols S)
  build_tame pos = build_ind k μ m (λ cols S w. Tame cols S (S ∷ []) w) (λ cols S fits few. leaf_tame cols S (S ∷ [])) (node_tame pos)

  -- So of sets that make up R, as the parts of a split.
  pub parts_tame : Positive μ → {old : ℕ → Column} {S R : ℕ} {Ps : List ℕ} → R < 2 ^ k → Parts k μ m old S R Ps → (cols : ℕ → Column) → Tame cols R Ps (walked (build k μ m) cols Ps)
  parts_tame pos {old} {S} fits ps = walked_tame ps (λ P l c. build_tame pos c P (omega (arith, ⊆-≤ (inside_R k μ m old S ps l))))

  -- The weighed flips of the build are what its splits cost.
  pub flips_total : Positive μ → (cols : ℕ → Column) (S : ℕ) → S < 2 ^ k → ((c : ℕ) → Proper (cols c))
      → weighed k μ m cols (build k μ m cols S).columns ≡ total (build k μ m cols S).groups
  flips_total pos cols S fits = (build_tame pos cols S fits).paid

  -- A column's flips weigh no more than the taxa that it knows, and so the total is bounded.
  pub total_bound : Positive μ → (cols : ℕ → Column) (S W T : ℕ) → S < 2 ^ k → ((c : ℕ) → Proper (cols c)) → ((c : ℕ) → c < m → (cols c).weight ≤ W)
      → ((c : ℕ) → c < m → mass k μ (known (cols c)) ≤ T) → total (build k μ m cols S).groups ≤ m * (W * T)
  unfolding weighed
  total_bound pos cols S W T fits q w t =
      let end = (build k μ m cols S).columns in
      omega (arith, flips_total pos cols S fits q, sum_bound m (W * T) (λ c b. mul-le-mul (w c b) (at_most c b (flips_bound k μ (q c) (end c)))))
    where
      at_most : (c : ℕ) → c < m → {n : ℕ} → n ≤ mass k μ (known (cols c)) → n ≤ T
      at_most c b l = omega (arith, t c b)
