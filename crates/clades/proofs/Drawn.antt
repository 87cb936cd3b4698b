-- What is drawn of groups that any two are nested or disjoint shows them (`drawn_shows`).
use mathlib.Core.Path.{◌≡◌, refl, sym, ap, ◌∙◌}
use mathlib.Core.Logic.{◌⊎◌, inl, inr, ⊎_elim}
use mathlib.Core.List.Memᴰ
use mathlib.Core.List.{List, [], ◌∷◌, map, Memᴰ}
use Prim.Native.Nat.{ℕ, zero, suc, ◌^◌, ◌≤◌, ◌<◌}
use native.Mathlib.Decide.{ℕ_discrete}
use native.Mathlib.Omega.{arith}
use Rattle.taxa.specs.Sets.{◌∈◌, ◌⊆◌, ◌∪◌, ◌∖◌, count, low}
use Rattle.taxa.proofs.Members.{in∪, in∖, ext, ⊆-refl, ⊆-trans, ∖-⊆, ∪-⊆, ⊆-≤, in_pow, pow_in, pow_⊆, low_in, low_≤, low_is}
use Rattle.taxa.proofs.Counts.{count_le, count_pos, count_zero}
use Rattle.grammar.specs.Trees.{Tree, Trees, then}
use Rattle.grammar.specs.Columns.{Bytes}
use Rattle.clades.specs.Shows.{Groups, Lowest, Part, Shows, taxon, group, Row, first, next}
use Rattle.clades.specs.Draw.{part, parts, bracket, joined, drawn}
use Rattle.clades.proofs.Parts.{row_in}
use Rattle.clades.proofs.Drawing.{alone, proper_<, nothing_more, some_more, Grows, takes, keeps, grows, piece}
use Rattle.clades.proofs.Drawing.{none_left, some_left, left_<, parts_next, drawn_taxon, drawn_group}

-- The lowest taxon of what is left.
lowest : {R : ℕ} → R < 2 ^ 64 → 0 < R → Lowest R (low 64 R)
lowest f p = record { member = low_in 64 p f; least = λ y. low_≤ 64 f y }

module _ {gs : List ℕ} (gr : Groups gs) where
  nested : {P G i : ℕ} → (P ≡ 2 ^ i) ⊎ Memᴰ P gs → Memᴰ G gs → i ∈ P → i ∈ G → G ⊆ P ⊎ P ⊆ G
  nested (inl e) g x y = inr (rw e (pow_⊆ y))
  nested (inr h) g x y = ⊎_elim inl (λ o. ⊎_elim inr (λ d. absurd (d.off y x)) o) (gr.laminar.pair g h)

  -- No group that comes so far is larger.
  largest : (hs : List ℕ) → ((G : ℕ) → Memᴰ G hs → Memᴰ G gs) → {S i G : ℕ} → i ∈ S → (2 ^ i ≡ S → ⊥)
      → Memᴰ G hs → G ⊆ S → (G ≡ S → ⊥) → i ∈ G → G ⊆ part hs S i
  unfolding part
  largest [] sub x n l s m y = absurd (Memᴰ.not-nil l)
  largest (H ∷ hs) sub {S} {i} {G} x n l s m y =
      go (grows S H (part hs S i)) (λ k. largest hs (λ X z. sub X (Memᴰ.tail z)) x n k s m y) (Memᴰ.cases_cons l)
    where
      go : {Q : ℕ} → Grows S H (part hs S i) Q → (Memᴰ G hs → G ⊆ part hs S i) → (G ≡ H) ⊎ Memᴰ G hs → G ⊆ Q
      go (takes a b c) ih (inl e) = rw e (⊆-refl H)
      go (takes a b c) ih (inr k) = ⊆-trans (ih k) a
      go (keeps c) ih (inr k) = ih k
      go (keeps c) ih (inl e) =
          let p = piece hs x n in
          let k = ⊎_elim inl (λ z. inr (sub _ (Memᴰ.tail z))) p.kind in
          ⊎_elim (λ u. u) (λ u. absurd (c (rw e at u) (rw e at s) (λ o. m (e ∙ o)))) (nested k (sub G l) p.member y)

  -- Each taxon of a group has a part there.
  pub part_is : {S i : ℕ} → Memᴰ S gs → i ∈ S → Part gs S i (part gs S i)
  part_is {S} {i} g x = let p = piece gs x single in record {
    member = p.member;
    inside = p.inside;
    proper = p.proper;
    kind = p.kind;
    largest = λ h s m y. largest gs (λ G l. l) x single h s m y;
  }
    where
      single : 2 ^ i ≡ S → ⊥
      single e = omega (arith, gr.two g, alone i (sym e) (gr.fits g))

  -- A part is smaller than the group.
  pub part_< : {S i P : ℕ} → Memᴰ S gs → Part gs S i P → count 64 P < count 64 S
  part_< g p = proper_< (gr.fits g) p.inside p.proper

  -- A group, or a taxon alone.
  abbrev Vertex : ℕ → Type 0
  Vertex P = Memᴰ P gs ⊎ ((i : ℕ) × (P ≡ 2 ^ i))

  part_vertex : {S i P : ℕ} → Part gs S i P → Vertex P
  part_vertex {i = i} p = ⊎_elim (λ e. inr (i, e)) inl p.kind

  module _ (name : ℕ → Bytes) where
    abbrev tree : ℕ → Tree
    tree = drawn name gs

    module _ {S : ℕ} (g : Memᴰ S gs) (ih : (P : ℕ) → Vertex P → count 64 P < count 64 S → P < 2 ^ 64 → Shows name gs P (tree P)) where
      shown : {i P : ℕ} → Part gs S i P → Shows name gs P (tree P)
      shown p = ih _ (part_vertex p) (part_< g p) (omega (arith, gr.fits g, ⊆-≤ p.inside))

      -- The parts so far are E, and R is left.
      left_in : (E : ℕ) {R : ℕ} → R ≡ S ∖ E → R ⊆ S
      left_in E e = rw e (∖-⊆ S E)

      less : (E Q : ℕ) {R : ℕ} → R ≡ S ∖ E → R ∖ Q ≡ S ∖ (E ∪ Q)
      less E Q e = rw e (ext
          (record { sub = λ x. let (a, q) = (in∖ (S ∖ E) Q).0 x in let (s, n) = (in∖ S E).0 a in (in∖ S (E ∪ Q)).1 (s, λ y. ⊎_elim n q ((in∪ E Q).0 y)) })
          (record {
            sub = λ x. let (s, n) = (in∖ S (E ∪ Q)).0 x in (in∖ (S ∖ E) Q).1 ((in∖ S E).1 (s, λ y. n ((in∪ E Q).1 (inl y))), λ y. n ((in∪ E Q).1 (inr y)));
          }))

      -- A row that is not all of S, the last part, and nothing after it.
      row_ends : (f : ℕ) {D P i R : ℕ} {ts : Trees} → Row name gs S D ts → Lowest (S ∖ D) i → Part gs S i P → R ≡ S ∖ (D ∪ P) → R ≡ 0
          → Shows name gs S (bracket ts (tree P) (map tree (parts gs S f R)))
      unfolding bracket
      row_ends f r o p e z = rw (z, none_left gs S f) (group g r o p (shown p) (nothing_more (∪-⊆ (row_in gr.laminar r) p.inside) (sym e ∙ z)))

      -- The next part of what is left.
      next_lowest : (E : ℕ) {R : ℕ} → R ≡ S ∖ E → 0 < R → Lowest (S ∖ E) (low 64 R)
      next_lowest E e x = rw (← e) (lowest (omega (arith, gr.fits g, ⊆-≤ (left_in E e))) x)

      next_part : (E : ℕ) {R : ℕ} → R ≡ S ∖ E → 0 < R → Part gs S (low 64 R) (part gs S (low 64 R))
      next_part E e x = part_is g ((∖-⊆ S E).sub (next_lowest E e x).member)

      -- A row, one part more, and the parts after it.
      row_shows : (f : ℕ) {D P i R : ℕ} {ts : Trees} → Row name gs S D ts → Lowest (S ∖ D) i → Part gs S i P → R ≡ S ∖ (D ∪ P) → count 64 R ≤ f
          → Shows name gs S (bracket ts (tree P) (map tree (parts gs S f R)))
      unfolding bracket
      row_shows zero {D} {P} {R = R} r o p e l = row_ends 0 r o p e (count_zero 64 (omega (arith, gr.fits g, ⊆-≤ (left_in (D ∪ P) e))) (omega arith))
      row_shows (suc f) {D} {P} {i} {R} {ts} r o p e l =
          go (ℕ_discrete R 0) (λ x.
          row_shows f (next r o p (shown p) refl) (next_lowest (D ∪ P) e x) (next_part (D ∪ P) e x) (less (D ∪ P) Q e)
          (omega (arith, left_< gs (gr.fits g) (gr.two g) (left_in (D ∪ P) e) x)))
        where
          Q : ℕ
          Q = part gs S (low 64 R)

          go : Dec (R ≡ 0) → (0 < R → Shows name gs S (bracket (then ts (tree P)) (tree Q) (map tree (parts gs S f (R ∖ Q)))))
              → Shows name gs S (bracket ts (tree P) (map tree (parts gs S (suc f) R)))
          go (yes z) ih = row_ends (suc f) r o p e z
          go (no n) ih = rw (some_left gs S f {R = R} (omega arith)) (ih (omega arith))

      -- The first part is not all of S.
      group_shows : Shows name gs S (tree S)
      unfolding joined
      group_shows =
          let fits = gr.fits g in
          let two = gr.two g in
          let some = count_pos 64 {x = S} (omega arith) in
          let P = part gs S (low 64 S) in
          let p = part_is g (low_in 64 some fits) in
          let more = some_more p.inside p.proper in
          let Q = part gs S (low 64 (S ∖ P)) in
          rw (drawn_group name gs S fits two, parts_next gs fits two (⊆-refl S) some, parts_next gs fits two (∖-⊆ S P) more)
          (row_shows 64 (first (lowest fits some) p (shown p)) (next_lowest P refl more) (next_part P refl more) (less P Q refl) (count_le 64 ((S ∖ P) ∖ Q)))

    single : (S : ℕ) (i : ℕ) → S ≡ 2 ^ i → S < 2 ^ 64 → Shows name gs S (tree S)
    single S i e s =
        let only = low_is 64 {i = i} s (rw e (in_pow i)) (λ j y. omega (arith, pow_in i (rw e at y))) in
        rw (drawn_taxon name gs S (omega (arith, alone i e s))) (taxon i e (ap name only))

    all_show : (f S : ℕ) → Vertex S → S < 2 ^ 64 → count 64 S ≤ f → Shows name gs S (tree S)
    all_show zero S v s l = ⊎_elim (λ g. absurd (omega (arith, gr.two g))) (λ (i, e). single S i e s) v
    all_show (suc f) S v s l = ⊎_elim (λ g. group_shows g (λ P w k t. all_show f P w t (omega arith))) (λ (i, e). single S i e s) v

    -- Each group, and each taxon alone, as drawn.
    pub drawn_shows : {S : ℕ} → Memᴰ S gs ⊎ ((i : ℕ) × (S ≡ 2 ^ i)) → S < 2 ^ 64 → Shows name gs S (drawn name gs S)
    drawn_shows {S} v s = all_show (count 64 S) S v s (omega arith)
