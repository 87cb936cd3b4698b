-- The parts of a group, collected one by one, are the method's list (`all_collected`).
use mathlib.Core.Path.{◌≡◌, refl, sym, ap, ap₂, ◌∙◌, subst}
use mathlib.Core.List.{List, [], ◌∷◌, ◌++◌, append-nil}
use Prim.Native.Nat.{ℕ, zero, suc, ◌+◌, ◌-◌, ◌^◌, ◌≤◌, ◌<◌}
use native.Mathlib.Numerals.{add-one}
use native.Mathlib.Omega.{arith}
use lib.ListN.{length, take, drop, set, length-set, take-append-drop}
use lib.Seq.{length-take-le, take-suc-set, drop-set-lt, drop-drop, append_snoc}
use Rattle.taxa.specs.Sets.{◌∈◌, ◌⊆◌, ◌∖◌, Positive, unit, count, low}
use Rattle.taxa.proofs.Members.{⊆-refl, ⊆-trans, ⊆-≤, ∖-⊆, in∖, low_in, low_<}
use Rattle.taxa.proofs.Counts.{units, count_in, count_<, count_le}
use Rattle.method.specs.Split.{Column, part, parts_of, parts}
use Rattle.method.proofs.Parts.{part_is}
use Rattle.search.specs.Search.{cols_of}
use Rattle.split.specs.inner.Parts.{Listed}

-- ---- the method's list, with fuel f, of a set that is empty and of one that is not

module _ (k : ℕ) (μ : ℕ → ℕ) (m : ℕ) (cols : ℕ → Column) (S : ℕ) where
  no_parts : (f : ℕ) → parts_of k μ m cols S f 0 ≡ []
  unfolding parts_of
  no_parts zero = refl
  no_parts (suc f) = refl

  one_part : (f R : ℕ) → 0 < R → parts_of k μ m cols S (suc f) R ≡ part k μ m cols S (low k R) ∷ parts_of k μ m cols S f (R ∖ part k μ m cols S (low k R))
  unfolding parts_of
  one_part f zero p = absurd (omega arith)
  one_part f (suc r) p = refl

-- ---- the loop

module _ (os zs : List ℕ) (S : ℕ) (list₀ : List ℕ) where
  -- What is listed so far and the parts of what is left are all parts of S, whatever the weights and multiplicities; places past them are as they were.
  pub record Collecting (list : List ℕ) (left number : ℕ) : Type 0 where
    pub within : left ⊆ S
    pub few : number + count 64 left ≤ count 64 S
    pub long : length list ≡ length list₀
    pub rest : drop number list ≡ drop number list₀
    pub listed : (μ : ℕ → ℕ) → Positive μ → (ws : List ℕ) → parts 64 μ (length os) (cols_of ws os zs) S ≡ take number list ++ parts_of 64 μ (length os) (cols_of ws os zs) S (64 - number) left

  pub collect_none : Collecting list₀ S 0
  unfolding parts
  collect_none = record { within = ⊆-refl S; few = omega arith; long = refl; rest = refl; listed = λ μ pos ws. refl }

  module _ (fits : S < 2 ^ 64) {list : List ℕ} {left number : ℕ} (h : Collecting list left number) (room : count 64 S ≤ length list₀) where
    module _ (some : 0 < left) where
      left_fits : left < 2 ^ 64
      left_fits = omega (arith, ⊆-≤ h.within)

      pub has_room : number < length list
      has_room = omega (arith, h.few, h.long, count_in 64 (low_< 64 some left_fits) (low_in 64 some left_fits))

      pub lowest_in : low 64 left ∈ S
      lowest_in = h.within.sub (low_in 64 some left_fits)

      module _ {P : ℕ} (is : (μ : ℕ → ℕ) → Positive μ → (ws : List ℕ) → P ≡ part 64 μ (length os) (cols_of ws os zs) S (low 64 left)) where
        -- The lowest taxon goes with its part.
        pub fewer : count 64 (left ∖ P) < count 64 left
        fewer =
            let it = part_is 64 unit (length os) (cols_of [] os zs) S lowest_in in
            let gone : low 64 left ∈ P = subst (λ (X : ℕ). low 64 left ∈ X) (sym (is unit units [])) it.member in
            count_< 64 (∖-⊆ left P) (low_< 64 some left_fits) (low_in 64 some left_fits) (λ g. ((in∖ left P).0 g).1 gone)

        abbrev of : (ℕ → ℕ) → List ℕ → ℕ → ℕ → List ℕ
        of μ ws = parts_of 64 μ (length os) (cols_of ws os zs) S

        cut : (μ : ℕ → ℕ) → Positive μ → (ws : List ℕ) → of μ ws (64 - number) left ≡ P ∷ of μ ws (64 - (number + 1)) (left ∖ P)
        cut μ pos ws =
            let fuel : 64 - number ≡ suc (64 - (number + 1)) = omega (arith, h.few, fewer, count_le 64 S) in
            ap (λ (f : ℕ). of μ ws f left) fuel
            ∙ one_part 64 μ (length os) (cols_of ws os zs) S (64 - (number + 1)) left some
            ∙ ap (λ (Q : ℕ). Q ∷ of μ ws (64 - (number + 1)) (left ∖ Q)) (sym (is μ pos ws))

        put : take (number + 1) (set list number P) ≡ take number list ++ (P ∷ [])
        put = rw add-one (take-suc-set list number P has_room)

        pub collect_one : Collecting (set list number P) (left ∖ P) (number + 1)
        collect_one = record {
          within = ⊆-trans (∖-⊆ left P) h.within;
          few = omega (arith, fewer, h.few);
          long = length-set list number P ∙ h.long;
          rest = drop-set-lt (number + 1) list number P (omega arith) ∙ sym (drop-drop 1 number list) ∙ ap (drop 1) h.rest ∙ drop-drop 1 number list₀;
          listed = λ μ pos ws.
              let others = of μ ws (64 - (number + 1)) (left ∖ P) in
              h.listed μ pos ws ∙ ap (◌++◌ (take number list)) (cut μ pos ws) ∙ sym (append_snoc (take number list) P others) ∙ ap (λ (l : List ℕ). l ++ others) (sym put);
        }

    pub all_collected : left ≡ 0 → Listed os zs S list₀ list number
    all_collected none = record {
      many = λ μ pos ws. sym (ap length (all μ pos ws) ∙ length-take-le number list (omega (arith, h.few, h.long)));
      list = λ μ pos ws. sym (take-append-drop number list) ∙ ap₂ ◌++◌ (sym (all μ pos ws)) h.rest;
    }
      where
        all : (μ : ℕ → ℕ) → Positive μ → (ws : List ℕ) → parts 64 μ (length os) (cols_of ws os zs) S ≡ take number list
        all μ pos ws =
            let nothing = ap (parts_of 64 μ (length os) (cols_of ws os zs) S (64 - number)) none ∙ no_parts 64 μ (length os) (cols_of ws os zs) S (64 - number) in
            h.listed μ pos ws ∙ ap (◌++◌ (take number list)) nothing ∙ append-nil (take number list)
