-- What an accepted answer and an accepted name list are: groups that any two are nested or disjoint, under all taxa (`groups`, `root`), and names for taxa
-- (`names_for`).
use mathlib.Core.Path.{◌≡◌, refl, sym, ap}
use mathlib.Core.Logic.{◌⊎◌, inl, inr}
use mathlib.Core.List.Memᴰ
use mathlib.Core.List.{List, [], ◌∷◌, Memᴰ}
use Prim.Native.Nat.{ℕ, zero, suc, ◌^◌, ◌<◌}
use native.Mathlib.Decide.{dec_lt}
use native.Mathlib.Omega.{arith}
use lib.ListN.{length, get_or}
use Rattle.std.specs.Prelude.{Ok}
use Rattle.taxa.specs.Sets.{◌⊆◌, all}
use Rattle.taxa.proofs.Members.{⊆-≤, below, all_<, all_fits}
use Rattle.record.proofs.Lists.{get_or_in, in_get_or}
use Rattle.answer.specs.Content.{Content}
use Rattle.answer.specs.Lawful.{Lawful}
use Rattle.grammar.specs.Columns.{Bytes}
use Rattle.grammar.specs.Limits.{Distinct, end, next}
use Rattle.grammar.proofs.Numbering.{apart}
use Rattle.clades.specs.Shows.{Groups}
use Rattle.clades.specs.Clades.{NamesFor}
use Rattle.names.specs.Check.{names_in, checked}
use Rattle.names.proofs.Taken.{taken_legal, taken_count}
use Rattle.spelling.specs.Write.{name_in}

-- ---- the answer

module _ {c : Content} (lawful : Lawful c) where
  place : {G : ℕ} → Memᴰ G c.taxa → (i : ℕ) × (i < c.groups) × (G ≡ get_or c.taxa i 0)
  place l = let (i, b, e) = in_get_or 0 l in (i, omega (arith, lawful.sized.taxa_sized), e)

  pub lawful_groups : Groups c.taxa
  lawful_groups = let g = lawful.groups_lawful in record {
    laminar = record { pair = λ l r. let (i, b, e) = place l in let (j, d, h) = place r in rw (e, h) (g.nested_or_disjoint i j b d) };
    fits = λ l. let (i, b, e) = place l in rw e (omega (arith, ⊆-≤ (g.known i b), all_fits 64 lawful.head_lawful.few_taxa));
    two = λ l. let (i, b, e) = place l in rw e (g.two_or_more i b);
  }

  pub lawful_inside : {G : ℕ} → Memᴰ G c.taxa → G ⊆ all c.n
  lawful_inside l = let (i, b, e) = place l in rw e (lawful.groups_lawful.known i b)

  -- "Where n is 2 or more the first is all n taxa"; where it is 1, that is a taxon alone.
  pub lawful_root : Memᴰ (all c.n) c.taxa ⊎ ((i : ℕ) × (all c.n ≡ 2 ^ i))
  lawful_root = go (dec_lt 1 c.n)
    where
      go : Dec (1 < c.n) → Memᴰ (all c.n) c.taxa ⊎ ((i : ℕ) × (all c.n ≡ 2 ^ i))
      go (yes two) =
          let some = lawful.head_lawful.some_groups two in
          inl (rw (← lawful.groups_lawful.first_is_all two) (get_or_in 0 c.taxa 0 (omega (arith, lawful.sized.taxa_sized))))
      go (no n) = let e : c.n ≡ 1 = omega (arith, lawful.head_lawful.some_taxa) in inr (0, ap all e)

-- ---- the list

differ_at : {ns ms : List Bytes} (i j : ℕ) → Distinct ns ms → i < length ms → j < length ms → get_or ms i [] ≡ get_or ms j [] → i ≡ j
differ_at i j end l k e = absurd (omega arith)
differ_at i j (next {m} {ns} {ms} x d) l k e = go i j l k e (λ i j. differ_at i j d)
  where
    go : (i j : ℕ) → i < length (m ∷ ms) → j < length (m ∷ ms) → get_or (m ∷ ms) i [] ≡ get_or (m ∷ ms) j []
        → ((i j : ℕ) → i < length ms → j < length ms → get_or ms i [] ≡ get_or ms j [] → i ≡ j) → i ≡ j
    go zero zero l k e ih = refl
    go zero (suc j) l k e ih = absurd (apart d (Memᴰ.append_right ns (Memᴰ.head (sym e))) (get_or_in [] ms j (omega arith)))
    go (suc i) zero l k e ih = absurd (apart d (Memᴰ.append_right ns (Memᴰ.head e)) (get_or_in [] ms i (omega arith)))
    go (suc i) (suc j) l k e ih = ap suc (ih i j (omega arith) (omega arith) e)

pub names_for : (list : List ℕ) {n : ℕ} → Ok n ≡ checked list → NamesFor (name_in list) (all n)
names_for list {n} taken =
    let (e, long) = taken_count list taken in
    let legal = taken_legal list e in
    record {
      is_name = λ {i} x. (legal.names _ (get_or_in [] (names_in list) i (omega (arith, below n (all_< n) x)))).spelt;
      short = λ {i} x. (legal.names _ (get_or_in [] (names_in list) i (omega (arith, below n (all_< n) x)))).short;
      differ = record { differ = λ {i} {j} x y e. differ_at i j legal.distinct (omega (arith, below n (all_< n) x)) (omega (arith, below n (all_< n) y)) e };
    }
