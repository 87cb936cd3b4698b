-- A record with no fault keeps its rules: what a head, a group and a flips record that were passed say (`HeadKept`, `GroupKept`, `EntryKept`).
use mathlib.Core.Path.{◌≡◌, refl}
use mathlib.Core.Bool.{Bool, true, false, ◌||◌, ◌&&◌, not, cond, and-eq-true_iff}
use mathlib.Core.List.{List}
use mathlib.Core.Logic.{◌≢◌}
use Prim.Native.Nat.{ℕ, ◌≤◌, ◌<◌}
use native.Mathlib.Omega.{arith}
use lib.Dec.{ltb, eqb}
use lib.ListN.{get_or}
use borrow.Author.Tests.{ltb-true, ltb-false, eqb-true, eqb-false, not-true}
use Rattle.std.specs.Prelude.{Option, Some, None}
use Rattle.taxa.specs.Sets.{◌∩◌, ◌∪◌, ◌⊆◌, within, count, all}
use Rattle.taxa.proofs.Members.{within_⊆}
use Rattle.record.specs.declared.refusal.Reason.{Reason}
use Rattle.record.specs.declared.refusal.Reason.TheVariants as reason
use Rattle.record.proofs.Passing.{neither}
use Rattle.answer.specs.Rules.{counted, head_fault, placed, compatible_all, group_fault, kept, entry_fault, sum_of, total_fault}

faultless : {why : Reason} → Some why ≡ None → ⊥
faultless e = let z : ◌≡◌ {A = ℕ} 0 1 = cc in omega arith

-- A test that would have given a reason, and one that had to hold.
pub unless : (b : Bool) (why : Reason) (x : Option Reason) → cond b (Some why) x ≡ None → (b ≡ false) × (x ≡ None)
unless true why x e = absurd (faultless e)
unless false why x e = (refl, e)

where_holds : (b : Bool) (why : Reason) (x : Option Reason) → cond b x (Some why) ≡ None → (b ≡ true) × (x ≡ None)
where_holds true why x e = (refl, e)
where_holds false why x e = absurd (faultless e)

both : (a b : Bool) → (a && b) ≡ true → (a ≡ true) × (b ≡ true)
both a b = (and-eq-true_iff a b).0

-- ---- the head

pub record HeadKept (n m groups flips listed : ℕ) : Type 0 where
  pub some : 0 < n
  pub few : n ≤ 64
  pub columns : m ≤ 256
  pub fewer : groups < n
  pub some_groups : 1 < n → 0 < groups
  pub flips_fit : flips ≤ m
  pub all_listed : flips ≤ listed

-- A count of groups that passes: fewer than n, and some where n is 2 or more.
count_keeps : (n groups : ℕ) → 0 < n → counted n groups ≡ true → (groups < n) × (1 < n → 0 < groups)
unfolding counted
count_keeps n groups p = go (eqb n 1) refl
  where
    go : (one : Bool) → eqb n 1 ≡ one → cond one (eqb groups 0) (ltb 0 groups && ltb groups n) ≡ true → (groups < n) × (1 < n → 0 < groups)
    go true one e = (omega (arith, eqb-true groups 0 e), λ l. absurd (omega (arith, eqb-true n 1 one)))
    go false one e = let (some, few) = both (ltb 0 groups) (ltb groups n) e in (ltb-true groups n few, λ l. ltb-true 0 groups some)

pub head_keeps : (n m groups flips listed : ℕ) → head_fault n m groups flips listed ≡ None → HeadKept n m groups flips listed
unfolding head_fault
head_keeps n m groups flips listed e =
    let (taxa, e₁) = unless (eqb n 0 || ltb 64 n) reason.TaxonCount _ e in
    let (columns, e₂) = unless (ltb 256 m) reason.ColumnCount _ e₁ in
    let (counts, e₃) = where_holds (counted n groups) reason.Groups _ e₂ in
    let (flips_in_lem, e₄) = unless (ltb m flips || ltb listed flips) reason.Flips _ e₃ in
    let (none, many) = neither (eqb n 0) (ltb 64 n) taxa in
    let (above, missing) = neither (ltb m flips) (ltb listed flips) flips_in_lem in
    let some : 0 < n = omega (arith, eqb-false n 0 none) in
    let (fewer, some_groups) = count_keeps n groups some counts in
    record {
      some = some;
      few = ltb-false 64 n many;
      columns = ltb-false 256 m columns;
      fewer = fewer;
      some_groups = some_groups;
      flips_fit = ltb-false m flips above;
      all_listed = ltb-false listed flips missing;
    }

-- ---- a group

pub record GroupKept (n : ℕ) (taxa : List ℕ) (i : ℕ) : Type 0 where
  pub known : get_or taxa i 0 ⊆ all n
  pub large : 1 < count 64 (get_or taxa i 0)
  pub well_placed : placed n taxa i ≡ true
  pub fits_all : compatible_all taxa (get_or taxa i 0) i ≡ true

pub group_keeps : (n : ℕ) (taxa : List ℕ) (i : ℕ) → group_fault n taxa i ≡ None → GroupKept n taxa i
unfolding group_fault
group_keeps n taxa i e =
    let x = get_or taxa i 0 in
    let (known, e₁) = where_holds (within x (all n)) reason.UnknownTaxon _ e in
    let (rules, e₂) = where_holds (ltb 1 (count 64 x) && (placed n taxa i && compatible_all taxa x i)) reason.Groups None e₁ in
    let (large, rest) = both (ltb 1 (count 64 x)) (placed n taxa i && compatible_all taxa x i) rules in
    let (well_placed, fits_all) = both (placed n taxa i) (compatible_all taxa x i) rest in
    record { known = (within_⊆ _ _).0 known; large = ltb-true _ _ large; well_placed = well_placed; fits_all = fits_all }

-- ---- a flips record

pub record EntryKept (n m floor column raised lowered : ℕ) : Type 0 where
  pub raised_known : raised ⊆ all n
  pub lowered_known : lowered ⊆ all n
  pub column_fits : column < m
  pub rises : floor ≤ column
  pub some_flip : raised ∪ lowered ≢ 0
  pub apart : raised ∩ lowered ≡ 0

pub entry_keeps : (n m floor column raised lowered : ℕ) → entry_fault n m floor column raised lowered ≡ None → EntryKept n m floor column raised lowered
unfolding entry_fault kept
entry_keeps n m floor column raised lowered e =
    let (known, e₁) = where_holds (within raised (all n) && within lowered (all n)) reason.UnknownTaxon _ e in
    let (rules, e₂) = where_holds ((ltb column m && not (ltb column floor)) && (not (eqb (raised ∪ lowered) 0) && eqb (raised ∩ lowered) 0)) reason.Flips None e₁ in
    let (r, l) = both (within raised (all n)) (within lowered (all n)) known in
    let (stands, sets) = both (ltb column m && not (ltb column floor)) (not (eqb (raised ∪ lowered) 0) && eqb (raised ∩ lowered) 0) rules in
    let (below, rises) = both (ltb column m) (not (ltb column floor)) stands in
    let (some, apart) = both (not (eqb (raised ∪ lowered) 0)) (eqb (raised ∩ lowered) 0) sets in
    record {
      raised_known = (within_⊆ _ _).0 r;
      lowered_known = (within_⊆ _ _).0 l;
      column_fits = ltb-true _ _ below;
      rises = ltb-false _ _ (not-true _ rises);
      some_flip = eqb-false _ _ (not-true _ some);
      apart = eqb-true _ _ apart;
    }

-- ---- the end

pub total_keeps : (total : ℕ) (costs : List ℕ) (groups : ℕ) → total_fault total costs groups ≡ None → total ≡ sum_of costs groups
total_keeps total costs groups e = eqb-true _ _ (where_holds (eqb total (sum_of costs groups)) reason.Total None e).0
