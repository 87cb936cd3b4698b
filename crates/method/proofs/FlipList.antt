-- The flip list: it has the columns with a flip, rising; its flips, made on the matrix, give the columns after; and it weighs what they do.
use mathlib.Core.Path.{◌≡◌, refl, sym, ap, ◌∙◌, subst}
use mathlib.Core.Bool.{Bool, true, false, ◌&&◌, cond}
use mathlib.Core.Logic.{◌⊎◌, inl, inr, ⊎_elim}
use mathlib.Core.List.Memᴰ
use mathlib.Core.List.{List, [], ◌∷◌, ◌++◌, Memᴰ}
use Prim.Native.Nat.{ℕ, zero, suc, ◌+◌, ◌*◌, ◌≤◌, ◌<◌}
use native.Mathlib.Nat.{mul-zero, eq-or-lt_of_le, le_of_suc-le-suc}
use native.Mathlib.Omega.{arith}
use lib.Dec.{eqb}
use borrow.Author.Tests.{eqb-true, eqb-false, eq-eqb, ne_eqb}
use Rattle.taxa.specs.Sum.{sum}
use Rattle.taxa.specs.Sets.{◌∈◌, ◌∉◌, ◌∩◌, mass}
use Rattle.taxa.proofs.Members.{none as nothing, in∩, empty, ∩-⊆ʳ}
use Rattle.taxa.proofs.Masses.{mass_none}
use Rattle.method.specs.Split.{Column, Same, raise, lower}
use Rattle.method.specs.Tree.{Flips, made, flips_of, flip_list, weighed_flips, Line, end, and}
use Rattle.method.proofs.Flips.{Proper, flips, weighed}
use Rattle.method.proofs.Entries.{known, raise_same, lower_same, same_one, same_zero, same_trans, same_refl}
use Rattle.method.proofs.Shape.{line_++}
use Rattle.method.proofs.Choices.{listed_same}

-- One column with its flips made.
abbrev flip_by : Flips → Column → Column
flip_by f c = lower f.lowered (raise f.raised c)

-- It flips something.
abbrev pub Some : Flips → Type 0
Some f = (0 < f.raised) ⊎ (0 < f.lowered)

-- The entry of one column: in the list if it flips something.
abbrev none? : Flips → Bool
none? f = eqb f.raised 0 && eqb f.lowered 0

abbrev entry : Flips → List Flips
entry f = cond (none? f) [] (f ∷ [])

by_none : (f : Flips) (Q : List Flips → Type 0) → (f.raised ≡ 0 → f.lowered ≡ 0 → Q []) → (Some f → Q (f ∷ [])) → Q (entry f)
by_none f Q neither some = go (eqb f.raised 0) (eqb f.lowered 0) refl refl
  where
    above : (n : ℕ) → eqb n 0 ≡ false → 0 < n
    above zero e = absurd (eqb-false 0 0 e refl)
    above (suc n) e = omega arith

    go : (a b : Bool) → eqb f.raised 0 ≡ a → eqb f.lowered 0 ≡ b → Q (cond (a && b) [] (f ∷ []))
    go true true p q = neither (eqb-true f.raised 0 p) (eqb-true f.lowered 0 q)
    go true false p q = some (inr (above f.lowered q))
    go false b p q = some (inl (above f.raised p))

made_++ : (fs gs : List Flips) (cols : ℕ → Column) → made (fs ++ gs) cols ≡ made gs (made fs cols)
unfolding made
made_++ [] gs cols = refl
made_++ (f ∷ fs) gs cols = made_++ fs gs (λ c. cond (eqb c f.column) (flip_by f (cols c)) (cols c))

-- One entry made: off its column nothing changes, and there its flips are made, also where it is left out.
entry_off : (f : Flips) (cols : ℕ → Column) (c : ℕ) → eqb c f.column ≡ false → made (entry f) cols c ≡ cols c
unfolding made
entry_off f cols c e = by_none f (λ fs. made fs cols c ≡ cols c) (λ p q. refl) (λ s. ap (λ (b : Bool). cond b (flip_by f (cols c)) (cols c)) e)

entry_at : (f : Flips) (cols : ℕ → Column) (i : ℕ) → Same (made (entry f) cols f.column) (flip_by f (cols f.column)) i
unfolding made
entry_at f cols i = by_none f (λ fs. Same (made fs cols f.column) (flip_by f d) i) idle (λ s. subst (λ (b : Bool). Same (cond b (flip_by f d) d) (flip_by f d) i) (sym (eq-eqb f.column f.column refl)) (same_refl (flip_by f d) i))
  where
    d : Column
    d = cols f.column

    out : (x X : ℕ) → X ≡ 0 → i ∉ x ∩ X
    out x X e h = nothing (subst (λ (Y : ℕ). i ∈ Y) e ((∩-⊆ʳ x X).sub h))

    idle : f.raised ≡ 0 → f.lowered ≡ 0 → Same d (flip_by f d) i
    idle p q = same_trans (raise_same f.raised d (out d.zeros f.raised p)) (lower_same f.lowered (raise f.raised d) (out (raise f.raised d).ones f.lowered q))

module _ (old new : ℕ → Column) where
  abbrev of : ℕ → Flips
  of c = flips_of c (old c) (new c)

  -- What is in the list is a column's flips, and not none.
  pub flips_are : (m : ℕ) {f : Flips} → Memᴰ f (flip_list m old new) → (c : ℕ) × (c < m) × (f ≡ of c) × Some f
  unfolding flip_list
  flips_are zero l = absurd (Memᴰ.not-nil l)
  flips_are (suc m) {f} l =
      ⊎_elim (λ h. let (c, b, e, s) = flips_are m h in (c, omega arith, e, s)) (last f) (Memᴰ.append_cases (flip_list m old new) l)
    where
      last : (f : Flips) → Memᴰ f (entry (of m)) → (c : ℕ) × (c < suc m) × (f ≡ of c) × Some f
      last f = by_none (of m) (λ fs. Memᴰ f fs → (c : ℕ) × (c < suc m) × (f ≡ of c) × Some f) (λ p q l. absurd (Memᴰ.not-nil l))
          (λ s l. let e = Memᴰ.eq_of_singleton l in (m, omega arith, e, subst Some (sym e) s))

  -- A column's flips are in the list, if they are not none.
  pub flips_listed : (m : ℕ) {c : ℕ} → c < m → Some (of c) → Memᴰ (of c) (flip_list m old new)
  unfolding flip_list
  flips_listed zero b s = absurd (omega arith)
  flips_listed (suc m) {c} b s =
      ⊎_elim
      (λ e. Memᴰ.append_right (flip_list m old new) (subst (λ (a : ℕ). Some (of a) → Memᴰ (of a) (entry (of m))) (sym e) last s))
      (λ l. Memᴰ.append_left (entry (of m)) (flips_listed m l s))
      (eq-or-lt_of_le (le_of_suc-le-suc b))
    where
      last : Some (of m) → Memᴰ (of m) (entry (of m))
      last =
          by_none (of m) (λ fs. Some (of m) → Memᴰ (of m) fs) (λ p q s. absurd (⊎_elim (λ l. omega arith) (λ l. omega arith) s))
          (λ s t. Memᴰ.head refl)

  -- "Flips stand by rising column".
  pub flips_rise : (m : ℕ) → Line (λ (f g : Flips). f.column < g.column) (flip_list m old new)
  unfolding flip_list
  flips_rise zero = end
  flips_rise (suc m) =
      line_++ (flips_rise m) (by_none (of m) (Line (λ (f g : Flips). f.column < g.column)) (λ p q. end) (λ s. and (λ y l. absurd (Memᴰ.not-nil l)) end))
      (λ f g l h.
      let (c, b, e, s) = flips_are m l in
      let at : g.column ≡ m = by_none (of m) (λ fs. Memᴰ g fs → g.column ≡ m) (λ p q x. absurd (Memᴰ.not-nil x)) (λ s x. ap (λ (y : Flips). y.column) (Memᴰ.eq_of_singleton x)) h in
      omega (arith, ap (λ (y : Flips). y.column) e))

  -- Where no entry differs, it is empty.
  pub flips_none : (m : ℕ) → ((c : ℕ) → Proper (old c)) → ((c i : ℕ) → c < m → Same (old c) (new c) i) → flip_list m old new ≡ []
  unfolding flip_list
  flips_none zero p same = refl
  flips_none (suc m) p same =
      ap (λ (fs : List Flips). fs ++ entry (of m)) (flips_none m p (λ c i b. same c i (omega arith)))
      ∙ ap (λ (b : Bool). cond b [] (of m ∷ [])) (both (eq-eqb (of m).raised 0 no_raise) (eq-eqb (of m).lowered 0 no_lower))
    where
      both : {a b : Bool} → a ≡ true → b ≡ true → (a && b) ≡ true
      both {a} {b} e f = rw (e, f)

      no_raise : (of m).raised ≡ 0
      no_raise = empty (λ i h. let (z, o) = (in∩ (old m).zeros (new m).ones).0 h in (p m).clash (same_one (same m i (omega arith)) o) z)

      no_lower : (of m).lowered ≡ 0
      no_lower = empty (λ i h. let (o, z) = (in∩ (old m).ones (new m).zeros).0 h in (p m).clash o (same_zero (same m i (omega arith)) z))

  -- ---- the flips made

  -- The list, made on the one matrix, gives the other, where both know the same entries.
  made_off : (m c : ℕ) → m ≤ c → made (flip_list m old new) old c ≡ old c
  unfolding made flip_list
  made_off zero c l = refl
  made_off (suc m) c l =
      ap (λ (x : ℕ → Column). x c) (made_++ (flip_list m old new) (entry (of m)) old) ∙ entry_off (of m) (made (flip_list m old new) old) c (ne_eqb c m (λ e. omega arith))
      ∙ made_off m c (omega arith)

  pub flips_made : (m : ℕ) → ((c : ℕ) → Proper (old c)) → ((c : ℕ) → Proper (new c)) → ((c : ℕ) → known (new c) ≡ known (old c)) → (c i : ℕ) → c < m
      → Same (made (flip_list m old new) old c) (new c) i
  unfolding flip_list
  flips_made zero p q e c i b = absurd (omega arith)
  flips_made (suc m) p q e c i b =
      subst (λ (x : ℕ → Column). Same (x c) (new c) i) (sym (made_++ (flip_list m old new) (entry (of m)) old))
      (⊎_elim
      (λ h. subst (λ (a : ℕ). Same (made (entry (of m)) mid a) (new a) i) (sym h) last)
      (λ h. subst (λ (x : Column). Same x (new c) i) (sym (entry_off (of m) mid c (ne_eqb c m (λ a. omega arith)))) (flips_made m p q e c i h))
      (eq-or-lt_of_le (le_of_suc-le-suc b)))
    where
      mid : ℕ → Column
      mid = made (flip_list m old new) old

      last : Same (made (entry (of m)) mid m) (new m) i
      last =
          same_trans (entry_at (of m) mid i)
          (subst (λ (x : Column). Same (flip_by (of m) x) (new m) i) (sym (made_off m m (omega arith))) (listed_same (p m) (q m) (e m) i))

  -- The list weighs what the columns' flips do.
  module _ (k : ℕ) (μ : ℕ → ℕ) where
    weighed_++ : (fs gs : List Flips) → weighed_flips k μ old (fs ++ gs) ≡ weighed_flips k μ old fs + weighed_flips k μ old gs
    unfolding weighed_flips
    weighed_++ [] gs = omega arith
    weighed_++ (f ∷ fs) gs = omega (arith, weighed_++ fs gs)

    pub flips_weigh : (m : ℕ) → weighed_flips k μ old (flip_list m old new) ≡ weighed k μ m old new
    unfolding flip_list weighed_flips weighed flips sum
    flips_weigh zero = refl
    flips_weigh (suc m) = omega (arith, flips_weigh m, weighed_++ (flip_list m old new) (entry (of m)), one)
      where
        one : weighed_flips k μ old (entry (of m)) ≡ (old m).weight * (mass k μ (of m).raised + mass k μ (of m).lowered)
        one = by_none (of m) (λ fs. weighed_flips k μ old fs ≡ (old m).weight * (mass k μ (of m).raised + mass k μ (of m).lowered))
            (λ p q. let e : mass k μ (of m).raised + mass k μ (of m).lowered ≡ 0 = omega (arith, ap (mass k μ) p, ap (mass k μ) q, mass_none k μ) in sym (ap (λ (n : ℕ). (old m).weight * n) e ∙ mul-zero (old m).weight))
            (λ s. omega arith)
