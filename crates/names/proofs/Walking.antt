-- Records of names met one after the other: the first of some and the others (`names_one`, `place_one`), one more after them (`names_more`, `place_more`);
-- a name as a part of the file (`name_part`).
use mathlib.Core.Path.{◌≡◌, refl, ap}
use mathlib.Core.Bool.{true, false}
use mathlib.Core.List.{List, [], ◌∷◌, ◌++◌}
use Prim.Native.Nat.{ℕ, zero, suc, ◌+◌, ◌-◌, ◌*◌, ◌≤◌, ◌<◌}
use native.Mathlib.Nat.{suc-add}
use native.Mathlib.Numerals.{sub-one}
use native.Mathlib.Omega.{arith}
use lib.ListN.{length, take, drop}
use Rattle.grammar.specs.Columns.{Bytes}
use Rattle.record.specs.Bytes.{equal}
use Rattle.grammar.specs.Limits.{is_in}
use Rattle.record.specs.Bytes.{number_at}
use Rattle.names.specs.Names.{name_at}
use Rattle.names.specs.inner.Places.{after, names_from, place_from}

module _ (file : List ℕ) where
  -- The name is what stands between the record's opening and its end.
  pub name_part : (at end : ℕ) → end ≡ after file at → take (end - (at + 4)) (drop (at + 4) file) ≡ name_at file at
  unfolding name_at
  name_part at end e = let l : end - (at + 4) ≡ number_at 2 file at = omega arith in rw l

  names_one : (k at : ℕ) → 0 < k → names_from file k at ≡ name_at file at ∷ names_from file (k - 1) (after file at)
  unfolding names_from
  names_one zero at h = absurd (omega arith)
  names_one (suc k) at h = rw (sub-one (suc k))

  -- Whether a name is among them: it is the first, or among the others.
  module _ (n : Bytes) (k at : ℕ) (h : 0 < k) where
    pub in_first : equal n (name_at file at) ≡ true → is_in n (names_from file k at) ≡ true
    unfolding is_in
    in_first e = rw (names_one k at h, e)

    pub in_others : equal n (name_at file at) ≡ false → is_in n (names_from file k at) ≡ is_in n (names_from file (k - 1) (after file at))
    unfolding is_in
    in_others e = rw (names_one k at h, e)

  pub in_none : (n : Bytes) (k at : ℕ) → k ≤ 0 → is_in n (names_from file k at) ≡ false
  unfolding is_in names_from
  in_none n zero at h = refl
  in_none n (suc k) at h = absurd (omega arith)

  pub place_one : (k at : ℕ) → 0 < k → place_from file k at ≡ place_from file (k - 1) (after file at)
  unfolding place_from
  place_one zero at h = absurd (omega arith)
  place_one (suc k) at h = rw (sub-one (suc k))

  pub place_none : (k at : ℕ) → k ≤ 0 → place_from file k at ≡ at
  unfolding place_from
  place_none zero at h = refl
  place_none (suc k) at h = absurd (omega arith)

  pub names_more : (k at : ℕ) → names_from file (k + 1) at ≡ names_from file k at ++ name_at file (place_from file k at) ∷ []
  unfolding names_from place_from
  names_more zero at = refl
  names_more (suc k) at = rw (suc-add k 1) (ap (◌∷◌ (name_at file at)) (names_more k (after file at)))

  pub place_more : (k at : ℕ) → place_from file (k + 1) at ≡ after file (place_from file k at)
  unfolding place_from
  place_more zero at = refl
  place_more (suc k) at = rw (suc-add k 1) (place_more k (after file at))

  -- Each takes four bytes or more.
  pub place_grows : (k at : ℕ) → at + 4 * k ≤ place_from file k at
  unfolding place_from
  place_grows zero at = omega arith
  place_grows (suc k) at = omega (arith, place_grows k (after file at))

  pub length_names : (k at : ℕ) → length (names_from file k at) ≡ k
  unfolding names_from
  length_names zero at = refl
  length_names (suc k) at = ap suc (length_names k (after file at))
