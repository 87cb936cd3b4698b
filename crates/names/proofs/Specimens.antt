-- Worked name lists and what the check of each returns: number, place and count.
use mathlib.Core.Path.{◌≡◌, refl}
use mathlib.Core.List.{List, [], ◌∷◌, ◌++◌, map}
use Prim.Native.Nat.{ℕ}
use Rattle.record.specs.Bytes.{equal}
use Rattle.grammar.specs.Limits.{is_in}
use Rattle.record.specs.Bytes.{number_at}
use Rattle.record.specs.Records.{step, allowed, varying_step, finds, nothing_after}
use Rattle.names.specs.Names.{name_at}
use Rattle.names.specs.Check.{spelt, name_judged, name_passed, end_passed, listed_in, listed, checked, Returned, check_numbers}

abbrev says : ℕ → ℕ → ℕ → Returned
says number place count = record { number = number; place = place; count = count }

-- A name of one byte, and the end.
abbrev name : ℕ → List ℕ
name b = 1 ∷ 0 ∷ 33 ∷ 0 ∷ b ∷ []

abbrev end : List ℕ
end = 0 ∷ 0 ∷ 34 ∷ 0 ∷ []

-- No name, A, and A, B and C; names differ by case.
abbrev taken : List (List ℕ)
taken = end ∷ (name 65 ++ end) ∷ (name 65 ++ name 66 ++ name 67 ++ end) ∷ (name 65 ++ name 97 ++ end) ∷ []

-- 1: no byte, no end, three bytes, a payload that is cut short.
abbrev short : List (List ℕ)
short = [] ∷ name 65 ∷ (name 65 ++ 0 ∷ 0 ∷ 34 ∷ []) ∷ (2 ∷ 0 ∷ 33 ∷ 0 ∷ 65 ∷ []) ∷ []

-- 2: a name of no byte, of 33 bytes, an end with a payload, another kind.
abbrev other : List (List ℕ)
other = (0 ∷ 0 ∷ 33 ∷ 0 ∷ []) ∷ (33 ∷ 0 ∷ 33 ∷ 0 ∷ []) ∷ (1 ∷ 0 ∷ 34 ∷ 0 ∷ 0 ∷ []) ∷ (name 65 ++ 0 ∷ 0 ∷ 35 ∷ 0 ∷ []) ∷ []

-- 16 and 18 at the record, and what is first in the file is told; 8 at the first byte after the end.
abbrev wrong : List (List ℕ)
wrong = (name 65 ++ name 32 ++ end) ∷ (name 65 ++ name 66 ++ name 65 ++ end) ∷ (name 65 ++ name 65 ++ name 32) ∷ (name 65 ++ end ++ 0 ∷ []) ∷ []

specimens : map check_numbers (taken ++ short ++ other ++ wrong) ≡
    says 0 0 0 ∷ says 0 0 1 ∷ says 0 0 3 ∷ says 0 0 2
    ∷ says 1 0 0 ∷ says 1 5 0 ∷ says 1 5 0 ∷ says 1 0 0
    ∷ says 2 0 0 ∷ says 2 0 0 ∷ says 2 0 0 ∷ says 2 5 0
    ∷ says 16 5 0 ∷ says 18 10 0 ∷ says 18 5 0 ∷ says 8 9 0
    ∷ []
unfolding number_at step allowed varying_step finds nothing_after equal is_in name_at spelt name_judged name_passed end_passed listed_in listed checked
specimens = refl
