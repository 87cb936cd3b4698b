-- How a part grows: what one column adds to the taxa met, and what a sweep over columns adds. And how parts are listed.
use Rattle.std.specs.Prelude.{◌||◌, cond, ◌≡◌, List, ◌++◌, ℕ, zero, suc, eqb, length, drop, get_or}
use Rattle.taxa.specs.Sets.{◌∩◌, ◌∪◌, Positive}
use Rattle.method.specs.Split.{parts}
use Rattle.search.specs.Search.{cols_of}

-- A column with no 0 in S takes no part; one with no 1 at a taxon met adds nothing; any other joins its ones in S to the taxa met.
unfoldable pub grown : ℕ → ℕ → ℕ → ℕ → ℕ
grown S ones zeros met = cond (eqb (zeros ∩ S) 0 || eqb (ones ∩ met) 0) met (met ∪ (ones ∩ S))

-- The first m columns, one after the other.
unfoldable pub swept : List ℕ → List ℕ → ℕ → ℕ → ℕ → ℕ
swept os zs S zero met = met
swept os zs S (suc c) met = grown S (get_or os c 0) (get_or zs c 0) (swept os zs S c met)

-- A lent list, before and after: its first places hold the parts of S, which are `number`, and the others are as they were. Weights and multiplicities make no difference.
pub record Listed (os zs : List ℕ) (S : ℕ) (old new : List ℕ) (number : ℕ) : Type 0 where
  pub many : (μ : ℕ → ℕ) → Positive μ → (ws : List ℕ) → number ≡ length (parts 64 μ (length os) (cols_of ws os zs) S)
  pub list : (μ : ℕ → ℕ) → Positive μ → (ws : List ℕ) → new ≡ parts 64 μ (length os) (cols_of ws os zs) S ++ drop number old
