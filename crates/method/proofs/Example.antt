-- The theory is not empty: in a network of two taxa and one column one unit runs from taxon 0 to taxon 1, and parting them costs one.
use Prim.Native.Nat.{ℕ, zero, suc}
use mathlib.Core.Path.{◌≡◌, refl}
use mathlib.Core.Bool.{Bool, true, false}
use native.Mathlib.Omega.{arith}
use Rattle.taxa.specs.Sum.{sum}
use Rattle.method.specs.Flow.{Flow, cut_cost}

abbrev ones : ℕ → ℕ → ℕ
ones c i = 1

abbrev first : ℕ → ℕ → ℕ
first c zero = 1
first c (suc i) = 0

abbrev other : ℕ → ℕ → ℕ
other c zero = 0
other c (suc i) = 1

abbrev alone : ℕ → Bool
alone zero = true
alone (suc i) = false

one_unit : Flow 2 1 ones (λ c. 1) first other 0 1 1
unfolding sum
one_unit = record {
  column = λ c b. record {
    out_fits = elim [ zero ↦ λ b. omega arith | suc i ↦ λ b. omega arith ];
    inn_fits = elim [ zero ↦ λ b. omega arith | suc i ↦ λ b. omega arith ];
    one_way = elim [ zero ↦ λ b. omega arith | suc i ↦ λ b. omega arith ];
    balance = refl;
    limit = omega arith;
  };
  through = λ i b s t. omega arith;
  source = refl;
}

costs_one : cut_cost 2 1 ones (λ c. 1) alone ≡ 1
unfolding sum
costs_one = refl
