-- How the list of planes and multiplicities is made.
use Rattle.std.specs.Prelude.{◌≡◌, List, ℕ, ◌-◌, ◌≤◌, ◌<◌, get_or}
use Rattle.taxa.specs.Sets.{has, multiplicity, plane_has}

-- What stands at place p of such a list for the multiplicities ms: a set, or what a taxon stands for.
pub record Placed (ms : List ℕ) (p v : ℕ) : Type 0 where
  pub set : p < 8 → (i : ℕ) → has v i ≡ plane_has (get_or ms i 0) p
  pub table : 8 ≤ p → v ≡ multiplicity ms (p - 8)
