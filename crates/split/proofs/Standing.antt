-- What stands in front in the lists of a loaded matrix: an entry for each column (`sized`, `parallel`). And what a split keeps (`kept_on`).
use mathlib.Core.Path.{◌≡◌, refl, ◌∙◌, sym}
use mathlib.Core.List.{List}
use Prim.Native.Nat.{ℕ}
use native.Mathlib.Omega.{arith}
use lib.ListN.{length}
use lib.Seq.{length-take-le}
use Rattle.split.specs.declared.loaded.Loaded.{Loaded}
use Rattle.split.specs.inner.Handing.{Parallel}
use Rattle.split.specs.inner.On as on

module _ (x : Loaded) where
  pub sized : (xs : List ℕ) → length xs ≡ 256 → length (on.entries x xs) ≡ x.m
  sized xs e = length-take-le x.m xs (omega (arith, x.few_columns))

  pub parallel : (os zs : List ℕ) → length x.weights ≡ 256 → length os ≡ 256 → length zs ≡ 256 → Parallel (on.weights x) (on.entries x os) (on.entries x zs)
  parallel os zs w o z = record { ones = sized os o ∙ sym (sized x.weights w); zeros = sized zs z ∙ sym (sized x.weights w) }

-- Where nothing changed, and where nothing changed twice.
pub kept_all : (x : Loaded) → on.Kept x x
kept_all x = record { planes = refl; weights = refl; taxa = refl; columns = refl }

pub kept_on : {x y z : Loaded} → on.Kept x y → on.Kept y z → on.Kept x z
kept_on k l = record { planes = l.planes ∙ k.planes; weights = l.weights ∙ k.weights; taxa = l.taxa ∙ k.taxa; columns = l.columns ∙ k.columns }
