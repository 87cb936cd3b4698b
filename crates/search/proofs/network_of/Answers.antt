-- `search::network_of` meets its contract. The invariant: the places passed are filled, in both lists.
use native.Mathlib.Omega.{arith}
use mathlib.Core.Bool.{Bool, cond}
use mathlib.Core.Path.{◌≡◌, sym, ap, ap₂, ◌∙◌}
use native.Mathlib.Decide.{dec_lt}
use Prim.Native.Nat.{ℕ, ◌<◌, ◌*◌, ◌^◌}
use lib.Dec.{ltb}
use borrow.Author.Tests.{lt-ltb, le-ltb}
use Rattle.taxa.specs.Sets.{mass, count, multiplicity_in}
use Rattle.taxa.proofs.Counts.{count_pos, count_zero}
use Rattle.taxa.proofs.Members.{∩-≤}
use Rattle.search.specs.Search.{nth}
use Rattle.search.proofs.Tables.{table_next}
use Rattle.search.proofs.network_of.Goals as goal

-- A set is empty exactly where it counts none.
some_count : {x : ℕ} → x < 2 ^ 64 → ltb 0 x ≡ ltb 0 (count 64 x)
some_count {x} f =
    elim (dec_lt 0 (count 64 x)) [
      | yes p ↦ lt-ltb 0 x (count_pos 64 p) ∙ sym (lt-ltb 0 (count 64 x) p)
      | no n ↦ le-ltb 0 x (omega (arith, count_zero 64 f (omega arith))) ∙ sym (le-ltb 0 (count 64 x) (omega arith))
    ]

pub loop-c-preserved : goal.loop-c-preserved
loop-c-preserved c =
    let a = c.args in
    let v = c.loop-c.invariant in
    let b : c.loop-c.c < 256 = omega (arith, c.requires.0) in
    let z = c.common-z in
    let fits : z.result < 2 ^ 64 = omega (arith, z.ensures, ∩-≤ (nth a.zeros.now c.loop-c.c) a.group, c.ranges.group.fits) in (
      omega arith,
      table_next v.1 b (c.unless_none.ensures ∙ ap₂ (λ (t : Bool) (x : ℕ). cond t x 0) (some_count fits ∙ ap (λ (x : ℕ). ltb 0 (count 64 x)) z.ensures) c.common.ensures),
      table_next v.2 (omega (arith, b)) (ap₂ (λ (x y : ℕ). x * y) c.from.ensures (c.mass_in.ensures.0 ∙ ap (mass 64 (multiplicity_in a.planes.now)) z.ensures)),
    )
