-- `columns::flip_front` meets its contract: the columns in front are flipped, and what stands behind them stays.
use native.Mathlib.Omega.{arith}
use mathlib.Core.Path.{◌≡◌, ◌∙◌, sym}
use mathlib.Core.List.{List, ◌++◌}
use Prim.Native.Nat.{ℕ}
use lib.ListN.{length, take}
use lib.Seq.{length-take-le, take-append_seam}
use Rattle.split.proofs.columns.flip_front.Goals as goal

-- What is put back in front of the rest is what stands in front.
front_again : (m : ℕ) (new rest : List ℕ) → length new ≡ m → take m (new ++ rest) ≡ new
front_again m new rest e = rw (sym e) (take-append_seam new rest)

pub flip_columns-requires : goal.flip_columns-requires
flip_columns-requires c =
    let front : (xs : List ℕ) → length xs ≡ 256 → length (take c.args.m xs) ≡ c.args.m = λ xs e. length-take-le c.args.m xs (omega (arith, c.requires)) in
    let w = front _ c.told-weights in
    record { ones = front _ c.told-ones ∙ sym w; zeros = front _ c.told-zeros ∙ sym w }

pub returns : goal.returns
returns c =
    let (flips, p) = c.flip_columns.ensures in
    let w : length (take c.args.m c.args.weights.now) ≡ c.args.m = length-take-le _ _ (omega (arith, c.requires, c.told-weights)) in
    rw (front_again c.args.m c.flip_columns.new.ones _ (p.ones ∙ w), front_again c.args.m c.flip_columns.new.zeros _ (p.zeros ∙ w))
    (rw w at flips, p)
