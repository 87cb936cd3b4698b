-- `Loaded::split_group` meets its contract: the division, its flips and the parts are what the group hands on.
use native.Mathlib.Omega.{arith}
use mathlib.Core.Path.{sym, ◌∙◌}
use lib.ListN.{length}
use Rattle.split.specs.Groups.{IsSplit}
use Rattle.split.specs.inner.On as on
use Rattle.split.proofs.Dividing.{handed_on}
use Rattle.split.proofs.Standing.{sized}
use Rattle.split.proofs.loaded.Loaded.split_group.Goals as goal

pub parts-number-requires : goal.parts-number-requires
parts-number-requires c =
    let (flips, parallel, kept) = c.flip.ensures in
    (rw kept.columns (parallel.zeros ∙ sym parallel.ones), c.requires.2)

pub returns : goal.returns
returns c =
    let x = c.args.self.now in
    let all = sized x x.weights (omega arith) in
    let (flips, parallel, kept) = c.flip.ensures in
    let d = c.divide-found.result in
    let found : IsSplit (on.multiplicities x) (length (on.weights x)) (on.columns x) c.args.group d.cost d.side d.other = rw all c.divide-found.ensures.0 in (
      handed_on c.requires.0.positive found (rw all (rw (kept.columns, kept.weights) at flips)) parallel (rw kept.columns at c.parts-number.ensures),
      record { planes = kept.planes; weights = kept.weights; taxa = kept.taxa; columns = kept.columns },
      c.divide-found.ensures.1,
    )
